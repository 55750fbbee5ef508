-- Laws of a load, one subject a file.
mod Choosing
mod Operating
mod Repeating
mod Loads
