-- What the library says, in the words of the contracts.
mod Chosen
