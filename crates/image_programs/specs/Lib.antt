-- What the programs print of the image on their standard input.
pub mod Printed
