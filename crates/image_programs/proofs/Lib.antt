-- What the programs print, test by test.
pub mod Printing
