-- The operation that the code chooses, as the rules of a load name it.
pub mod Choice
