-- Laws of the replies as structs.
pub mod Marks
