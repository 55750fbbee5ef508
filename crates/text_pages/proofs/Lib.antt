-- Pages worked out, how many there are, how long their lines are, what lists show, and the claims.
pub mod Worked
pub mod Counting
pub mod Lines
pub mod Shows
pub mod Claims
