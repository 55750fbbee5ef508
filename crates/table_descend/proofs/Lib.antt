-- Laws of the way down, one subject a file.
pub mod Standings
pub mod Links
pub mod Earlier
pub mod Deciding
pub mod WayDown
pub mod InRow
