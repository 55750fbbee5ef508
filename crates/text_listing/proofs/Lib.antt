-- Laws of the listing.
pub mod Examples
pub mod Claims
pub mod Filling
pub mod Walking
pub mod RecordFields
pub mod Shows
pub mod Measuring
