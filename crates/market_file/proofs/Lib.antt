pub mod Dues
pub mod Filing
pub mod Forming
pub mod Lawful
pub mod Limits
pub mod Sectioning
pub mod Wrongly
