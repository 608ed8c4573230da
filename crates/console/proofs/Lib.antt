pub mod Joining
pub mod Judging
pub mod Owners
