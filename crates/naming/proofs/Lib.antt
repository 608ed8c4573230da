pub mod Naming
pub mod Repeating
