pub mod Faults
pub mod Laws
pub mod Names
pub mod Repeats
