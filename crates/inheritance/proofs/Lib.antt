pub mod Asking
pub mod Makings
