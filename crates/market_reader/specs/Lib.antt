pub mod Filling
pub mod Held
pub mod Keeping
pub mod Markets
pub mod Rooms
pub mod Tables
