pub mod Bounds
pub mod Contents
pub mod Files
pub mod FormedLines
pub mod Keeping
pub mod Ledgers
