pub mod Cutting
pub mod Filing
pub mod Numbers
pub mod Readings
pub mod Rejoining
pub mod Sentences
pub mod Spelling
