pub mod Laws
pub mod Making
pub mod Meanings
pub mod Questions
pub mod Views
