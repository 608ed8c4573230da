pub mod Cuts
pub mod Faults
pub mod Grammar
pub mod Lines
pub mod Reading
pub mod Words
pub mod Views
