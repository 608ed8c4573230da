pub mod Layers
pub mod Orders
pub mod Priorities
pub mod Ranges
pub mod Right
pub mod Scans
pub mod Tenancies
pub mod Trees
