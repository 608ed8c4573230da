pub mod Data
pub mod Distinct
pub mod Nodes
pub mod Refusals
pub mod Rows
pub mod Rules
