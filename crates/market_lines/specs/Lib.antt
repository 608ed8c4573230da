pub mod Causes
pub mod Kinds
pub mod Records
pub mod Reports
