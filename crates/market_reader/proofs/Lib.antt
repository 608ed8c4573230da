mod Entering
mod Holding
pub mod Lawful
mod Recording
mod RightNames
mod Soundness
mod Tables
mod Tabling
