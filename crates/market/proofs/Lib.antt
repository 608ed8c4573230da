pub mod Pigeonhole
