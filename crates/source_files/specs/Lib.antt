pub mod Chosen
pub mod Globs
pub mod Heads
pub mod Parts
