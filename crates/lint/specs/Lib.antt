pub mod Reached
pub mod Tells
