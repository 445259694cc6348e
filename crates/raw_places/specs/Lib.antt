pub mod Lends
pub mod Ownership
pub mod Filled
