pub mod Lists
pub mod Nodes
pub mod Pooled
pub mod Walk
