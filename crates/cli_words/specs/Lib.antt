pub mod Rows
pub mod Words
pub mod Paths
pub mod Files
