pub mod Imported
pub mod Placed
pub mod Written
