pub mod Faults
pub mod Filters
pub mod Spelled
pub mod Notes
pub mod Rows
pub mod Tables
pub mod Names
pub mod Told
