pub mod Faults
pub mod Statuses
pub mod Runs
pub mod Codes
