pub mod Idle
pub mod Late
pub mod Ports
pub mod Ranges
pub mod Told
pub mod Words
