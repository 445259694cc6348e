pub mod Faults
pub mod Views
pub mod Bytes
pub mod Bodies
