pub mod Held
pub mod History
pub mod Turned
