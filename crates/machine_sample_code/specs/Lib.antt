pub mod Values
pub mod Decoding
pub mod Places
pub mod Decoded
pub mod Operands
pub mod Steps
pub mod Memory
pub mod Runs
