pub mod Laws
pub mod Lines
pub mod Reported
pub mod Batches
pub mod Ages
pub mod Streaks
