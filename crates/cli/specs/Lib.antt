pub mod Programs
pub mod Reported
pub mod Timed
pub mod Outcomes
pub mod Builds
pub mod Explained
pub mod Heads
pub mod Waves
