pub mod Limits
pub mod Verifications
pub mod Outcomes
pub mod Upgrades
