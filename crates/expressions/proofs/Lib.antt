pub mod Opened
pub mod Chains
pub mod Grown
pub mod Fits
pub mod Causality
pub mod RowLaws
pub mod Meanings
