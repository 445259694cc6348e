pub mod Waves
pub mod Scales
pub mod Views
pub mod Saves
