pub mod Fills
pub mod TurnedLaws
