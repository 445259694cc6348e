pub mod Pieces
pub mod TallyLaws
