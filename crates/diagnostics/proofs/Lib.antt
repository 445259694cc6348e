pub mod BlankLaws
pub mod EndLaws
pub mod LeastLaws
pub mod LintLaws
pub mod Pieces
pub mod PlaceLaws
pub mod ShownLaws
