pub mod DrawLaws
pub mod PageLaws
