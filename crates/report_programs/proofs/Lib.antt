pub mod RowLaws
pub mod LineLaws
pub mod ListLaws
