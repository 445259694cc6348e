pub mod RowLaws
pub mod FormLaws
pub mod ShiftLaws
pub mod DecisionLaws
pub mod ExtentLaws
pub mod CauseLaws
