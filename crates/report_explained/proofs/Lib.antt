pub mod AllLaws
pub mod ChosenLaws
pub mod ExpressionLaws
pub mod FailedLaws
pub mod ReachLaws
pub mod SheetLaws
pub mod ShownLaws
pub mod ZipLaws
