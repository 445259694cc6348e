pub mod MeaningLaws
pub mod TypedLaws
pub mod OneMeaning
pub mod EntryLaws
pub mod FaultLaws
pub mod Lists
pub mod TreeSteps
pub mod ColumnLaws
