pub mod LoopLaws
pub mod TextLaws
pub mod FieldLaws
pub mod InstrLaws
pub mod ProgramLaws
pub mod FitLaws
pub mod PutLaws
