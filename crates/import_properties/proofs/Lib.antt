pub mod LetterLaws
pub mod OutcomeLaws
pub mod FormLaws
pub mod RowLaws
pub mod ProfileLaws
pub mod UntilLaws
