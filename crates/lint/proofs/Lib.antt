pub mod ReadLaws
pub mod TellLaws
pub mod LintedLaws
