pub mod VerifyLaws
pub mod RunLaws
pub mod CodeLaws
pub mod WrittenLaws
