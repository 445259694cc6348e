pub mod BesideLaws
pub mod FrontLaws
pub mod NameLaws
