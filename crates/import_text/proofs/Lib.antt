pub mod OutlineLaws
pub mod TextLaws
