pub mod TextLaws
pub mod SectionLaws
pub mod DeclarationLaws
pub mod PartLaws
pub mod SpellingLaws
