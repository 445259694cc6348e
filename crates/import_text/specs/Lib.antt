pub mod Outlines
pub mod Texts
