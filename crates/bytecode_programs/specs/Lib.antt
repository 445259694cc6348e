pub mod Texts
pub mod Values
pub mod Views
pub mod Programs
pub mod Instructions
