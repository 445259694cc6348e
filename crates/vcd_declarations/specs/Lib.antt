pub mod Sections
pub mod Declarations
pub mod Views
