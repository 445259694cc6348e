pub mod Opcodes
pub mod Spelling
pub mod Reading
pub mod Views
pub mod Laws
