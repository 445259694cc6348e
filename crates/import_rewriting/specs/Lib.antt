pub mod Sides
pub mod Senses
pub mod Ends
pub mod Rewriting
