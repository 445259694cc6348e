pub mod Lexemes
pub mod Runs
pub mod Numbers
pub mod Cutting
pub mod Covering
pub mod Laws
