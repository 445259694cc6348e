pub mod Alone
pub mod Beside
pub mod Counted
pub mod Refused
pub mod Rests
pub mod Verbs
