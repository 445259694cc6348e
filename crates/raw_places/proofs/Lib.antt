pub mod Crosses
pub mod Opens
pub mod Rows
pub mod Seen
pub mod Sharing
pub mod Steps
pub mod Values
pub mod Walks
