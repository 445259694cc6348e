pub mod Receipts
pub mod Counts
pub mod Blanks
pub mod Shares
