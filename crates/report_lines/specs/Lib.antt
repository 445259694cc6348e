pub mod Tallies
pub mod Lines
pub mod Totals
pub mod Shown
pub mod Texts
pub mod Written
