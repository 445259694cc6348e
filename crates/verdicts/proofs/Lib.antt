pub mod Sums
mod StreakCounts
