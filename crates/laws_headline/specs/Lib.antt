pub mod Headline
pub mod Steps
pub mod Rounds
pub mod Owners
pub mod RoundTheorems
pub mod ThreadRounds
