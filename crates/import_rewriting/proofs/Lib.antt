pub mod SaysLaws
pub mod Sizes
pub mod EndsLaws
pub mod JoinLaws
pub mod MatchLaws
pub mod ConsequentLaws
pub mod SideLaws
