pub mod BatchLaws
pub mod CutLaws
pub mod CountLaws
pub mod RowLaws
pub mod BoundLaws
pub mod JoinLaws
pub mod StreakLaws
