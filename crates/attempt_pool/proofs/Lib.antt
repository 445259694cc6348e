pub mod FilledLaws
pub mod LinkLaws
pub mod ListLaws
pub mod NodeLaws
pub mod PoolLaws
pub mod RecordLaws
pub mod WalkLaws
