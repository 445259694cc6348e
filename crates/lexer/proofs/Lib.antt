pub mod LongestLaws
pub mod CutLaws
pub mod NumberEnds
pub mod NumberLaws
pub mod CoveringLaws
pub mod OneCut
