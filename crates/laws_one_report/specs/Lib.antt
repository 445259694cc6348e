pub mod Laws
pub mod ReadInText
pub mod Causes
pub mod Same
pub mod Suites
pub mod SegmentLaws
