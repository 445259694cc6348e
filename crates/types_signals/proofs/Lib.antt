pub mod WidthLaws
pub mod SeeLaws
pub mod SequenceLaws
pub mod ListingLaws
pub mod AskedLaws
pub mod ReadLaws
