pub mod TruthLaws
pub mod LengthLaws
pub mod PartLaws
pub mod CaseLaws
pub mod HalfLaws
