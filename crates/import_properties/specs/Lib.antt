pub mod Conditions
pub mod Shapes
pub mod Derived
pub mod Properties
pub mod Outcomes
pub mod Laws
