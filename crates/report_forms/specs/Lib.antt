pub mod Grown
pub mod Provenances
pub mod Refusals
pub mod Outcomes
pub mod Escapes
pub mod JsonForm
pub mod JunitForm
