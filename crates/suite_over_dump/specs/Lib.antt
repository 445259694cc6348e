pub mod Dumps
pub mod Standing
pub mod Suites
