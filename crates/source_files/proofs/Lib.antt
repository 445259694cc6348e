pub mod GlobLaws
