pub mod ProgramLaws
pub mod LineLaws
pub mod SuiteLaws
pub mod WrittenOut
pub mod Small
pub mod TextTrees
pub mod Depths
