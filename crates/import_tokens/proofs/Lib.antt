pub mod PieceLaws
pub mod ReadingLaws
pub mod NestingLaws
pub mod ConditionalLaws
