pub mod PieceLaws
pub mod EscapeLaws
pub mod ValueLaws
