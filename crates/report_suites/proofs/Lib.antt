pub mod LineLaws
pub mod PushLaws
pub mod SampledLaws
pub mod ReportLaws
