pub mod PageForm
pub mod Pictures
