pub mod ReadsAsked
