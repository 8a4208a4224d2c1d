pub mod Failed
pub mod Tidy
