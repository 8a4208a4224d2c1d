pub mod Commands
pub mod Errors
pub mod Hex
pub mod Shown
