pub mod Errors
pub mod Readings
pub mod Stream
