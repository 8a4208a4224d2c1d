pub mod Cut
pub mod Calls
pub mod ThreeLines
pub mod BadAndText
pub mod Spliced
pub mod words
