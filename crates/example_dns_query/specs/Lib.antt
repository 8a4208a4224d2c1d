pub mod Answer
pub mod Line
pub mod Message
pub mod Name
pub mod Parts
