pub mod CutStreams
pub mod FrameLaws
pub mod Frames
pub mod Lengths
pub mod WholeStreams
