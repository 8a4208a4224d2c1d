pub mod TinyLemmas
pub mod CloneLemmas
pub mod RefusedLemmas
pub mod FillingLemmas
pub mod ExtendingLemmas
pub mod FrameLemmas
pub mod ReplacingLemmas
pub mod PlaceLemmas
pub mod TookLemmas
mod CutOutLemmas
