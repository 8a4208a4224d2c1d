pub mod RuleLemmas
pub mod PartLemmas
pub mod ViewLemmas
pub mod InsertedLemmas
pub mod AppendsLemmas
mod CutOutLemmas
pub mod Named
pub mod IntoIterLemmas
mod ResizingLemmas
mod Walks
mod PartWalks
