mod Faults
mod Filled
pub mod LineLemmas
pub mod Pieces
