pub mod DrainEnded
pub mod LargestLemmas
pub mod SpliceCounted
pub mod SpliceEnded
pub mod words
