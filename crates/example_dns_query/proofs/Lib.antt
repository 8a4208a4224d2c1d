pub mod Faults
pub mod LineFaults
pub mod LineLemmas
pub mod MessageLemmas
pub mod NameLemmas
pub mod PartsLemmas
pub mod SpellingLemmas
