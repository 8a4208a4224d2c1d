pub mod Numbers
pub mod Indices
pub mod Words
pub mod RunLemmas
pub mod HistoryLemmas
pub mod Written
pub mod DrivingLemmas
pub mod SpliceText
