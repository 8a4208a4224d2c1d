pub mod AtFaults
pub mod Blocks
pub mod Both
pub mod Counts
pub mod ItemByItem
pub mod ItemsInFront
pub mod Lengths
pub mod NumberBlocks
pub mod Outcomes
pub mod Parts
pub mod Place
mod Pushed
pub mod ReadBack
pub mod ReadItems
pub mod Tagged
pub mod Texts
