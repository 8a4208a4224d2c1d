pub mod Boundaries
pub mod Extending
pub mod Filters
pub mod Lists
pub mod Wide
