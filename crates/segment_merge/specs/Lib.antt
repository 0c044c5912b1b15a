pub mod Merged
pub mod Merging
pub mod Pushed
pub mod Ranges
pub mod Room
