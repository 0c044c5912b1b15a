pub mod Groups
pub mod GroupSums
pub mod Hits
pub mod Listing
pub mod MoveSums
pub mod Sums
