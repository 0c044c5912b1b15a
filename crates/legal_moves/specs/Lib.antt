pub mod Tidy
pub mod Listing
pub mod EnemySets
pub mod PieceSets
pub mod Pins
pub mod CheckMasks
pub mod Sources
