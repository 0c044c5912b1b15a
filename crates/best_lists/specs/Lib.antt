pub mod Entry
pub mod Ranking
