pub mod Ranked
pub mod BestLaws
pub mod Same
pub mod Entries
