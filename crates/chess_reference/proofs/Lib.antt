pub mod DecisionLemmas
pub mod Boards
mod Examples
