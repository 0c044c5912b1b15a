mod ColumnLemmas
mod Determined
mod HeldLemmas
mod LineLemmas
mod PieceLemmas
mod Walking
mod WordLemmas
pub mod KeyLemmas
