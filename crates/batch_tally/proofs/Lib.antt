pub mod Completing
pub mod Verdicts
pub mod Stages
pub mod Pushing
pub mod Counting
pub mod LeafLemmas
pub mod RunLemmas
pub mod RangeLemmas
pub mod Candidates
pub mod Made
pub mod Whole
pub mod Determined
mod Accounting
pub mod Deciding
pub mod MarkLemmas
