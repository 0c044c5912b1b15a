mod MemoryCalls
mod CrashLemmas
pub mod Moments
pub mod DeterminedLemmas
