mod Appending
mod Creation
pub mod Gates
mod Records
mod Told
pub mod DeterminedLemmas
mod SyncedWrites
