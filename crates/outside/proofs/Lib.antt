mod ByteLemmas
mod DeterminedLemmas
pub mod DoorLemmas
mod PortLemmas
pub mod StreamLemmas
