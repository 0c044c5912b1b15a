pub mod SlotLemmas
pub mod JobLemmas
