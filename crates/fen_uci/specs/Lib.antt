pub mod Splits
pub mod Ranks
pub mod Faults
