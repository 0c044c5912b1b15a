pub mod Packed
pub mod CodeNames
pub mod Names
