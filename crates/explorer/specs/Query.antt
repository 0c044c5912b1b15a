-- Statement: what `query` does.
pub mod Store
pub mod Spilled
