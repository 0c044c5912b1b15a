pub mod Writing
pub mod Values
pub mod Unnamed
pub mod PlainFound
pub mod Strings
