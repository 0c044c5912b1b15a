pub mod Meaning
pub mod Rows
pub mod Runs
pub mod Shapes
pub mod Spans
pub mod Steps
pub mod Strings
pub mod Symbols
pub mod Words
pub mod Export
pub mod Examples
mod ByteTables
