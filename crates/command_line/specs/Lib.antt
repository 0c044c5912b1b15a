pub mod Task
pub mod Words
