pub mod Accepting
pub mod KeyedBoard
pub mod Marks
pub mod Reading
pub mod Singles
pub mod Steps
pub mod Tag
pub mod Tallying
