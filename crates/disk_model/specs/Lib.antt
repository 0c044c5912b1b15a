pub mod Disk
pub mod Images
pub mod Memory
