pub mod Hosts
pub mod Memory
pub mod Real
