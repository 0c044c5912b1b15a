mod Keeping
mod Lending
mod Places
mod Ports
pub mod Things
