pub mod Taking
pub mod Each
