pub mod First
pub mod Manifest
