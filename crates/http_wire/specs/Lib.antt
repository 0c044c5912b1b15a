pub mod Asking
pub mod Fields
pub mod Judging
pub mod Replying
pub mod Runs
pub mod Scanning
pub mod Steps
