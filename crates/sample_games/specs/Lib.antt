pub mod Movetexts
pub mod Samples
pub mod Streams
pub mod StreamLaws
