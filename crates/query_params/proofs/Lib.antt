pub mod Determined
pub mod LegalPlays
pub mod Names
pub mod Numbers
pub mod Played
pub mod Splits
