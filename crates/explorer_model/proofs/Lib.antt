pub mod Squares
pub mod Pieces
pub mod LetterLemmas
pub mod EnPassant
pub mod UciText
pub mod Totals
pub mod Readings
pub mod Lists
pub mod Timelines
pub mod LabelLemmas
pub mod StoreReading
pub mod StoreWriting
pub mod Asking
pub mod Standing
mod Examples
pub mod Accounts
pub mod SoundClasses
pub mod LegalGames
mod StoreExamples
mod WireExamples
mod TimelineExamples
pub mod NameLemmas
