pub mod FirstDetermined
pub mod FirstLemmas
pub mod FirstLimits
pub mod JournalLemmas
pub mod OpeningLemmas
pub mod PayloadLemmas
pub mod ReadingLemmas
pub mod StoringLemmas
