pub mod LesserLemmas
pub mod MergedLemmas
pub mod PartsLemmas
pub mod PushedLemmas
pub mod RangeLemmas
pub mod RisingLemmas
pub mod RoomLemmas
pub mod SideLemmas
