pub mod Test
pub mod StepBits
pub mod Rule
pub mod BitboardLemmas
pub mod BetweenLemmas
pub mod BoundLemmas
