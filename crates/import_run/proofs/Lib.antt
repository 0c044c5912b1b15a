pub mod AccountLemmas
mod AheadLemmas
pub mod AloneLemmas
mod AnswerLemmas
pub mod AnsweredLemmas
mod ApartLemmas
mod BesideLemmas
mod BodyLemmas
mod ChunkLemmas
mod CloseLemmas
mod ClosingLemmas
mod ComeBesideLemmas
mod ComeLemmas
mod CompleteLemmas
mod CountLemmas
mod CrashLemmas
mod CutLemmas
mod DrawLemmas
mod DeterminedLemmas
mod DrainLemmas
pub mod EarlyLemmas
pub mod EndedLemmas
mod FollowLemmas
mod FollowedLists
mod FrontLemmas
pub mod GroupLemmas
mod HandLemmas
mod HoldLemmas
mod LabelLemmas
pub mod LawLemmas
mod MergeLemmas
mod NewGameLemmas
pub mod NextLemmas
mod OverLemmas
mod PairLemmas
mod PlaceLemmas
mod ReachLemmas
mod ReadLemmas
mod RepeatLemmas
mod ReportLemmas
mod ReportOverLemmas
mod RoundLemmas
pub mod SameGroups
mod SendLemmas
mod SettledLemmas
mod ShortLemmas
mod SinceLemmas
pub mod SoFarLemmas
mod StopLemmas
mod StreamCutLemmas
mod TakingLemmas
pub mod TurnLemmas
mod UnderwayLemmas
mod UnendedLemmas
mod UpkeepLemmas
pub mod VerdictLemmas
