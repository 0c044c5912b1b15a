-- Statement: what is found through a scratch file, and why there is no answer.
use Rattle.std.specs.Prelude.{◌≡◌, ◌+◌, ◌≤◌, ◌<◌, ◌^◌, ℕ, List, length, Err, IfSome}
use Rattle.std.specs.List.{All, AllByRecursion, sum_by}
use Rattle.explorer_model.specs.Chess.{Legal}
use Rattle.explorer_model.specs.Finds.{IsFound}
use Rattle.explorer_model.specs.Tidy.{IsTidyKey}
use Rattle.explorer_model.specs.declared.answer.Found.{Found}
use Rattle.explorer_model.specs.declared.fault.Stop.{Stop}
use Rattle.explorer_model.specs.declared.query.Query.{Query}
use Rattle.lookup.specs.Reading.{read_steps, AreJudged, IsPartOf, IsUndamaged, StopsAt}
use Rattle.lookup.specs.Sound.{IsSoundAnswer}
use Rattle.outside.specs.Ports.{Scratch}
use Rattle.segment_blocks.specs.Segment.{CountedSpan}
use Rattle.spill_blobs.specs.Judging.{ReadsPart}
use Rattle.spill_blobs.specs.Marks.{marks}
use Rattle.spill_blobs.specs.Sets.{journal_of, Holds}
use Rattle.spill_blobs.specs.declared.port_fault.PortFault.{PortFault}

module _ (query : Query) (set : List CountedSpan) (before after : Scratch) where
  -- What is found: that of the set's journal where the file holds the set's bytes, and whatever it
  -- holds legal moves in SAN and games with sound tags. Over bytes that are told each part has rows.
  -- The file is as it was, and where it holds the set the steps are so many at most.
  pub record IsFoundThrough (steps_before steps_after : ℕ) (answer : Found) : Type 0 where
    pub found : Holds set before → IsFound (journal_of set) query answer
    pub sound : IsSoundAnswer query.at answer
    pub legal : AllByRecursion (λ line. Legal query.at line.next) answer.moves
    pub judged : (key : List ℕ) → IsTidyKey query.at key
        → IfSome before.appended (λ told. AreJudged query.at key set told (length set))
    pub kept : after ≡ before
    pub cost : (key : List ℕ) (digits : CountedSpan → ℕ) → IsTidyKey query.at key
        → All (λ segment. length (marks segment.rows) < 2 ^ digits segment) set → Holds set before
        → steps_after ≤ steps_before + sum_by (read_steps key digits) set

  -- Why there is no answer: a read failed, a part of the set is damaged, which none is where the file
  -- holds the set, and each before it has rows, or memory was wanting.
  pub record IsNotFoundThrough (stop : Stop PortFault) : Type 0 where
    pub whole : Holds set before → IsUndamaged stop
    pub faults : ReadsPart (Err stop) before after
    pub part : IsPartOf (length set) stop
    pub stopped : (key : List ℕ) → IsTidyKey query.at key
        → StopsAt query.at key set before.appended stop
