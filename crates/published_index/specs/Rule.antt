-- Bridge: the rule over what is published.
use Rattle.std.specs.Prelude.{◌≡◌, ⊤, ℕ, List, Option, None, Some}
use mathlib.Core.Option.{some}
use lib.ListN.{get_elem?}
use Rattle.logbook.specs.Pages.{Book}
use Rattle.explorer_model.specs.Timeline.{IsPrefix}
use Rattle.segment_blocks.specs.Segment.{CountedSpan}
use Rattle.published_index.specs.Cover.{journal_of}
use Rattle.published_index.specs.History.{Reached}

-- a beginning of the same history
pub record Begins (front whole : Reached) : Type 0 where
  pub book : front.book ≡ whole.book
  pub log : IsPrefix front.log whole.log

-- what a reader has seen, if anything, is a beginning of a front
abbrev pub IsBelow : Option Reached → Reached → Type 0
IsBelow None front = ⊤
IsBelow (Some seen) front = Begins seen front

pub record IsKeptBy (list : List CountedSpan) (front : Reached) (views : List (Option Reached))
    : Type 0 where
  pub tied : front.log ≡ journal_of list
  pub below : (seat : ℕ) (seen : Option Reached) → get_elem? views seat ≡ some seen
      → IsBelow seen front

-- what is published is seen, and it has all that was seen
pub record SeesShown (seen : Option Reached) (list : List CountedSpan) (front : Reached)
    (after : Option Reached) : Type 0 where
  pub below : IsBelow seen front
  pub tied : front.log ≡ journal_of list
  pub seen_now : after ≡ Some front

-- something of this book was seen
abbrev pub IsOf : Option Reached → Book → Type 0
IsOf None book = ⊥
IsOf (Some seen) book = seen.book ≡ book
