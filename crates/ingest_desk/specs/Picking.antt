-- Statement: which neighbours of a list are to become one.
use Rattle.std.specs.Prelude.{◌≡◌, ℕ, ◌+◌, ◌*◌, ◌≤◌, List, length, Option, None, Some, slice_get}
use Rattle.segment_blocks.specs.Segment.{CanJoin, CountedSpan}

-- the left one has at most twice as many games as the right one
abbrev pub AreDue : CountedSpan → CountedSpan → Type 0
AreDue left right = length left.classes ≤ 2 * length right.classes

-- these are the neighbours at a place of a list
pub record AreAt (list : List CountedSpan) (at : ℕ) (left right : CountedSpan) : Type 0 where
  pub left_is : slice_get list at ≡ Some left
  pub right_is : slice_get list (at + 1) ≡ Some right

-- no neighbours from a place on are to become one
abbrev pub NoneDueFrom : ℕ → List CountedSpan → Type 0
NoneDueFrom first list =
    (at : ℕ) (left right : CountedSpan) → first ≤ at → AreAt list at left right
    → ¬ AreDue left right

-- the last neighbours that are to become one stand at this place
pub record IsLastDue (list : List CountedSpan) (at : ℕ) : Type 0 where
  pub left : CountedSpan
  pub right : CountedSpan
  pub stand : AreAt list at left right
  pub due : AreDue left right
  pub last : NoneDueFrom (at + 1) list

-- the most segments of a list in which no neighbours are to become one
abbrev pub rest_limit : ℕ
rest_limit = 18

-- there are no such neighbours; then the segments are few
pub record HasNoneDue (list : List CountedSpan) : Type 0 where
  pub none : NoneDueFrom 0 list
  pub few : length list ≤ rest_limit

-- the place of the last neighbours that are to become one, if there are any
abbrev pub Picks : List CountedSpan → Option ℕ → Type 0
Picks list None = HasNoneDue list
Picks list (Some at) = IsLastDue list at

-- these are the last neighbours that are to become one
pub record IsPicked (list : List CountedSpan) (left right : CountedSpan) : Type 0 where
  pub at : ℕ
  pub stand : AreAt list at left right
  pub due : AreDue left right
  pub last : NoneDueFrom (at + 1) list
  pub join : CanJoin left right
