-- Bridge: where a stream stands in its line, and how its parts go on from there.
use Rattle.std.specs.Prelude.{◌≡◌, ℕ, ◌-◌, ◌≤◌, List, ◌++◌, length, take, nat_lt}
use Rattle.explorer_model.specs.Cuts.{Parted, parted, event}

-- how many of the bytes of a line end and an Event tag came last: 0 within a line, 1 where a line begins.
-- The bytes of the tag among them are open: whether they begin a text is not known yet
abbrev pub open_bytes : ℕ → List ℕ
open_bytes matched = take (matched - 1) event

-- the parts of the open bytes and of what comes behind them
unfoldable pub parted_after : ℕ → List ℕ → Parted
parted_after matched rest = parted (nat_lt 0 matched) (open_bytes matched ++ rest)

-- the parts of more bytes, where no text begins in those that are added
abbrev pub ahead : List ℕ → Parted → Parted
ahead head parts = record { before = head ++ parts.before; texts = parts.texts }

-- from the one count to the other by these bytes: those that are open no more are `head`, where no text begins
pub record GoesOn (matched : ℕ) (bytes : List ℕ) (matched' : ℕ) : Type 0 where
  pub head : List ℕ
  pub same : open_bytes matched ++ bytes ≡ head ++ open_bytes matched'
  pub parts : (rest : List ℕ) → parted_after matched (bytes ++ rest)
      ≡ ahead head (parted_after matched' rest)

-- so far in a piece: `taken` bytes of it, and the count behind them
pub record Scanned (matched : ℕ) (piece : List ℕ) (taken matched' : ℕ) : Type 0 where
  pub within : taken ≤ length piece
  pub short : matched' ≤ 8
  pub goes_on : GoesOn matched (take taken piece) matched'
