-- Bridge: the text in hand, and the cuts that come of it and what follows.
use Rattle.std.specs.Prelude.{◌≡◌, ℕ, ◌+◌, ◌-◌, ◌<◌, ◌≤◌, List, ◌∷◌, ◌++◌, length, take, drop, nat_le, if◌then◌else◌}
use Rattle.explorer_model.specs.Cuts.{Cut, Text, TooLong, event, text_limit, cuts_of}
use Rattle.pgn_cut.specs.Line.{open_bytes, parted_after}

pub record TextState : Type 0 where
  -- where it starts in the stream
  pub place : ℕ
  -- how many bytes of it came, the open ones included
  pub count : ℕ
  -- how many bytes of a line end and a start came last
  pub matched : ℕ
  -- the first of its bytes: a text that can be read is there whole, with the open ones
  pub kept : List ℕ

-- a start, and nothing behind it yet
abbrev pub at_start : ℕ → TextState
at_start place = record { place = place; count = 7; matched = 0; kept = event }

-- how many of its bytes surely are its own
abbrev pub settled : TextState → ℕ
settled t = t.count - (t.matched - 1)

-- the cut of a text by its front, of n bytes, and the rest of it
unfoldable pub cut_with : ℕ → ℕ → List ℕ → List ℕ → Cut
cut_with place n front more =
    if nat_le (n + length more) text_limit
    then Text (record { place = place; bytes = front ++ more })
    else TooLong place (n + length more)

-- the cuts of the text in hand and of the rest of the stream
unfoldable pub cuts_of_text : TextState → List ℕ → List Cut
cuts_of_text t rest =
    let parts = parted_after t.matched rest in
    cut_with t.place (settled t) (take (settled t) t.kept) parts.before
    ∷ cuts_of (t.place + settled t + length parts.before) parts.texts

-- the most bytes that are kept
abbrev pub kept_limit : ℕ
kept_limit = text_limit + 7

-- all of the text is kept, the open bytes last
pub record IsWhole (t : TextState) : Type 0 where
  pub all : length t.kept ≡ t.count
  pub ends : drop (settled t) t.kept ≡ open_bytes t.matched

pub record IsText (t : TextState) : Type 0 where
  pub short : t.matched < 8
  pub begun : 7 + (t.matched - 1) ≤ t.count
  pub small : length t.kept ≤ kept_limit
  pub whole : t.count ≤ kept_limit → IsWhole t
