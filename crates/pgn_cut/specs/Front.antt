-- Bridge: the cuts of a stream whose first text has not begun.
use Rattle.std.specs.Prelude.{◌≡◌, ℕ, ◌+◌, ◌-◌, ◌<◌, ◌≤◌, List, [], ◌∷◌, ◌++◌, Option, Some, None, length, take}
use Rattle.explorer_model.specs.Cuts.{Cut, Preamble, preamble, cuts_of}
use Rattle.pgn_cut.specs.Line.{parted_after}
use Rattle.pgn_cut.specs.Text.{at_start, cuts_of_text}
use Rattle.pgn_cut.specs.declared.front.Front.{Front}
use Rattle.pgn_cut.specs.declared.front.Onward.{Onward}
use Rattle.pgn_cut.specs.declared.front.Onward.TheVariants.{Before, Start}

-- the refusal of the bytes before the first text
abbrev pub refusal_of : Option ℕ → List Cut
refusal_of None = []
refusal_of (Some first) = Preamble first ∷ []

-- that refusal by the first byte that is known, else by further bytes at a place
abbrev pub preamble_with : Option ℕ → ℕ → List ℕ → List Cut
preamble_with (Some first) place bytes = Preamble first ∷ []
preamble_with None place bytes = preamble place bytes

-- the cuts of what follows `came` bytes and of those of them that are open
unfoldable pub cuts_before : ℕ → Option ℕ → ℕ → List ℕ → List Cut
cuts_before came first matched rest =
    let place = came - (matched - 1) in
    let parts = parted_after matched rest in
    preamble_with first place parts.before ++ cuts_of (place + length parts.before) parts.texts

abbrev pub cuts_of_front : Front → List ℕ → List Cut
cuts_of_front f rest = cuts_before f.came f.first f.matched rest

-- a start ends with the bytes that were taken
pub record Starts (f : Front) (piece : List ℕ) (taken : ℕ) (first : Option ℕ) : Type 0 where
  pub some : 0 < taken
  pub within : taken ≤ length piece
  pub behind : 7 ≤ f.came + taken
  pub cuts : (rest : List ℕ) → refusal_of first
      ++ cuts_of_text (at_start (f.came + taken - 7)) rest
      ≡ cuts_of_front f (take taken piece ++ rest)

-- no cut ends in the piece, or a start ends with the bytes that were taken
abbrev pub GoesOnward : Front → List ℕ → Onward → Type 0
GoesOnward f piece (Before f') =
    (f'.came ≡ f.came + length piece)
    × ((rest : List ℕ) → cuts_of_front f' rest ≡ cuts_of_front f (piece ++ rest))
GoesOnward f piece (Start taken first) = Starts f piece taken first
