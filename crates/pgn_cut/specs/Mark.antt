-- Bridge: the cuts of a stream of which at most a part of a byte order mark came.
use Rattle.std.specs.Prelude.{◌≡◌, ℕ, zero, suc, ◌+◌, ◌<◌, ◌≤◌, List, ◌++◌, Option, Some, None, length, take, drop}
use Rattle.explorer_model.specs.Cuts.{Cut, mark, cuts}
use Rattle.pgn_cut.specs.Front.{cuts_of_front}
use Rattle.pgn_cut.specs.declared.front.Front.{Front}
use Rattle.pgn_cut.specs.declared.mark.Marked.{Marked}
use Rattle.pgn_cut.specs.declared.mark.Marked.TheVariants.{Prefix, Past}

abbrev pub cuts_of_mark : ℕ → List ℕ → List Cut
cuts_of_mark count rest = cuts (take count mark ++ rest)

-- the bytes of the piece that were taken stand before those of the front, however many of the piece
-- are read: all, or enough to tell a mark
pub record Passes (count : ℕ) (piece : List ℕ) (front : Front) (taken : ℕ) : Type 0 where
  pub within : taken ≤ length piece
  pub came : front.came ≡ count + taken
  pub cuts : (n : ℕ) → taken ≤ n → (n < length piece → 3 ≤ count + n) → (rest : List ℕ)
      → cuts_of_front front (drop taken (take n piece) ++ rest)
      ≡ cuts_of_mark count (take n piece ++ rest)

pub record StaysMark (count : ℕ) (piece : List ℕ) (count' : ℕ) : Type 0 where
  pub came : count' ≡ count + length piece
  pub cuts : (rest : List ℕ) → cuts_of_mark count' rest ≡ cuts_of_mark count (piece ++ rest)

abbrev pub Marks : ℕ → List ℕ → Marked → Type 0
Marks count piece (Prefix prefix) = StaysMark count piece prefix.count
Marks count piece (Past front taken) = Passes count piece front taken

abbrev pub first_of_mark : ℕ → Option ℕ
first_of_mark zero = None
first_of_mark (suc count) = Some 0

abbrev pub matched_of_mark : ℕ → ℕ
matched_of_mark zero = 1
matched_of_mark (suc count) = 0

-- before the first text, with the first byte of a mark as a refusal where one came
pub record IsWithoutMark (count : ℕ) (front : Front) : Type 0 where
  pub came : front.came ≡ count
  pub first : front.first ≡ first_of_mark count
  pub matched : front.matched ≡ matched_of_mark count
