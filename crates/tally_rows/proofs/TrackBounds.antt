-- What tracks of sound games come to at most: their ratings, and the numbers under which rows list them.
use Rattle.std.proofs.Common.{ℕ, ◌+◌, ◌*◌, ◌<◌, ◌≤◌, ◌^◌, Bool, true, false, ◌&&◌, cond, is_some, List, [], ◌∷◌, filter, length, sym, subst, arith}
use Rattle.std.specs.List.{All, AllByRecursion, AllZip, sum_by, count_by, enumerate_from}
use Rattle.std.proofs.lemmas.List.Elements.{All-nil, All-cons, All-map, All-filter, All-weaker}
use Rattle.std.proofs.lemmas.List.Sums.{sum_by-cons}
use Rattle.best_lists.proofs.BestLaws.{All-best}
use Rattle.best_lists.specs.declared.entry.Entry.{Entry}
use Rattle.explorer_model.specs.Best.{best}
use Rattle.explorer_model.specs.declared.archive.Classes.{Classes}
use Rattle.explorer_model.specs.declared.archive.Game.{Game}
use Rattle.explorer_model.specs.SoundClasses.{AreSoundClasses}
use Rattle.explorer_model.specs.Visits.{IsTextOf}
use Rattle.explorer_model.proofs.SoundClasses.{game-sound}
use Rattle.tally_rows.specs.declared.row_key.RowKey.{RowKey}
use Rattle.tally_rows.specs.Tallied.{is_black_to_move, mover_rating, entries, has_move}
use Rattle.tally_rows.specs.Tally.{IsTrackOf}
use Rattle.tally_rows.specs.Track.{Track, has}

-- ---- ratings

-- both ratings are at most 4000
abbrev pub HasRatings : Track → Type 0
HasRatings track = AreSoundClasses track.classes

mover-bound : (key : List ℕ) (classes : Classes) → AreSoundClasses classes → mover_rating key classes ≤ 65535
mover-bound key classes are = by (is_black_to_move key)
  where
    by : (b : Bool) → cond b classes.black.rating classes.white.rating ≤ 65535
    by true = omega (arith, are.black)
    by false = omega (arith, are.white)

pub ratings-bound : (key : List ℕ) (row_key : RowKey) (tracks : List Track) → AllByRecursion HasRatings tracks
    → sum_by (λ t. cond (has_move row_key t) (mover_rating key t.classes) 0) tracks ≤ 65535 * count_by (has row_key) tracks
ratings-bound key row_key [] are = omega arith
ratings-bound key row_key (t ∷ tracks) are =
    omega (
      arith,
      sum_by-cons (λ s. cond (has_move row_key s) (mover_rating key s.classes) 0) t tracks,
      sum_by-cons (λ s. cond (has row_key s) 1 0) t tracks,
      one (is_some row_key.next) (has row_key t) (mover-bound key t.classes are.0),
      ratings-bound key row_key tracks are.1,
    )
  where
    one : (a b : Bool) → mover_rating key t.classes ≤ 65535 → cond (a && b) (mover_rating key t.classes) 0 ≤ 65535 * cond {A = ℕ} b 1 0
    one true true le = omega arith
    one true false le = omega arith
    one false true le = omega arith
    one false false le = omega arith

-- the games of texts have their ratings
pub track-ratings : (texts : List (List ℕ)) (games : List Game) (tracks : List Track) → AllZip IsTextOf texts games → AllZip IsTrackOf games tracks
    → AllByRecursion HasRatings tracks
track-ratings [] [] [] of tracked = tt
track-ratings [] [] (t ∷ tracks) of tracked = absurd tracked
track-ratings [] (g ∷ games) tracks of tracked = absurd of
track-ratings (x ∷ texts) [] tracks of tracked = absurd of
track-ratings (x ∷ texts) (g ∷ games) [] of tracked = absurd tracked
track-ratings (x ∷ texts) (g ∷ games) (t ∷ tracks) of tracked =
    (subst AreSoundClasses (sym tracked.0.classes) (game-sound x g of.0), track-ratings texts games tracks of.1 tracked.1)

-- ---- numbers

module _ (rank : Track → ℕ) (test : Track → Bool) where
  entries-below : (n m : ℕ) (tracks : List Track) → n + length tracks ≤ m → All (λ entry. entry.number < m) (entries rank test n tracks)
  unfolding entries
  entries-below n m tracks le =
      All-map (λ (entry : Entry). entry.number < m) (λ (p : ℕ × Track). record { rank = rank p.1; number = p.0 })
      (filter (λ p. test p.1) (enumerate_from n tracks))
      (All-filter (λ p. test p.1) (λ p. p.0 < m) (enumerate_from n tracks) (numbers n tracks le))
    where
      numbers : (n : ℕ) (ts : List Track) → n + length ts ≤ m → All (λ (p : ℕ × Track). p.0 < m) (enumerate_from n ts)
      numbers n [] le = All-nil (λ (p : ℕ × Track). p.0 < m)
      numbers n (t ∷ ts) le = All-cons (λ (p : ℕ × Track). p.0 < m) (n, t) (enumerate_from (n + 1) ts) (omega arith) (numbers (n + 1) ts (omega arith))

  -- the best entries have room behind so many games
  pub best-fit : (before : Entry → Entry → Bool) (by : ℕ) (tracks : List Track) → by + length tracks ≤ 2 ^ 32
      → All (λ entry. entry.number + by < 2 ^ 32) (best before 4 (entries rank test 0 tracks))
  best-fit before by tracks le =
      All-best before (λ (entry : Entry). entry.number + by < 2 ^ 32) 4 (entries rank test 0 tracks)
      (All-weaker (λ (entry : Entry). entry.number < length tracks) (λ entry. entry.number + by < 2 ^ 32) (λ entry below. omega arith)
      (entries rank test 0 tracks) (entries-below 0 (length tracks) tracks (omega arith)))
