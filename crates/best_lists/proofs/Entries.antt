-- Lists of entries: moved by a number, and compared by `==`.
use Rattle.std.proofs.Common.{◌≡◌, ℕ, map, Bool, ◌&&◌, ◌==◌, List, refl, arith}
use Rattle.std.specs.Bool.{Decides}
use Rattle.std.specs.Cmp.Lexicographic.{pointwise}
use Rattle.std.proofs.lemmas.Bool.Decides.{nat_tests}
use Rattle.std.proofs.lemmas.Slice.Eq.{slice_eq-Decides}
use Rattle.explorer_model.specs.Best.{best}
use Rattle.best_lists.specs.Entry.{moved_by}
use Rattle.best_lists.specs.Ranking.{KeepsWhenMoved}
use Rattle.best_lists.proofs.BestLaws.{best-map}
use Rattle.best_lists.specs.declared.entry.Entry.{Entry}

-- `==` of entries says whether they are the same
abbrev same_entry : Entry → Entry → Bool
same_entry a b = (a.rank == b.rank) && (a.number == b.number)

same_entry-Decides : (a b : Entry) → Decides (same_entry a b) (a ≡ b)
same_entry-Decides a b = (λ h. grind (arith, nat_tests), λ h. grind (arith, nat_tests))

pub same_entries-Decides : (xs ys : List Entry) → Decides (pointwise same_entry xs ys) (xs ≡ ys)
same_entries-Decides xs ys = slice_eq-Decides same_entry-Decides xs ys (pointwise same_entry xs ys) refl

-- the best of entries that are moved alike are those of the entries, moved
pub best-moved : {before : Entry → Entry → Bool} → KeepsWhenMoved before → (by n : ℕ) (xs : List Entry)
    → best before n (map (moved_by by) xs) ≡ map (moved_by by) (best before n xs)
best-moved {before} keeps by = best-map (moved_by by) before before (keeps by)
