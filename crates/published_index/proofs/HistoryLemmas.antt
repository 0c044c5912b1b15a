-- The steps of a history's word keep the rule of the book.
use Rattle.std.proofs.Common.{◌≡◌, ℕ, zero, suc, ◌+◌, ◌<◌, ◌≤◌, ◌==◌, Bool, true, false, List, [], ◌∷◌, ◌++◌, length, replicate, slice_index_or, slice_set, refl, ap, sym, ◌∙◌, subst, arith, inl, append_assoc, length-append, None}
use Rattle.std.proofs.lemmas.List.{append-nil, length-replicate}
use Rattle.std.proofs.lemmas.Bool.Decides.{nat_tests}
use mathlib.Core.List.{IsPrefix}
use prog.Atomic.{either}
use Rattle.logbook.specs.Pages.{Cell, cell, nib, keeps, gives, adds, may_make, may_write, no_nib, step, Away, Moves, Goes}
use Rattle.explorer_model.specs.declared.archive.Batch.{Batch}
use Rattle.published_index.specs.History.{cells_of, key_behind, IsKept, AddsBatch, AddsCell, SeesAll}
use Rattle.published_index.proofs.PrefixLemmas.{begins-length, begins-whole}

abbrev shown : List Batch → List Batch
shown log = []

abbrev moved : List Batch → List Batch → ℕ → Type 0
moved xs ys n = Unit {0}

-- ---- cells

abbrev at-home : Cell
at-home = (0, true)

abbrev is-away : Cell
is-away = (0, false)

-- the two words of a book before its cells
abbrev with-word : ℕ → List Cell → List Cell
with-word word cells = (word, true) ∷ (0, true) ∷ cells

-- a cell that is not at home stands behind those that are
away-behind : (n : ℕ) (rest : List Cell) (k : ℕ) → (slice_index_or (replicate n at-home ++ rest) k is-away).1 ≡ false → n ≤ k
away-behind zero rest k e = omega arith
away-behind (suc n) rest zero e = absurd (cc (e))
away-behind (suc n) rest (suc k) e = omega (arith, away-behind n rest k e)

away-key : (n away key : ℕ) → (cell (cells_of n away) key).1 ≡ false → 2 + n ≤ key
away-key n away zero e = absurd (cc (e))
away-key n away (suc zero) e = absurd (cc (e))
away-key n away (suc (suc k)) e = omega (arith, away-behind n (replicate away is-away) k e)

-- one more that is away
replicate-behind : (m : ℕ) → replicate m is-away ++ is-away ∷ [] ≡ replicate (suc m) is-away
replicate-behind zero = refl
replicate-behind (suc m) = ap (λ l. is-away ∷ l) (replicate-behind m)

-- the first one that is away comes home
comes-home : (n : ℕ) (rest : List Cell) → slice_set (replicate n at-home ++ is-away ∷ rest) n at-home ≡ replicate (suc n) at-home ++ rest
comes-home zero rest = refl
comes-home (suc n) rest = ap (λ l. at-home ∷ l) (comes-home n rest)

first-comes-home : (n away key word : ℕ) → away ≡ 2 → key ≡ suc (suc n)
    → slice_set (with-word word (replicate n at-home ++ replicate away is-away)) key at-home ≡ with-word word (replicate (suc n) at-home ++ is-away ∷ [])
first-comes-home n away key word two is =
    ap (λ (k : ℕ). slice_set (with-word word (replicate n at-home ++ replicate away is-away)) k at-home) is
    ∙ ap (λ (a : ℕ). with-word word (slice_set (replicate n at-home ++ replicate a is-away) n at-home)) two
    ∙ ap (with-word word) (comes-home n (is-away ∷ []))

-- ---- what the pen tells

-- the pen of a cell behind no more than was seen is that of the first one behind all of it
pub record IsAll (seen log : List Batch) (key : ℕ) : Type 0 where
  pub seen_is : seen ≡ log
  pub key_is : key ≡ key_behind log

pen-tells : (seen log : List Batch) (key away : ℕ) → key ≤ key_behind seen → IsPrefix seen log
    → Away (nib may_write key 0) (cells_of (length log) away) → IsAll seen log key
pen-tells seen log key away few begins is-out =
    let least : 2 + length log ≤ key = away-key (length log) away key (is-out refl).1 in
    let no-more : length seen ≤ length log = begins-length seen log begins in
    record { seen_is = begins-whole seen log begins (omega arith); key_is = omega arith }

-- ---- steps

add-cell-goes : (log seen : List Batch) (ask : Batch) (away old : ℕ) → (away ≡ 0 → log ≡ [])
    → (found : Bool) → (away == old) ≡ found
    → Goes IsKept shown moved 0 (seen, (no_nib, None)) (λ n. either (n == old) (old + 1) n) (AddsCell (step 0 old (old + 1) ask) (seen, (no_nib, None))) (cells_of (length log) away) log
add-cell-goes log seen ask away old first true is =
    let here : away ≡ old = grind (arith, nat_tests) in
    let all : log ++ [] ≡ log = append-nil log in
    let n = length log in
    let word : either (away == old) (old + 1) away ≡ suc old = rw is (omega arith) in
    let cells : (replicate n at-home ++ replicate away is-away) ++ is-away ∷ [] ≡ replicate n at-home ++ replicate (suc away) is-away =
    append_assoc (replicate n at-home) (replicate away is-away) (is-away ∷ [])
    ∙ ap (λ l. replicate n at-home ++ l) (replicate-behind away) in
    let count : length (replicate n at-home ++ replicate away is-away) ≡ n + away =
    omega (arith, length-append (replicate n at-home) (replicate away is-away), length-replicate n at-home, length-replicate away is-away) in (
      adds,
      [],
      None,
      tt,
      record {
        away = suc old;
        cells_are = ap (with-word (either (away == old) (old + 1) away)) cells
            ∙ ap (λ (w : ℕ). with-word w (replicate n at-home ++ replicate (suc away) is-away)) word
            ∙ ap (λ (a : ℕ). with-word (suc old) (replicate n at-home ++ replicate (suc a) is-away)) here
            ∙ ap (λ (l : List Batch). cells_of (length l) (suc old)) (sym all);
        first = λ e. absurd (omega arith);
      },
      inl (refl, refl),
      rw (is, all) (ap (λ (key : ℕ). nib may_make key 0) (omega (arith, count)), λ e. first (here ∙ e)),
    )
add-cell-goes log seen ask away old first false is =
    let all : log ++ [] ≡ log = append-nil log in (
      keeps,
      [],
      None,
      tt,
      record { away = away; cells_are = rw (is, all) refl; first = λ e. all ∙ first e },
      inl (refl, refl),
      rw is tt,
    )

-- whatever the book is, the exchange adds a cell, or finds that another number is away
pub add-cell-moves : (seen : List Batch) (ask : Batch) (old : ℕ)
    → Moves IsKept shown moved 0 (seen, (no_nib, None)) (λ n. either (n == old) (old + 1) n) (AddsCell (step 0 old (old + 1) ask) (seen, (no_nib, None)))
add-cell-moves seen ask old cells log kept begins away =
    let P : List Cell → Type 0 = λ c. (0 < length c) × ((cell c 0).1 ≡ true) × Goes IsKept shown moved 0 (seen, (no_nib, None)) (λ n. either (n == old) (old + 1) n) (AddsCell (step 0 old (old + 1) ask) (seen, (no_nib, None))) c log in
    subst P (sym kept.cells_are) (omega arith, refl, add-cell-goes log seen ask kept.away old kept.first (kept.away == old) refl)

add-goes : (log seen : List Batch) (ask : Batch) (away key : ℕ) → (away ≡ 0 → log ≡ []) → IsAll seen log key
    → (found : Bool) → (away == 2) ≡ found
    → Goes IsKept shown moved 0 (seen, (nib may_write key 0, None)) (λ n. either (n == 2) 1 n) (AddsBatch (step 0 2 1 ask) (seen, (nib may_write key 0, None))) (cells_of (length log) away) log
add-goes log seen ask away key first whole true is =
    let here : away ≡ 2 = grind (arith, nat_tests) in
    let n = length log in
    let more : suc n ≡ length (log ++ ask ∷ []) = omega (arith, length-append log (ask ∷ [])) in
    let word : either (away == 2) 1 away ≡ 1 = rw is refl in
    let cells = first-comes-home n away key (either (away == 2) 1 away) here (omega (arith, whole.key_is)) in (
      gives,
      ask ∷ [],
      None,
      refl,
      record { away = 1; cells_are = cells ∙ ap (λ (w : ℕ). with-word w (replicate (suc n) at-home ++ is-away ∷ [])) word ∙ ap (λ (k : ℕ). cells_of k 1) more; first = λ e. absurd (cc (e)) },
      inl (refl, refl),
      rw is (ap (λ w. w ++ ask ∷ []) (sym whole.seen_is), whole.key_is ∙ ap key_behind (sym whole.seen_is)),
    )
add-goes log seen ask away key first whole false is =
    let all : log ++ [] ≡ log = append-nil log in (
      keeps,
      [],
      None,
      tt,
      record { away = away; cells_are = rw (is, all) refl; first = λ e. all ∙ first e },
      inl (refl, refl),
      rw is refl,
    )

-- whatever the book is, the exchange adds the batch behind all that was seen, or finds that another
-- number is away
pub add-moves : (seen : List Batch) (ask : Batch) (key : ℕ) → key ≤ key_behind seen
    → Moves IsKept shown moved 0 (seen, (nib may_write key 0, None)) (λ n. either (n == 2) 1 n) (AddsBatch (step 0 2 1 ask) (seen, (nib may_write key 0, None)))
add-moves seen ask key few cells log kept begins away =
    let P : List Cell → Type 0 = λ c. (0 < length c) × ((cell c 0).1 ≡ true) × Goes IsKept shown moved 0 (seen, (nib may_write key 0, None)) (λ n. either (n == 2) 1 n) (AddsBatch (step 0 2 1 ask) (seen, (nib may_write key 0, None))) c log in
    let whole = pen-tells seen log key kept.away few begins (subst (Away (nib may_write key 0)) kept.cells_are away) in
    subst P (sym kept.cells_are) (omega arith, refl, add-goes log seen ask kept.away key kept.first whole (kept.away == 2) refl)

see-all-goes : (log seen : List Batch) (ask : Batch) (away key : ℕ) → (away ≡ 0 → log ≡ []) → key ≡ key_behind log
    → (found : Bool) → (away == 1) ≡ found
    → Goes IsKept shown moved 0 (seen, (nib may_write key 0, None)) (λ n. either (n == 1) 1 n) (SeesAll (step 0 1 1 ask) (seen, (nib may_write key 0, None))) (cells_of (length log) away) log
see-all-goes log seen ask away key first is-key found is =
    let all : log ++ [] ≡ log = append-nil log in
    let same : either (away == 1) 1 away ≡ away = unchanged away found is in (
      keeps,
      [],
      None,
      tt,
      record { away = away; cells_are = rw (same, all) refl; first = λ e. all ∙ first e },
      inl (refl, refl),
      (rw all is-key, refl),
    )
  where
    unchanged : (n : ℕ) (test : Bool) → (n == 1) ≡ test → either (n == 1) 1 n ≡ n
    unchanged n true e = rw e (grind (arith, nat_tests))
    unchanged n false e = rw e refl

-- whatever the book is, the exchange changes nothing, and the pen tells that all was seen
pub see-all-moves : (seen : List Batch) (ask : Batch) (key : ℕ) → key ≤ key_behind seen
    → Moves IsKept shown moved 0 (seen, (nib may_write key 0, None)) (λ n. either (n == 1) 1 n) (SeesAll (step 0 1 1 ask) (seen, (nib may_write key 0, None)))
see-all-moves seen ask key few cells log kept begins away =
    let P : List Cell → Type 0 = λ c. (0 < length c) × ((cell c 0).1 ≡ true) × Goes IsKept shown moved 0 (seen, (nib may_write key 0, None)) (λ n. either (n == 1) 1 n) (SeesAll (step 0 1 1 ask) (seen, (nib may_write key 0, None))) c log in
    let whole = pen-tells seen log key kept.away few begins (subst (Away (nib may_write key 0)) kept.cells_are away) in
    subst P (sym kept.cells_are) (omega arith, refl, see-all-goes log seen ask kept.away key kept.first whole.key_is (kept.away == 1) refl)
