-- The rows of singles are tallied for the games whose singles these are.
use Rattle.std.proofs.Common.{◌≡◌, ℕ, ◌+◌, ◌<◌, Bool, true, false, ◌&&◌, cond, is_some, List, [], ◌∷◌, ◌++◌, map, length, get_or, refl, sym, ap, subst, ◌∙◌, arith}
use Rattle.std.specs.List.{All, AllByRecursion, sum_by, flat_map, filter, enumerate_from}
use Rattle.std.specs.List.Sorted.{IsPermutation, IsSorted}
use Rattle.std.specs.declared.cmp.Ordering.{Ordering}
use Rattle.std.specs.declared.cmp.Ordering.TheVariants.{Less, Equal, Greater}
use Rattle.std.specs.Ordering.{is_lt, nat_cmp, ordering_then}
use Rattle.std.proofs.lemmas.List.{get_or-map, length-map}
use Rattle.std.proofs.lemmas.List.Elements.{All-from_recursion, recursion_from_All, All-get_or}
use Rattle.std.proofs.lemmas.List.Sums.{sum_by-cons}
use Rattle.std.proofs.lemmas.List.Sorted.{IsPermutation-map, sum_by-IsPermutation, All-permutation, length_permutation}
use Rattle.explorer_model.specs.Best.{best, IsStrictTotalOrder}
use Rattle.best_lists.specs.Ranking.{before_by_rating, before_by_month, by_rating_is_order, by_month_is_order}
use Rattle.best_lists.specs.declared.entry.Entry.{Entry}
use Rattle.best_lists.proofs.Same.{ties, best-same}
use Rattle.explorer_model.specs.Counting.{month_number}
use Rattle.tally_rows.specs.declared.row_key.RowKey.{RowKey}
use Rattle.tally_rows.specs.declared.row.Row.{Row}
use Rattle.tally_rows.specs.declared.single.Single.{Single}
use Rattle.tally_rows.specs.Adding.{sum_at, listed_at, SameAt, IsSound}
use Rattle.tally_rows.specs.RowKey.{row_order, same_row_key}
use Rattle.tally_rows.specs.Row.{row_key_of, row_of, is_white, is_draw, is_black, combined, combined_from, combined_rows}
use Rattle.tally_rows.specs.Single.{single_of, AreSingles}
use Rattle.tally_rows.specs.declared.sort_entry.SortEntry.{SortEntry}
use Rattle.tally_rows.specs.SortEntry.{any_single, picked, IsEntryIn}
use Rattle.tally_rows.specs.Within.{AreSinglesWithin, IsKey, TalliedWithin}
use Rattle.tally_rows.proofs.EntryOrder.{entry_order, entry_cmp}
use Rattle.tally_rows.specs.Tallied.{entries, has_move, mover_rating, rating_sum, track_month, Tallied}
use Rattle.tally_rows.specs.Track.{Track, has}
use Rattle.tally_rows.proofs.AddsUp.{AddsUp, AddsUp-same, tallied_from, tallied_within_from}
use Rattle.tally_rows.proofs.Combining.{SameAt-combined_rows, IsSound-row_of, IsSound-combined_rows, combined_rows-ordered, combined_from-nil, combined_from-same, combined_from-other, combined-row_key}
use Rattle.tally_rows.proofs.EntryLists.{entry_of}
use Rattle.tally_rows.proofs.Visits.{has-row_keys_at, row_keys_at-AreOf}
use Rattle.tally_rows.proofs.Sums.{sum_by-map, sum_by-filter, sum_by-flat_map}

-- ---- lists

flat_map-map : {X Y Z : Type 0} (f : Y → List Z) (g : X → Y) (xs : List X) → flat_map f (map g xs) ≡ flat_map (λ x. f (g x)) xs
flat_map-map f g [] = refl
flat_map-map f g (x ∷ xs) = ap (λ l. f (g x) ++ l) (flat_map-map f g xs)

flat_map-filter : {X Y : Type 0} (p : X → Bool) (f : X → List Y) (xs : List X) → flat_map (λ x. cond (p x) (f x) []) xs ≡ flat_map f (filter p xs)
flat_map-filter p f [] = refl
flat_map-filter p f (x ∷ xs) =
    elim (p x) as (λ b. cond b (f x) [] ++ flat_map (λ y. cond (p y) (f y) []) xs ≡ flat_map f (cond b (x ∷ filter p xs) (filter p xs))) [
      | true ↦ ap (λ l. f x ++ l) (flat_map-filter p f xs)
      | false ↦ flat_map-filter p f xs
    ]

flat_map-agree : {X Y : Type 0} (p : X → Bool) (f g : X → List Y) → ((x : X) → p x ≡ true → f x ≡ g x) → (xs : List X)
    → flat_map f (filter p xs) ≡ flat_map g (filter p xs)
flat_map-agree p f g e [] = refl
flat_map-agree p f g e (x ∷ xs) =
    elim (p x) as (λ b. p x ≡ b → flat_map f (cond b (x ∷ filter p xs) (filter p xs)) ≡ flat_map g (cond b (x ∷ filter p xs) (filter p xs))) [
      | true ↦ λ d i. e x d i ++ flat_map-agree p f g e xs i
      | false ↦ λ d. flat_map-agree p f g e xs
    ] refl

-- one value for each that passes, if there is any at all
flat_map-one : {X Y : Type 0} (b : Bool) (p : X → Bool) (f : X → Y) (xs : List X)
    → flat_map (λ x. cond b (f x ∷ []) []) (filter p xs) ≡ map f (filter (λ x. b && p x) xs)
flat_map-one b p f [] = refl
flat_map-one true p f (x ∷ xs) =
    elim (p x) as (λ c. flat_map (λ y. f y ∷ []) (cond c (x ∷ filter p xs) (filter p xs)) ≡ map f (cond c (x ∷ filter p xs) (filter p xs))) [
      | true ↦ ap (λ l. f x ∷ l) (flat_map-one true p f xs)
      | false ↦ flat_map-one true p f xs
    ]
flat_map-one false p f (x ∷ xs) =
    elim (p x) as (λ c. flat_map (λ y. []) (cond c (x ∷ filter p xs) (filter p xs)) ≡ map f (filter (λ y. false) xs)) [
      | true ↦ flat_map-one false p f xs
      | false ↦ flat_map-one false p f xs
    ]

pub sum_by-enumerate : {X : Type 0} (f : X → ℕ) (n : ℕ) (xs : List X) → sum_by (λ p. f p.1) (enumerate_from n xs) ≡ sum_by f xs
sum_by-enumerate f n [] = refl
sum_by-enumerate f n (x ∷ xs) =
    omega (arith, sum_by-cons (λ p. f p.1) (n, x) (enumerate_from (n + 1) xs), sum_by-cons f x xs, sum_by-enumerate f (n + 1) xs)

-- ---- the singles of games, each as a row, add up to the games

pub row_of-row_key : (s : Single) → row_key_of (row_of s) ≡ s.row_key
unfolding row_of
row_of-row_key s = refl

module _ (tracks : List Track) (singles : List Single) (c : RowKey)
    (given : filter (λ s. same_row_key c s.row_key) singles ≡ map (single_of c) (filter (λ p. has c p.1) (enumerate_from 0 tracks))) where
  sum_at-singles : (f : Row → ℕ) (g : Track → ℕ) → ((p : ℕ × Track) → f (row_of (single_of c p)) ≡ g p.1)
      → sum_at f c (map row_of singles) ≡ sum_by (λ t. cond (has c t) (g t) 0) tracks
  sum_at-singles f g e =
      sum_by-map (λ row. cond (same_row_key c (row_key_of row)) (f row) 0) row_of singles
      ∙ ap (λ h. sum_by h singles) (λ i s. cond (same_row_key c (row_of-row_key s i)) (f (row_of s)) 0)
      ∙ sym (sum_by-filter (λ s. f (row_of s)) (λ s. same_row_key c s.row_key) singles)
      ∙ ap (sum_by (λ s. f (row_of s))) given
      ∙ sum_by-map (λ s. f (row_of s)) (single_of c) (filter (λ p. has c p.1) (enumerate_from 0 tracks))
      ∙ ap (λ h. sum_by h (filter (λ p. has c p.1) (enumerate_from 0 tracks))) (λ i p. e p i)
      ∙ sum_by-filter (λ p. g p.1) (λ p. has c p.1) (enumerate_from 0 tracks)
      ∙ sum_by-enumerate (λ t. cond (has c t) (g t) 0) 0 tracks

  listed_at-singles : (f : Row → List Entry) (rank : Track → ℕ)
      → ((p : ℕ × Track) → has c p.1 ≡ true → f (row_of (single_of c p)) ≡ cond (is_some c.next) (entry_of rank p.0 p.1 ∷ []) [])
      → listed_at f c (map row_of singles) ≡ entries rank (has_move c) 0 tracks
  unfolding entries
  listed_at-singles f rank e =
      flat_map-map (λ row. cond (same_row_key c (row_key_of row)) (f row) []) row_of singles
      ∙ ap (λ h. flat_map h singles) (λ i s. cond (same_row_key c (row_of-row_key s i)) (f (row_of s)) [])
      ∙ flat_map-filter (λ s. same_row_key c s.row_key) (λ s. f (row_of s)) singles
      ∙ ap (flat_map (λ s. f (row_of s))) given
      ∙ flat_map-map (λ s. f (row_of s)) (single_of c) (filter (λ p. has c p.1) (enumerate_from 0 tracks))
      ∙ flat_map-agree (λ p. has c p.1) (λ p. f (row_of (single_of c p))) (λ p. cond (is_some c.next) (entry_of rank p.0 p.1 ∷ []) []) e
      (enumerate_from 0 tracks)
      ∙ flat_map-one (is_some c.next) (λ p. has c p.1) (λ p. entry_of rank p.0 p.1) (enumerate_from 0 tracks)

  both : (a b : Bool) → cond {A = ℕ} a (cond b 1 0) 0 ≡ cond {A = ℕ} (a && b) 1 0
  both true b = refl
  both false b = refl

  moved : (a b : Bool) (n : ℕ) → cond {A = ℕ} a (cond b n 0) 0 ≡ cond {A = ℕ} (b && a) n 0
  moved true true n = refl
  moved true false n = refl
  moved false true n = refl
  moved false false n = refl

  AddsUp-singles : AddsUp tracks (map row_of singles) c
  unfolding row_of
  AddsUp-singles = record {
    white = sum_at-singles (λ r. r.white) (λ t. cond (is_white t.classes.outcome) 1 0) (λ p. refl)
        ∙ ap (λ h. sum_by h tracks) (λ i t. both (has c t) (is_white t.classes.outcome) i);
    draws = sum_at-singles (λ r. r.draws) (λ t. cond (is_draw t.classes.outcome) 1 0) (λ p. refl)
        ∙ ap (λ h. sum_by h tracks) (λ i t. both (has c t) (is_draw t.classes.outcome) i);
    black = sum_at-singles (λ r. r.black) (λ t. cond (is_black t.classes.outcome) 1 0) (λ p. refl)
        ∙ ap (λ h. sum_by h tracks) (λ i t. both (has c t) (is_black t.classes.outcome) i);
    ratings = sum_at-singles (λ r. r.ratings) (λ t. cond (is_some c.next) (mover_rating c.key t.classes) 0) (λ p. refl)
        ∙ ap (λ h. sum_by h tracks) (λ i t. moved (has c t) (is_some c.next) (mover_rating c.key t.classes) i);
    top = ap (best before_by_rating 4) (listed_at-singles (λ r. r.top) rating_sum (λ p e. refl));
    recent = ap (best before_by_month 4) (listed_at-singles (λ r. r.recent) track_month
        (λ p e. ap (λ m. cond (is_some c.next) (record { rank = month_number m; number = p.0 } ∷ []) [])
        (row_keys_at-AreOf c.key p.1 c (has-row_keys_at c p.1 e)).month));
  }

-- ---- singles that stand in another order

SameAt-permutation : (xs ys : List Row) → IsPermutation xs ys → (c : RowKey) → SameAt xs ys c
SameAt-permutation xs ys h c = record {
  white = sym (sum_by-IsPermutation (λ row. cond (same_row_key c (row_key_of row)) row.white 0) xs ys h);
  draws = sym (sum_by-IsPermutation (λ row. cond (same_row_key c (row_key_of row)) row.draws 0) xs ys h);
  black = sym (sum_by-IsPermutation (λ row. cond (same_row_key c (row_key_of row)) row.black 0) xs ys h);
  ratings = sym (sum_by-IsPermutation (λ row. cond (same_row_key c (row_key_of row)) row.ratings 0) xs ys h);
  top = lists by_rating_is_order (λ r. r.top);
  recent = lists by_month_is_order (λ r. r.recent);
}
  where
    lists : {before : Entry → Entry → Bool} → IsStrictTotalOrder before → (f : Row → List Entry)
        → best before 4 (listed_at f c xs) ≡ best before 4 (listed_at f c ys)
    lists {before} order f =
        let at = λ (row : Row). cond (same_row_key c (row_key_of row)) (f row) [] in
        best-same order 4 (listed_at f c xs) (listed_at f c ys)
        (λ e. sum_by-flat_map (λ d. cond (ties before e d) 1 0) at xs
        ∙ sym (sum_by-IsPermutation (λ row. sum_by (λ d. cond (ties before e d) 1 0) (at row)) xs ys h)
        ∙ sym (sum_by-flat_map (λ d. cond (ties before e d) 1 0) at ys))

-- ---- the order of the sort

first_order : (p q : Ordering) → is_lt (ordering_then p q) ≡ false → is_lt p ≡ false
first_order Less q e = e
first_order Equal q e = refl
first_order Greater q e = refl

row_keys_sorted : (singles : List Single) (other : Single) (entries : List SortEntry) → All (IsEntryIn singles other) entries
    → IsSorted entry_order entries → IsSorted row_order (map row_key_of (map row_of (picked singles entries other)))
row_keys_sorted singles other [] told h = λ k d low high. absurd (omega arith)
row_keys_sorted singles other (e ∷ es) told h = λ k d low high.
    let entries : List SortEntry = e ∷ es in
    let chosen : SortEntry → Single = λ x. get_or singles x.at other in
    let sorted : List Single = map chosen entries in
    let rows : List Row = map row_of sorted in
    let many = length-map entries chosen in
    let long = length-map sorted row_of in
    let longer = length-map rows row_key_of in
    let at = λ (j : ℕ) (below : j < length entries).
    get_or-map row_key_of rows j (row_of other) d (omega arith) ∙ ap row_key_of (get_or-map row_of sorted j other (row_of other) (omega arith))
    ∙ row_of-row_key (get_or sorted j other) ∙ ap (λ (s : Single). s.row_key) (get_or-map chosen entries j e other below) in
    let tells = λ (j : ℕ) (below : j < length entries). (All-get_or (IsEntryIn singles other) entries j e below told).1 in
    let later : SortEntry = get_or entries (k + 1) e in
    let sooner : SortEntry = get_or entries k e in
    let apart : entry_order later sooner ≡ ordering_then (row_order (chosen later).row_key (chosen sooner).row_key) (nat_cmp later.at sooner.at) =
    entry_cmp later sooner (chosen later).row_key (chosen sooner).row_key (tells (k + 1) (omega arith)) (tells k (omega arith)) in
    let tested : is_lt (row_order (chosen later).row_key (chosen sooner).row_key) ≡ false =
    first_order _ (nat_cmp later.at sooner.at) (ap is_lt (sym apart) ∙ h k e low (omega arith)) in
    rw (at (k + 1) (omega arith), at k (omega arith)) tested

keys_of : (singles : List Single) (other : Single) (entries : List SortEntry) → All (IsEntryIn singles other) entries
    → AllByRecursion (λ (s : Single). IsKey s.row_key.key) (picked singles entries other)
keys_of singles other entries told = each entries (recursion_from_All (IsEntryIn singles other) entries told)
  where
    each : (es : List SortEntry) → AllByRecursion (IsEntryIn singles other) es → AllByRecursion (λ (s : Single). IsKey s.row_key.key) (picked singles es other)
    each [] h = tt
    each (e ∷ es) h = (record { long = h.0.1.long; bytes = h.0.1.bytes }, each es h.1)

-- ---- what holds of the parts of singles holds of those of their rows

combined_from-parts : (P : RowKey → Type 0) (last : Row) (rows : List Row) → P (row_key_of last) → AllByRecursion (λ r. P (row_key_of r)) rows
    → AllByRecursion (λ r. P (row_key_of r)) (combined_from last rows)
combined_from-parts P last [] h all = subst (AllByRecursion (λ r. P (row_key_of r))) (sym (combined_from-nil last)) (h, tt)
combined_from-parts P last (row ∷ rows) h all =
    elim (same_row_key (row_key_of last) (row_key_of row)) as (λ b. same_row_key (row_key_of last) (row_key_of row) ≡ b
    → AllByRecursion (λ r. P (row_key_of r)) (combined_from last (row ∷ rows))) [
      | true ↦ λ e. subst (AllByRecursion (λ r. P (row_key_of r))) (sym (combined_from-same last row rows e))
          (combined_from-parts P (combined last row) rows (subst P (sym (combined-row_key last row)) h) all.1)
      | false ↦ λ e. subst (AllByRecursion (λ r. P (row_key_of r))) (sym (combined_from-other last row rows e)) (h, combined_from-parts P row rows all.0 all.1)
    ] refl

combined_rows-parts : (P : RowKey → Type 0) (singles : List Single) → AllByRecursion (λ s. P s.row_key) singles
    → All (λ r. P (row_key_of r)) (combined_rows (map row_of singles))
unfolding combined_rows
combined_rows-parts P [] h = All-from_recursion (λ r. P (row_key_of r)) [] tt
combined_rows-parts P (s ∷ ss) h =
    All-from_recursion (λ r. P (row_key_of r)) (combined_from (row_of s) (map row_of ss))
    (combined_from-parts P (row_of s) (map row_of ss) (subst P (sym (row_of-row_key s)) h.0) (each ss h.1))
  where
    each : (ss : List Single) → AllByRecursion (λ s. P s.row_key) ss → AllByRecursion (λ r. P (row_key_of r)) (map row_of ss)
    each [] h = tt
    each (t ∷ ts) h = (subst P (sym (row_of-row_key t)) h.0, each ts h.1)

sound_rows : (singles : List Single) → All IsSound (combined_rows (map row_of singles))
sound_rows singles = All-from_recursion IsSound (combined_rows (map row_of singles)) (IsSound-combined_rows (map row_of singles) (each singles))
  where
    each : (ss : List Single) → AllByRecursion IsSound (map row_of ss)
    each [] = tt
    each (s ∷ ss) = (IsSound-row_of s, each ss)

adds_moved : (tracks : List Track) (singles sorted : List Single) (c : RowKey)
    → filter (λ s. same_row_key c s.row_key) singles ≡ map (single_of c) (filter (λ p. has c p.1) (enumerate_from 0 tracks))
    → IsPermutation singles sorted → AddsUp tracks (combined_rows (map row_of sorted)) c
adds_moved tracks singles sorted c given moved =
    let rows = map row_of sorted in
    AddsUp-same tracks rows (combined_rows rows) c (SameAt-combined_rows rows c)
    (AddsUp-same tracks (map row_of singles) rows c (SameAt-permutation (map row_of singles) rows (IsPermutation-map row_of singles sorted moved) c)
    (AddsUp-singles tracks singles c given))

-- ---- singles that are picked in the order of entries that stand for all of them

module _ (singles : List Single) (entries moved : List SortEntry) (all : (other : Single) → picked singles entries other ≡ singles)
    (told : (other : Single) → All (IsEntryIn singles other) entries) (places : IsPermutation entries moved) where
  is_moved : IsPermutation singles (picked singles moved any_single)
  is_moved =
      let chosen : SortEntry → Single = λ x. get_or singles x.at any_single in
      subst (λ (l : List Single). IsPermutation l (map chosen moved)) (all any_single) (IsPermutation-map chosen entries moved places)

  -- entries that stand for singles do so in each order
  pub stand_moved : All (IsEntryIn singles any_single) moved
  stand_moved = All-permutation (IsEntryIn singles any_single) entries moved places (told any_single)

  pub length-moved : length moved ≡ length singles
  length-moved =
      let chosen : SortEntry → Single = λ x. get_or singles x.at any_single in
      length_permutation entries moved places ∙ sym (length-map entries chosen) ∙ ap length (all any_single)

  module _ (order : IsSorted entry_order moved) where
    pub Tallied-picked : (tracks : List Track) → AreSingles tracks singles → Tallied tracks (combined_rows (map row_of (picked singles moved any_single)))
    Tallied-picked tracks given =
        tallied_from tracks (combined_rows (map row_of (picked singles moved any_single)))
        (λ c. adds_moved tracks singles (picked singles moved any_single) c (given.at c) is_moved)
        (sound_rows (picked singles moved any_single))
        (combined_rows-ordered (map row_of (picked singles moved any_single)) (row_keys_sorted singles any_single moved stand_moved order))

    pub TalliedWithin-picked : (test : List ℕ → Bool) (tracks : List Track) → AreSinglesWithin test tracks singles
        → TalliedWithin test tracks (combined_rows (map row_of (picked singles moved any_single)))
    TalliedWithin-picked test tracks given =
        let ss : List Single = picked singles moved any_single in
        tallied_within_from test tracks (combined_rows (map row_of ss))
        (λ c passes. adds_moved tracks singles ss c (given.at c passes) is_moved)
        (sound_rows ss)
        (combined_rows-parts (λ (k : RowKey). test k.key ≡ true) ss
        (recursion_from_All (λ (s : Single). test s.row_key.key ≡ true) ss
        (All-permutation (λ (s : Single). test s.row_key.key ≡ true) singles ss is_moved given.within)))
        (combined_rows-ordered (map row_of ss) (row_keys_sorted singles any_single moved stand_moved order))
        (combined_rows-parts (λ (k : RowKey). IsKey k.key) ss (keys_of singles any_single moved stand_moved))
