-- The rows of a segment in a position are those that its games can have.
use Rattle.std.proofs.Common.{◌≡◌, ◌≢◌, ℕ, zero, suc, ◌+◌, ◌*◌, ◌<◌, ◌≤◌, ◌↔◌, min, Bool, true, false, ◌&&◌, cond, if◌then◌else◌, List, [], ◌∷◌, ◌++◌, map, filter, length, get_or, bytes_eq, Option, Some, None, is_some, inl, inr, refl, sym, ap, ◌∙◌, subst, arith, length-append, true≢false}
use Rattle.std.specs.Prelude.{slice_get, IfSome}
use Rattle.std.specs.List.{All, AllByRecursion, AllZip, sum_by, count_by, flat_map}
use Rattle.std.specs.List.Sorted.{IsStrictlySortedBy}
use Rattle.std.specs.declared.cmp.Ordering.TheVariants.{Less, Equal}
use Rattle.std.specs.Cmp.{tied_itself}
use Rattle.std.proofs.lemmas.List.{length-map}
use Rattle.std.proofs.lemmas.List.Sums.{sum_by-cons, count_by-le-length}
use Rattle.std.proofs.lemmas.Option.{none-some, same_Some}
use Rattle.std.proofs.lemmas.Slice.Eq.{bytes_eq-Decides}
use Rattle.std.proofs.lemmas.Slice.Zip.{AllZip-long}
use Rattle.best_lists.specs.declared.entry.Entry.{Entry}
use Rattle.best_lists.specs.Ranking.{before_by_rating, before_by_month}
use Rattle.explorer_model.specs.Best.{best}
use Rattle.explorer_model.specs.declared.archive.Classes.{Classes}
use Rattle.explorer_model.specs.declared.archive.Game.{Game}
use Rattle.explorer_model.specs.declared.chess.Move.{Move}
use Rattle.explorer_model.specs.declared.chess.Position.{Position}
use Rattle.explorer_model.specs.Chess.{IsValid, Legal, Same}
use Rattle.explorer_model.specs.Keys.{key}
use Rattle.explorer_model.specs.SoundClasses.{AreSoundClasses}
use Rattle.explorer_model.specs.Tidy.{IsTidied, IsTidyKey}
use Rattle.explorer_model.specs.Visits.{texts_of}
use Rattle.segment_blocks.specs.Segment.{CountedSpan, IsSegment}
use Rattle.segment_blocks.specs.Walk.{has_key}
use Rattle.tally_rows.specs.Adding as adding
use Rattle.tally_rows.specs.declared.row.Row.{Row}
use Rattle.tally_rows.specs.declared.row_key.RowKey.{RowKey}
use Rattle.tally_rows.specs.Recount.{GivesPicked, all_of, is_counted, picks, picked_sum}
use Rattle.tally_rows.specs.Row.{row_key_of}
use Rattle.tally_rows.specs.RowKey.{row_order, row_order-total}
use Rattle.tally_rows.specs.Tally.{IsTrackOf}
use Rattle.tally_rows.specs.Tallied.{is_black_to_move, mover_rating, rating_sum, track_month, entries, has_move, IsTally, Tallied}
use Rattle.tally_rows.specs.Track.{Track, has, row_keys_at}
use Rattle.tally_rows.proofs.AddsUp.{count-outcomes}
use Rattle.tally_rows.proofs.Members.{IsIn, All-IsIn, recursion-from_IsIn}
use Rattle.tally_rows.proofs.TrackBounds.{HasRatings, track-ratings}
use Rattle.tally_rows.proofs.Visits.{has-row_keys_at}
use Rattle.spill_blobs.specs.SoundRows.{games_of, listed_of, numbers_in, AreDifferent, AreSound, IsListOf, IsSoundRow}
use Rattle.spill_blobs.proofs.ListedLemmas.{Apart, best-apart, best-holds, length-best, entries-games, entries-apart, length-entries, IsGame}
use Rattle.spill_blobs.proofs.WrittenLemmas as written

-- what the lower crates say
pub record Laws : Type 0 where
  pub played : written.Laws
  pub decides : (p q p_tidied q_tidied : Position) → IsTidied p p_tidied → IsTidied q q_tidied → Same p q ↔ (p_tidied ≡ q_tidied)
  pub moves : (p q : Position) (m : Move) → IsValid p → IsValid q → Same p q → Legal p m → Legal q m
  pub keys : (p q : Position) → length p.squares ≡ 64 → length q.squares ≡ 64 → (key p ≡ key q) ↔ (p ≡ q)
  pub sound : (tracks : List Track) (rows : List Row) → Tallied tracks rows → All adding.IsSound rows
  pub gives : (cover : List (List Track)) (tallies : List (List Row)) → AllZip Tallied cover tallies
      → (bytes : List ℕ) (pick : RowKey → Bool) → GivesPicked bytes pick cover tallies

-- ---- lists that are filtered

filter-in : {X : Type 0} (p : X → Bool) (xs : List X) (x : X) → IsIn x (filter p xs) → IsIn x xs × (p x ≡ true)
filter-in p [] x is = absurd is
filter-in {X} p (y ∷ ys) x is = by (λ h. filter-in p ys x h) (p y) refl is
  where
    by : (IsIn x (filter p ys) → IsIn x ys × (p x ≡ true)) → (b : Bool) → p y ≡ b → IsIn x (cond b (y ∷ filter p ys) (filter p ys))
        → IsIn x (y ∷ ys) × (p x ≡ true)
    by again true here (inl e) = (inl e, ap p e ∙ here)
    by again true here (inr later) = (let rest = again later in (inr rest.0, rest.1))
    by again false here later = (let rest = again later in (inr rest.0, rest.1))

filter-order : (p : Row → Bool) (rows : List Row) → IsStrictlySortedBy row_order (map row_key_of rows)
    → IsStrictlySortedBy row_order (map row_key_of (filter p rows))
unfolding IsStrictlySortedBy
filter-order p [] sorted = tt
filter-order p (row ∷ rows) sorted = by (filter-order p rows sorted.1) (p row)
  where
    behind : (rs : List Row) → AllByRecursion (λ y. row_order (row_key_of row) y ≡ Less) (map row_key_of rs)
        → AllByRecursion (λ y. row_order (row_key_of row) y ≡ Less) (map row_key_of (filter p rs))
    behind [] all = tt
    behind (r ∷ rs) all =
        elim (p r) as (λ b. AllByRecursion (λ y. row_order (row_key_of row) y ≡ Less) (map row_key_of (cond b (r ∷ filter p rs) (filter p rs)))) [
          | true ↦ (all.0, behind rs all.1)
          | false ↦ behind rs all.1
        ]

    by : IsStrictlySortedBy row_order (map row_key_of (filter p rows)) → (b : Bool)
        → IsStrictlySortedBy row_order (map row_key_of (cond b (row ∷ filter p rows) (filter p rows)))
    by rest true = (behind rows sorted.0, rest)
    by rest false = rest

sum-filter : (p : Row → Bool) (f : Row → ℕ) (rows : List Row) → sum_by f (filter p rows) ≡ sum_by (λ row. cond (p row) (f row) 0) rows
sum-filter p f [] = refl
sum-filter p f (row ∷ rows) = by (p row) (sum-filter p f rows) ∙ sym (sum_by-cons (λ r. cond (p r) (f r) 0) row rows)
  where
    by : (b : Bool) → sum_by f (filter p rows) ≡ sum_by (λ r. cond (p r) (f r) 0) rows
        → sum_by f (cond b (row ∷ filter p rows) (filter p rows)) ≡ cond b (f row) 0 + sum_by (λ r. cond (p r) (f r) 0) rows
    by true e = omega (arith, sum_by-cons f row (filter p rows), e)
    by false e = omega (arith, e)

sum-three : (rows : List Row) → sum_by games_of rows ≡ sum_by (λ row. row.white) rows + sum_by (λ row. row.draws) rows + sum_by (λ row. row.black) rows
sum-three [] = refl
sum-three (row ∷ rows) =
    omega (
      arith,
      sum-three rows,
      sum_by-cons games_of row rows,
      sum_by-cons (λ (r : Row). r.white) row rows,
      sum_by-cons (λ (r : Row). r.draws) row rows,
      sum_by-cons (λ (r : Row). r.black) row rows,
    )

-- ---- ratings

mover-bound : (bytes : List ℕ) (classes : Classes) → AreSoundClasses classes → mover_rating bytes classes ≤ 4000
mover-bound bytes classes are = by (is_black_to_move bytes)
  where
    by : (b : Bool) → cond b classes.black.rating classes.white.rating ≤ 4000
    by true = are.black
    by false = are.white

ratings-bound : (bytes : List ℕ) (row_key : RowKey) (tracks : List Track) → AllByRecursion HasRatings tracks
    → sum_by (λ t. cond (has_move row_key t) (mover_rating bytes t.classes) 0) tracks ≤ 4000 * count_by (has row_key) tracks
ratings-bound bytes row_key [] are = omega arith
ratings-bound bytes row_key (t ∷ tracks) are =
    omega (
      arith,
      sum_by-cons (λ s. cond (has_move row_key s) (mover_rating bytes s.classes) 0) t tracks,
      sum_by-cons (λ s. cond (has row_key s) 1 0) t tracks,
      one (is_some row_key.next) (has row_key t) (mover-bound bytes t.classes are.0),
      ratings-bound bytes row_key tracks are.1,
    )
  where
    one : (a b : Bool) → mover_rating bytes t.classes ≤ 4000 → cond (a && b) (mover_rating bytes t.classes) 0 ≤ 4000 * cond {A = ℕ} b 1 0
    one true true le = omega arith
    one true false le = omega arith
    one false true le = omega arith
    one false false le = omega arith

none-rated : (bytes : List ℕ) (row_key : RowKey) (tracks : List Track) → row_key.next ≡ None
    → sum_by (λ t. cond (has_move row_key t) (mover_rating bytes t.classes) 0) tracks ≡ 0
none-rated bytes row_key [] none = refl
none-rated bytes row_key (t ∷ tracks) none =
    let off : cond (has_move row_key t) (mover_rating bytes t.classes) 0 ≡ 0 = ap (λ next. cond (is_some next && has row_key t) (mover_rating bytes t.classes) 0) none in
    omega (arith, sum_by-cons (λ s. cond (has_move row_key s) (mover_rating bytes s.classes) 0) t tracks, off, none-rated bytes row_key tracks none)

-- ---- lists

moves-count : (row_key : RowKey) (tracks : List Track) → count_by (has_move row_key) tracks ≡ (if is_some row_key.next then count_by (has row_key) tracks else 0)
moves-count row_key [] = by (is_some row_key.next)
  where
    by : (b : Bool) → ◌≡◌ {A = ℕ} 0 (if b then 0 else 0)
    by true = refl
    by false = refl
moves-count row_key (t ∷ tracks) =
    sum_by-cons (λ s. cond (has_move row_key s) 1 0) t tracks ∙ by (is_some row_key.next) (has row_key t) (moves-count row_key tracks)
  where
    by : (a b : Bool) → count_by (has_move row_key) tracks ≡ (if is_some row_key.next then count_by (has row_key) tracks else 0)
        → cond (is_some row_key.next && has row_key t) 1 0 + count_by (has_move row_key) tracks ≡ (if is_some row_key.next then count_by (has row_key) (t ∷ tracks) else 0)
    by a b e =
        elim (is_some row_key.next) as (λ c. count_by (has_move row_key) tracks ≡ (if c then count_by (has row_key) tracks else 0)
        → cond (c && has row_key t) 1 0 + count_by (has_move row_key) tracks ≡ (if c then count_by (has row_key) (t ∷ tracks) else 0)) [
          | true ↦ λ e. omega (arith, e, sum_by-cons (λ s. cond (has row_key s) 1 0) t tracks)
          | false ↦ λ e. omega (arith, e)
        ] e

list-of : (before : Entry → Entry → Bool) (rank : Track → ℕ) (tracks : List Track) (row_key : RowKey) (list : List Entry) (count : ℕ)
    → list ≡ best before 4 (entries rank (has_move row_key) 0 tracks) → best before 4 list ≡ list
    → count ≡ (if is_some row_key.next then count_by (has row_key) tracks else 0) → IsListOf before (length tracks) count list
list-of before rank tracks row_key list count is own counted = record {
  size = ap length is ∙ length-best before 4 (entries rank (has_move row_key) 0 tracks)
      ∙ ap (λ n. min 4 n) (length-entries rank (has_move row_key) 0 tracks ∙ moves-count row_key tracks ∙ sym counted);
  ordered = own;
  numbers = subst (AllByRecursion (λ (e : Entry). e.number < length tracks)) (sym is)
      (best-holds before (λ e. e.number < length tracks) 4 (entries rank (has_move row_key) 0 tracks)
      (below (entries rank (has_move row_key) 0 tracks) (entries-games rank (has_move row_key) 0 tracks)));
}
  where
    some-below : (ts : List Track) (k : ℕ) (t : Track) → slice_get ts k ≡ Some t → k < length ts
    some-below [] k t e = absurd (none-some t e)
    some-below (x ∷ ts) zero t e = omega arith
    some-below (x ∷ ts) (suc k) t e = omega (arith, some-below ts k t e)

    below : (xs : List Entry) → AllByRecursion (IsGame rank (has_move row_key) 0 tracks) xs → AllByRecursion (λ (e : Entry). e.number < length tracks) xs
    below [] all = tt
    below (x ∷ xs) all = (omega (arith, all.0.2, some-below tracks all.0.0 all.0.1 all.0.3), below xs all.1)

-- ---- no game stands in two rows of a position

module _ (rank : Track → ℕ) (list : Row → List Entry) (before : Entry → Entry → Bool) (tracks : List Track)
    (listed : (row : Row) → IsTally tracks row → list row ≡ best before 4 (entries rank (has_move (row_key_of row)) 0 tracks)) where
  has-of : (row_key : RowKey) (t : Track) → has_move row_key t ≡ true → has row_key t ≡ true
  has-of row_key t is = second (is_some row_key.next) (has row_key t) is
    where
      second : (a b : Bool) → a && b ≡ true → b ≡ true
      second true b e = e
      second false b e = absurd (true≢false (sym e))

  abbrev Lists : Row → Entry → Type 0
  Lists row entry = (t : Track) × (slice_get tracks entry.number ≡ Some t) × (has (row_key_of row) t ≡ true)

  row-lists : (row : Row) → IsTally tracks row → AllByRecursion (Lists row) (list row)
  row-lists row tally =
      subst (AllByRecursion (Lists row)) (sym (listed row tally))
      (best-holds before (Lists row) 4 (entries rank (has_move (row_key_of row)) 0 tracks)
      (each (entries rank (has_move (row_key_of row)) 0 tracks) (entries-games rank (has_move (row_key_of row)) 0 tracks)))
    where
      each : (xs : List Entry) → AllByRecursion (IsGame rank (has_move (row_key_of row)) 0 tracks) xs → AllByRecursion (Lists row) xs
      each [] all = tt
      each (x ∷ xs) all = (
        (all.0.1, ap (slice_get tracks) (omega (arith, all.0.2)) ∙ all.0.3, has-of (row_key_of row) all.0.1 all.0.4),
        each xs all.1,
      )

  row-apart : (row : Row) → IsTally tracks row → Apart (list row)
  row-apart row tally =
      subst Apart (sym (listed row tally)) (best-apart before 4 (entries rank (has_move (row_key_of row)) 0 tracks) (entries-apart rank (has_move (row_key_of row)) 0 tracks))

  -- rows of one position that list one game are one
  one-row : (row other : Row) (a b : Entry) → row.key ≡ other.key → row_order (row_key_of row) (row_key_of other) ≡ Less
      → Lists row a → Lists other b → a.number ≢ b.number
  one-row row other a b same less here there e =
      let t = here.0 in
      let track : t ≡ there.0 = same_Some t there.0 (sym here.1 ∙ ap (slice_get tracks) e ∙ there.1) in
      let other_has : has (row_key_of other) t ≡ true = subst (λ (s : Track). has (row_key_of other) s ≡ true) (sym track) there.2 in
      let first : row_keys_at row.key t ≡ Some (row_key_of row) = has-row_keys_at (row_key_of row) t here.2 in
      let second : row_keys_at other.key t ≡ Some (row_key_of other) = has-row_keys_at (row_key_of other) t other_has in
      let one : row_key_of row ≡ row_key_of other = same_Some (row_key_of row) (row_key_of other) (sym first ∙ ap (λ k. row_keys_at k t) same ∙ second) in
      not-equal (sym less ∙ ap (row_order (row_key_of row)) (sym one) ∙ tied_itself row_order-total (row_key_of row))
    where
      not-equal : Less ≡ Equal → ⊥
      not-equal e = cc

  append-apart : (xs ys : List Entry) → Apart xs → Apart ys → AllByRecursion (λ x. AllByRecursion (λ (y : Entry). x.number ≢ y.number) ys) xs → Apart (xs ++ ys)
  append-apart [] ys a b c = b
  append-apart (x ∷ xs) ys a b c = (join xs a.0 c.0, append-apart xs ys a.1 b c.1)
    where
      join : (zs : List Entry) → AllByRecursion (λ (y : Entry). x.number ≢ y.number) zs → AllByRecursion (λ (y : Entry). x.number ≢ y.number) ys
          → AllByRecursion (λ (y : Entry). x.number ≢ y.number) (zs ++ ys)
      join [] h k = k
      join (z ∷ zs) h k = (h.0, join zs h.1 k)

  abbrev Fine : List ℕ → Row → Type 0
  Fine bytes row = (row.key ≡ bytes) × IsTally tracks row

  -- a game of one row stands in no list of another one
  in-row : (row other : Row) (a : Entry) → row.key ≡ other.key → row_order (row_key_of row) (row_key_of other) ≡ Less → Lists row a
      → (ys : List Entry) → AllByRecursion (Lists other) ys → AllByRecursion (λ (y : Entry). a.number ≢ y.number) ys
  in-row row other a same less here [] all = tt
  in-row row other a same less here (y ∷ ys) all = (one-row row other a y same less here all.0, in-row row other a same less here ys all.1)

  join-apart : (a : Entry) (xs ys : List Entry) → AllByRecursion (λ (y : Entry). a.number ≢ y.number) xs → AllByRecursion (λ (y : Entry). a.number ≢ y.number) ys
      → AllByRecursion (λ (y : Entry). a.number ≢ y.number) (xs ++ ys)
  join-apart a [] ys h k = k
  join-apart a (x ∷ xs) ys h k = (h.0, join-apart a xs ys h.1 k)

  in-rows : (bytes : List ℕ) (row : Row) (a : Entry) → row.key ≡ bytes → Lists row a → (rs : List Row) → AllByRecursion (Fine bytes) rs
      → AllByRecursion (λ y. row_order (row_key_of row) y ≡ Less) (map row_key_of rs)
      → AllByRecursion (λ (y : Entry). a.number ≢ y.number) (flat_map list rs)
  in-rows bytes row a same here [] fine less = tt
  in-rows bytes row a same here (r ∷ rs) fine less =
      join-apart a (list r) (flat_map list rs) (in-row row r a (same ∙ sym fine.0.0) less.0 here (list r) (row-lists r fine.0.1))
      (in-rows bytes row a same here rs fine.1 less.1)

  away : (bytes : List ℕ) (row : Row) → row.key ≡ bytes → (rows : List Row) → AllByRecursion (Fine bytes) rows
      → AllByRecursion (λ y. row_order (row_key_of row) y ≡ Less) (map row_key_of rows) → (xs : List Entry) → AllByRecursion (Lists row) xs
      → AllByRecursion (λ x. AllByRecursion (λ (y : Entry). x.number ≢ y.number) (flat_map list rows)) xs
  away bytes row same rows fine less [] all = tt
  away bytes row same rows fine less (x ∷ xs) all =
      (in-rows bytes row x same all.0 rows fine less, away bytes row same rows fine less xs all.1)

  rows-apart : (bytes : List ℕ) (rows : List Row) → AllByRecursion (Fine bytes) rows → IsStrictlySortedBy row_order (map row_key_of rows)
      → Apart (flat_map list rows)
  unfolding IsStrictlySortedBy
  rows-apart bytes [] fine sorted = tt
  rows-apart bytes (row ∷ rows) fine sorted =
      append-apart (list row) (flat_map list rows) (row-apart row fine.0.1) (rows-apart bytes rows fine.1 sorted.1)
      (away bytes row fine.0.0 rows fine.1 sorted.0 (list row) (row-lists row fine.0.1))

  -- as pairs of numbers
  pairs : (xs : List Entry) → Apart xs → AreDifferent (map (λ (e : Entry). e.number) xs)
  pairs [] apart i j d below within = absurd (omega arith)
  pairs (x ∷ xs) apart zero zero d below within = absurd (omega arith)
  pairs (x ∷ xs) apart zero (suc j) d below within = at xs j (omega arith) apart.0
    where
      at : (ys : List Entry) (k : ℕ) → k < length (map (λ (e : Entry). e.number) ys) → AllByRecursion (λ (y : Entry). x.number ≢ y.number) ys
          → x.number ≢ get_or (map (λ (e : Entry). e.number) ys) k d
      at [] k inside all = absurd (omega arith)
      at (y ∷ ys) zero inside all = all.0
      at (y ∷ ys) (suc k) inside all = at ys k (omega arith) all.1
  pairs (x ∷ xs) apart (suc i) zero d below within = absurd (omega arith)
  pairs (x ∷ xs) apart (suc i) (suc j) d below within = pairs xs apart.1 i j d (omega arith) (omega arith)

  pub rows-different : (bytes : List ℕ) (rows : List Row) → AllByRecursion (Fine bytes) rows → IsStrictlySortedBy row_order (map row_key_of rows)
      → AreDifferent (numbers_in list rows)
  rows-different bytes rows fine sorted = pairs (flat_map list rows) (rows-apart bytes rows fine sorted)

-- ---- a segment's rows

module _ (laws : Laws) (segment : CountedSpan) (is : IsSegment segment) (at : Position) (bytes : List ℕ) (valid : IsValid at) (tidy : IsTidyKey at bytes) where
  abbrev tracks : List Track
  tracks = is.tally.tracks

  -- a move that is legal in a position with the key is legal
  legal-at : (row : Row) → row.key ≡ bytes → written.Comes row.key row.next → IfSome row.next (λ m. Legal at m)
  legal-at row same comes = by row.next comes.legal
    where
      p : Position
      p = comes.position

      boards : (q r : Position) → IsTidied q r → length q.squares ≡ 64 → length r.squares ≡ 64
      boards q r tidied board = ap (λ s. length s) tidied.squares ∙ board

      equal : comes.tidy.0 ≡ tidy.0
      equal = (laws.keys comes.tidy.0 tidy.0 (boards p comes.tidy.0 comes.tidy.1 comes.valid.board) (boards at tidy.0 tidy.1 valid.board)).0
          (sym comes.tidy.2 ∙ same ∙ tidy.2)

      one : Same comes.position at
      one = (laws.decides comes.position at comes.tidy.0 tidy.0 comes.tidy.1 tidy.1).1 equal

      by : (next : Option Move) → IfSome next (λ m. Legal comes.position m) → IfSome next (λ m. Legal at m)
      by None legal = tt
      by (Some m) legal = laws.moves comes.position at m comes.valid valid one legal

  tracks-length : length tracks ≡ length segment.classes
  tracks-length =
      AllZip-long IsTrackOf is.tally.games is.tally.tracks is.tally.are_tracks
      ∙ sym (ap (λ l. length l) is.tally.classes_are ∙ length-map is.tally.games (λ (game : Game). game.classes))

  row-sound : (row : Row) → IsIn row segment.rows → row.key ≡ bytes → IsSoundRow at (length segment.classes) row
  row-sound row m same =
      let tallied = is.tally.tallied in
      let row_key = row_key_of row in
      let counts : IsTally tracks row = All-IsIn (IsTally tracks) segment.rows tallied.each row m in
      let fine : adding.IsSound row = All-IsIn adding.IsSound segment.rows (laws.sound tracks segment.rows tallied) row m in
      let comes = written.row-comes laws.played segment is row m in
      let games : games_of row ≡ count_by (has row_key) tracks =
      omega (arith, counts.white, counts.draws, counts.black, count-outcomes (has row_key) tracks) in
      let listed : listed_of row ≡ (if is_some row_key.next then count_by (has row_key) tracks else 0) =
      ap (λ (n : ℕ). if is_some row_key.next then n else 0) games in
      let rated = ratings-bound row.key row_key tracks (track-ratings (texts_of segment.span.batches) is.tally.games tracks is.tally.are_games is.tally.are_tracks) in
      record {
        keyed = subst (IsTidyKey at) (sym same) tidy;
        legal = legal-at row same comes;
        counted = record {
          some = fine.some;
          rated = omega (arith, counts.ratings, rated, games);
          unrated = λ none. counts.ratings ∙ none-rated row.key row_key tracks none;
        };
        top = subst (λ (n : ℕ). IsListOf before_by_rating n (listed_of row) row.top) tracks-length
            (list-of before_by_rating rating_sum tracks row_key row.top (listed_of row) counts.top fine.top listed);
        recent = subst (λ (n : ℕ). IsListOf before_by_month n (listed_of row) row.recent) tracks-length
            (list-of before_by_month track_month tracks row_key row.recent (listed_of row) counts.recent fine.recent listed);
      }

  abbrev kept : List Row
  kept = filter (has_key bytes) segment.rows

  has-the-key : (row : Row) → has_key bytes row ≡ true → row.key ≡ bytes
  has-the-key row e = (bytes_eq-Decides row.key bytes).0 e

  -- ---- all together

  any : RowKey → Bool
  any row_key = true

  sum-kept : (count : Row → ℕ) → sum_by count kept ≡ sum_by (picked_sum bytes any count) (segment.rows ∷ [])
  unfolding any picks
  sum-kept count =
      sum-filter (has_key bytes) count segment.rows ∙ same segment.rows
      ∙ omega (arith, sum_by-cons (picked_sum bytes any count) segment.rows [])
    where
      and_true : (b : Bool) → b ≡ (b && true)
      and_true true = refl
      and_true false = refl

      same : (rows : List Row) → sum_by (λ row. cond (has_key bytes row) (count row) 0) rows ≡ picked_sum bytes any count rows
      same rows = ap (λ (test : Row → Bool). sum_by (λ row. cond (test row) (count row) 0) rows) (λ i row. and_true (bytes_eq row.key bytes) i)

  few-games : sum_by games_of kept ≤ length segment.classes
  few-games =
      let cover = tracks ∷ [] in
      let gives = laws.gives cover (segment.rows ∷ []) (is.tally.tallied, tt) bytes any in
      omega (
        arith,
        sum-three kept,
        sum-kept (λ row. row.white) ∙ gives.white,
        sum-kept (λ row. row.draws) ∙ gives.draws,
        sum-kept (λ row. row.black) ∙ gives.black,
        count-outcomes (is_counted bytes any) (all_of cover),
        count_by-le-length (is_counted bytes any) (all_of cover),
        length-append tracks [],
        tracks-length,
      )

  fine-kept : AllByRecursion (λ (row : Row). (row.key ≡ bytes) × IsTally tracks row) kept
  fine-kept = recursion-from_IsIn (λ (row : Row). (row.key ≡ bytes) × IsTally tracks row) kept (λ row m.
      let in_rows = filter-in (has_key bytes) segment.rows row m in
      (has-the-key row in_rows.1, All-IsIn (IsTally tracks) segment.rows is.tally.tallied.each row in_rows.0))

  pub sound : AreSound at (length segment.classes) kept
  sound =
      let ordered = filter-order (has_key bytes) segment.rows is.tally.tallied.ordered in
      record {
        ordered = ordered;
        each = recursion-from_IsIn (IsSoundRow at (length segment.classes)) kept (λ row m.
            let in_rows = filter-in (has_key bytes) segment.rows row m in
            row-sound row in_rows.0 (has-the-key row in_rows.1));
        few = few-games;
        tops = rows-different rating_sum (λ row. row.top) before_by_rating tracks (λ row tally. tally.top) bytes kept fine-kept ordered;
        recents = rows-different track_month (λ row. row.recent) before_by_month tracks (λ row tally. tally.recent) bytes kept fine-kept ordered;
      }
