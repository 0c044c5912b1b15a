-- What is picked of the rows of a cover is what is counted of its games.
use Rattle.std.proofs.Common.{◌≡◌, ℕ, ◌+◌, Bool, true, false, ◌&&◌, cond, is_some, Option, None, Some, List, [], ◌∷◌, ◌++◌, map, length, inl, inr, refl, sym, ap, subst, ◌∙◌, arith}
use Rattle.std.specs.Prelude.{bytes_eq}
use Rattle.std.specs.Cmp.Lexicographic.{bytes_decides}
use Rattle.std.specs.List.{AllZip, AllByRecursion, sum_by, count_by, flat_map, enumerate_from}
use Rattle.std.proofs.lemmas.List.Sums.{sum_by-cons, sum_by-append}
use Rattle.explorer_model.specs.Best.{best, IsStrictTotalOrder}
use Rattle.best_lists.specs.Entry.{moved_by}
use Rattle.best_lists.specs.Ranking.{by_rating_is_order, by_month_is_order, KeepsWhenMoved, by_rating_keeps, by_month_keeps}
use Rattle.best_lists.specs.declared.entry.Entry.{Entry}
use Rattle.best_lists.proofs.BestLaws.{best-append, best-nil, best-flat_map}
use Rattle.best_lists.proofs.Entries.{best-moved}
use Rattle.best_lists.proofs.Same.{ties, best-same}
use Rattle.tally_rows.specs.declared.row_key.RowKey.{RowKey}
use Rattle.tally_rows.specs.declared.row.Row.{Row}
use Rattle.tally_rows.specs.Adding.{sum_at}
use Rattle.tally_rows.specs.RowKey.{same_row_key}
use Rattle.tally_rows.specs.Recount.{is_counted, is_listed, picks, picked_sum, picked_lists, cover_lists, GivesPicked}
use Rattle.tally_rows.specs.Row.{row_key_of, is_white, is_draw, is_black}
use Rattle.tally_rows.specs.Tallied.{entries, has_move, mover_rating, rating_sum, track_month, IsTally, Tallied}
use Rattle.tally_rows.specs.Track.{Track, row_keys_at, is_some_where, has}
use Rattle.tally_rows.proofs.At.{sum_at-own}
use Rattle.tally_rows.proofs.EntryLists.{entry_of, entries-nil, entries-append, entries-moved, count-entries}
use Rattle.tally_rows.proofs.Members.{IsIn, All-IsIn, recursion-from_IsIn, Any-IsIn, IsIn-from_Contains, Found-map}
use Rattle.tally_rows.proofs.RowOrder.{same_row_key-is, same_row_key-self}
use Rattle.tally_rows.proofs.Sums.{cells_sum, sum_by-agree, sum_by-zero, sum_by-flat_map}
use Rattle.tally_rows.proofs.Visits.{has-row_keys_at, row_keys_at-has, row_keys_at-AreOf}

-- ---- each game that is counted falls into one row that is picked

module _ (key : List ℕ) (pick : RowKey → Bool) where
  picks-key : (row : Row) → picks key pick row ≡ true → row.key ≡ key
  unfolding picks
  picks-key row e = by (bytes_eq row.key key) (pick (row_key_of row)) e (bytes_decides row.key key).0
    where
      by : (a b : Bool) → (a && b) ≡ true → (a ≡ true → row.key ≡ key) → row.key ≡ key
      by true b e f = f refl
      by false b e f = cc

  picks-own : (row : Row) → row.key ≡ key → picks key pick row ≡ pick (row_key_of row)
  unfolding picks
  picks-own row e = ap (λ b. b && pick (row_key_of row)) ((bytes_decides row.key key).1 e)

  -- a game that does not visit the position has the parts of no row of it
  falls-none : (t : Track) → row_keys_at key t ≡ None → (row : Row) → (picks key pick row && has (row_key_of row) t) ≡ false
  falls-none t none row = by (picks key pick row) (has (row_key_of row) t) refl refl
    where
      by : (a b : Bool) → picks key pick row ≡ a → has (row_key_of row) t ≡ b → (a && b) ≡ false
      by true true p h =
          let there : row_keys_at row.key t ≡ Some (row_key_of row) = has-row_keys_at (row_key_of row) t h in
          let same : row_keys_at row.key t ≡ row_keys_at key t = ap (λ k. row_keys_at k t) (picks-key row p) in
          cc
      by true false p h = refl
      by false b p h = refl

  falls-some : (t : Track) (c : RowKey) → row_keys_at key t ≡ Some c → (row : Row)
      → (picks key pick row && has (row_key_of row) t) ≡ cond (same_row_key c (row_key_of row)) (pick c) false
  falls-some t c at row = by (same_row_key c (row_key_of row)) refl
    where
      here : c.key ≡ key
      here = (row_keys_at-AreOf key t c at).position

      other : (a b : Bool) → picks key pick row ≡ a → has (row_key_of row) t ≡ b → same_row_key c (row_key_of row) ≡ false → (a && b) ≡ false
      other true true p h s =
          let there : row_keys_at row.key t ≡ Some (row_key_of row) = has-row_keys_at (row_key_of row) t h in
          let same : row_keys_at row.key t ≡ row_keys_at key t = ap (λ k. row_keys_at k t) (picks-key row p) in
          let is : c ≡ row_key_of row = cc in
          let self : same_row_key c (row_key_of row) ≡ true = subst (λ d. same_row_key c d ≡ true) is (same_row_key-self c) in
          cc
      other true false p h s = refl
      other false b p h s = refl

      and_true : (b : Bool) → (b && true) ≡ b
      and_true true = refl
      and_true false = refl

      by : (b : Bool) → same_row_key c (row_key_of row) ≡ b → (picks key pick row && has (row_key_of row) t) ≡ cond b (pick c) false
      by true s =
          let is : c ≡ row_key_of row = same_row_key-is c (row_key_of row) s in
          let row_key : row.key ≡ key = sym (ap (λ p. p.key) is) ∙ here in
          let row_has : has (row_key_of row) t ≡ true =
          row_keys_at-has (row_key_of row) t (ap (λ k. row_keys_at k t) row_key ∙ at ∙ ap Some is) in
          ap (λ b. picks key pick row && b) row_has ∙ and_true (picks key pick row) ∙ picks-own row row_key ∙ sym (ap pick is)
      by false s = other (picks key pick row) (has (row_key_of row) t) refl refl s

  module _ (tracks : List Track) (rows : List Row) (tallied : Tallied tracks rows) where
    hit : (t : Track) → IsIn t tracks → count_by (λ row. picks key pick row && has (row_key_of row) t) rows ≡ cond (is_counted key pick t) 1 0
    unfolding is_counted
    hit t m = by (row_keys_at key t) refl
      where
        by : (o : Option RowKey) → row_keys_at key t ≡ o
            → count_by (λ row. picks key pick row && has (row_key_of row) t) rows ≡ cond (is_some_where pick o) 1 0
        by None none =
            ap (λ h. sum_by h rows) (λ i row. cond (falls-none t none row i) 1 0) ∙ sum_by-zero rows
        by (Some c) at =
            let here : c.key ≡ key = (row_keys_at-AreOf key t c at).position in
            let c_has : has c t ≡ true = row_keys_at-has c t (ap (λ k. row_keys_at k t) here ∙ at) in
            let there = IsIn-from_Contains (map row_key_of rows) c (tallied.every c (Any-IsIn (λ s. has c s ≡ true) tracks t m c_has)) in
            let row = Found-map row_key_of rows c there in
            let one : sum_at (λ r. cond (pick c) 1 0) c rows ≡ cond (pick c) 1 0 =
            subst (λ p. sum_at (λ r. cond (pick c) 1 0) p rows ≡ cond (pick c) 1 0) row.holds
            (sum_at-own (λ r. cond (pick c) 1 0) rows tallied.ordered row.value row.is_in) in
            ap (λ h. sum_by h rows) (λ i row. cond (falls-some t c at row i) 1 0)
            ∙ ap (λ h. sum_by h rows) (λ i row. nested (same_row_key c (row_key_of row)) (pick c) i)
            ∙ one
          where
            nested : (a b : Bool) → cond {A = ℕ} (cond a b false) 1 0 ≡ cond a (cond {A = ℕ} b 1 0) 0
            nested true b = refl
            nested false b = refl

    hits : AllByRecursion (λ t. count_by (λ row. picks key pick row && has (row_key_of row) t) rows ≡ cond (is_counted key pick t) 1 0) tracks
    hits = recursion-from_IsIn _ tracks hit

-- ---- one part of a cover

-- the parts that are picked, with a move among them
with_move : (RowKey → Bool) → RowKey → Bool
with_move pick row_key = is_some row_key.next && pick row_key

module _ (key : List ℕ) (pick : RowKey → Bool) where
  is_listed-is : (t : Track) → is_counted key (with_move pick) t ≡ is_listed key pick t
  unfolding is_counted is_listed with_move
  is_listed-is t = refl

  picks_move-is : (t : Track) (row : Row) → (picks key (with_move pick) row && has (row_key_of row) t) ≡ (picks key pick row && has_move (row_key_of row) t)
  unfolding picks with_move
  picks_move-is t row = by (bytes_eq row.key key) (is_some row.next) (pick (row_key_of row)) (has (row_key_of row) t)
    where
      by : (a b c d : Bool) → ((a && (b && c)) && d) ≡ ((a && c) && (b && d))
      by true true c d = refl
      by true false true d = refl
      by true false false d = refl
      by false b c d = refl

  module _ (tracks : List Track) (rows : List Row) (tallied : Tallied tracks rows) where
    hits_move : AllByRecursion (λ t. count_by (λ row. picks key pick row && has_move (row_key_of row) t) rows ≡ cond (is_listed key pick t) 1 0) tracks
    hits_move =
        recursion-from_IsIn _ tracks
        (λ t m. ap (λ h. sum_by h rows) (λ i row. cond (sym (picks_move-is t row) i) 1 0) ∙ hit key (with_move pick) tracks rows tallied t m
        ∙ ap (λ b. cond b 1 0) (is_listed-is t))

    -- a sum over the rows that are picked, of what each sums over its games
    part-sum : (count : Row → ℕ) (falls : Row → Track → Bool) (counted : Track → Bool) (f : Track → ℕ)
        → ((row : Row) → IsIn row rows → picks key pick row ≡ true → count row ≡ sum_by (λ t. cond (falls row t) (f t) 0) tracks)
        → AllByRecursion (λ t. count_by (λ row. picks key pick row && falls row t) rows ≡ cond (counted t) 1 0) tracks
        → picked_sum key pick count rows ≡ sum_by (λ t. cond (counted t) (f t) 0) tracks
    part-sum count falls counted f each once =
        sum_by-agree (λ row. cond (picks key pick row) (count row) 0)
        (λ row. cond (picks key pick row) (sum_by (λ t. cond (falls row t) (f t) 0) tracks) 0) rows
        (recursion-from_IsIn _ rows (λ row m. here row (picks key pick row) (each row m)))
        ∙ cells_sum (picks key pick) falls counted f rows tracks once
      where
        here : (row : Row) (b : Bool) → (b ≡ true → count row ≡ sum_by (λ t. cond (falls row t) (f t) 0) tracks)
            → cond b (count row) 0 ≡ cond b (sum_by (λ t. cond (falls row t) (f t) 0) tracks) 0
        here row true e = e refl
        here row false e = refl

    both : (a b : Bool) → cond {A = ℕ} (a && b) 1 0 ≡ cond a (cond {A = ℕ} b 1 0) 0
    both true b = refl
    both false b = refl

    part-count : (count : Row → ℕ) (test : Track → Bool)
        → ((row : Row) → IsIn row rows → count row ≡ count_by (λ t. has (row_key_of row) t && test t) tracks)
        → picked_sum key pick count rows ≡ count_by (λ t. is_counted key pick t && test t) tracks
    part-count count test each =
        part-sum count (λ row t. has (row_key_of row) t) (is_counted key pick) (λ t. cond (test t) 1 0)
        (λ row m p. each row m ∙ ap (λ h. sum_by h tracks) (λ i t. both (has (row_key_of row) t) (test t) i))
        (hits key pick tracks rows tallied)
        ∙ ap (λ h. sum_by h tracks) (λ i t. sym (both (is_counted key pick t) (test t)) i)

    part-ratings : picked_sum key pick (λ row. row.ratings) rows ≡ sum_by (λ t. cond (is_listed key pick t) (mover_rating key t.classes) 0) tracks
    part-ratings =
        part-sum (λ row. row.ratings) (λ row t. has_move (row_key_of row) t) (is_listed key pick) (λ t. mover_rating key t.classes)
        (λ row m p. (All-IsIn (IsTally tracks) rows tallied.each row m).ratings
        ∙ ap (λ k. sum_by (λ t. cond (has_move (row_key_of row) t) (mover_rating k t.classes) 0) tracks) (picks-key key pick row p))
        hits_move

    -- the same test of each value with its place
    enumerated : (P : Track → Type 0) (n : ℕ) (ts : List Track) → AllByRecursion P ts → AllByRecursion (λ q. P q.1) (enumerate_from n ts)
    enumerated P n [] h = tt
    enumerated P n (t ∷ ts) h = (h.0, enumerated P (n + 1) ts h.1)

    -- the best of the rows' lists are the best of the games
    part-lists : {before : Entry → Entry → Bool} → IsStrictTotalOrder before → (list : Row → List Entry) (rank : Track → ℕ)
        → ((row : Row) → IsIn row rows → list row ≡ best before 4 (entries rank (has_move (row_key_of row)) 0 tracks))
        → best before 4 (picked_lists key pick list rows) ≡ best before 4 (entries rank (is_listed key pick) 0 tracks)
    part-lists {before} order list rank each =
        ap (best before 4) (agree rows each) ∙ sym (best-flat_map order 4 (λ row. cond (picks key pick row) (all row) []) rows)
        ∙ best-same order 4 (flat_map (λ row. cond (picks key pick row) (all row) []) rows) (entries rank (is_listed key pick) 0 tracks) counted
      where
        all : Row → List Entry
        all row = entries rank (has_move (row_key_of row)) 0 tracks

        agree : (rs : List Row) → ((row : Row) → IsIn row rs → list row ≡ best before 4 (all row))
            → flat_map (λ row. cond (picks key pick row) (list row) []) rs ≡ flat_map (λ row. best before 4 (cond (picks key pick row) (all row) [])) rs
        agree [] e = refl
        agree (r ∷ rs) e =
            ap (λ l. l ++ flat_map (λ row. cond (picks key pick row) (list row) []) rs) (one (picks key pick r))
            ∙ ap (λ l. best before 4 (cond (picks key pick r) (all r) []) ++ l) (agree rs (λ row m. e row (inr m)))
          where
            one : (b : Bool) → cond b (list r) [] ≡ best before 4 (cond b (all r) [])
            one true = e r (inl refl)
            one false = sym (best-nil before 4)

        counted : (e : Entry) → count_by (ties before e) (flat_map (λ row. cond (picks key pick row) (all row) []) rows)
            ≡ count_by (ties before e) (entries rank (is_listed key pick) 0 tracks)
        counted e =
            let f = λ (q : ℕ × Track). cond {A = ℕ} (ties before e (entry_of rank q.0 q.1)) 1 0 in
            sum_by-flat_map (λ d. cond (ties before e d) 1 0) (λ row. cond (picks key pick row) (all row) []) rows
            ∙ ap (λ h. sum_by h rows) (λ i row. (inside e (picks key pick row) row ∙ ap (λ n. cond (picks key pick row) n 0)
            (count-entries rank (has_move (row_key_of row)) (ties before e) 0 tracks)) i)
            ∙ cells_sum (picks key pick) (λ row q. has_move (row_key_of row) q.1) (λ q. is_listed key pick q.1) f rows (enumerate_from 0 tracks)
            (enumerated (λ t. count_by (λ row. picks key pick row && has_move (row_key_of row) t) rows ≡ cond (is_listed key pick t) 1 0) 0 tracks hits_move)
            ∙ sym (count-entries rank (is_listed key pick) (ties before e) 0 tracks)
          where
            inside : (e : Entry) (b : Bool) (row : Row) → count_by (ties before e) (cond b (all row) []) ≡ cond b (count_by (ties before e) (all row)) 0
            inside e true row = refl
            inside e false row = refl

-- ---- the whole cover

module _ (key : List ℕ) (pick : RowKey → Bool) where
  cover-sum : (count : Row → ℕ) (f : Track → ℕ)
      → ((tracks : List Track) (rows : List Row) → Tallied tracks rows → picked_sum key pick count rows ≡ sum_by f tracks)
      → (cover : List (List Track)) (tallies : List (List Row)) → AllZip Tallied cover tallies
      → sum_by (picked_sum key pick count) tallies ≡ sum_by f (flat_map (λ tracks. tracks) cover)
  cover-sum count f part [] [] h = refl
  cover-sum count f part [] (rows ∷ tallies) h = absurd h
  cover-sum count f part (tracks ∷ cover) [] h = absurd h
  cover-sum count f part (tracks ∷ cover) (rows ∷ tallies) h =
      omega (
        arith,
        sum_by-cons (picked_sum key pick count) rows tallies,
        part tracks rows h.0,
        cover-sum count f part cover tallies h.1,
        sum_by-append f tracks (flat_map (λ ts. ts) cover),
      )

  cover-lists : {before : Entry → Entry → Bool} → IsStrictTotalOrder before → KeepsWhenMoved before → (list : Row → List Entry) (rank : Track → ℕ)
      → ((tracks : List Track) (rows : List Row) → Tallied tracks rows
      → best before 4 (picked_lists key pick list rows) ≡ best before 4 (entries rank (is_listed key pick) 0 tracks))
      → (first : ℕ) (cover : List (List Track)) (tallies : List (List Row)) → AllZip Tallied cover tallies
      → best before 4 (cover_lists key pick list first cover tallies)
      ≡ best before 4 (entries rank (is_listed key pick) first (flat_map (λ tracks. tracks) cover))
  unfolding cover_lists
  cover-lists {before} order keeps list rank part first [] [] h =
      ap (best before 4) (sym (entries-nil rank (is_listed key pick) first))
  cover-lists {before} order keeps list rank part first [] (rows ∷ tallies) h = absurd h
  cover-lists {before} order keeps list rank part first (tracks ∷ cover) [] h = absurd h
  cover-lists {before} order keeps list rank part first (tracks ∷ cover) (rows ∷ tallies) h =
      let test = is_listed key pick in
      let whole = flat_map (λ (ts : List Track). ts) cover in
      let rest = cover_lists key pick list (first + length tracks) cover tallies in
      let here : best before 4 (map (moved_by first) (picked_lists key pick list rows)) ≡ best before 4 (entries rank test first tracks) =
      best-moved keeps first 4 (picked_lists key pick list rows) ∙ ap (map (moved_by first)) (part tracks rows h.0)
      ∙ sym (best-moved keeps first 4 (entries rank test 0 tracks))
      ∙ ap (best before 4) (sym (entries-moved rank test first 0 tracks) ∙ ap (λ n. entries rank test n tracks) (omega arith)) in
      best-append order 4 (map (moved_by first) (picked_lists key pick list rows)) rest
      ∙ ap (λ l. best before 4 (l ++ best before 4 rest)) here
      ∙ ap (λ l. best before 4 (best before 4 (entries rank test first tracks) ++ l))
      (cover-lists order keeps list rank part (first + length tracks) cover tallies h.1)
      ∙ sym (best-append order 4 (entries rank test first tracks) (entries rank test (first + length tracks) whole))
      ∙ ap (best before 4) (sym (entries-append rank test first tracks whole))

pub GivesPicked-cover : (cover : List (List Track)) (tallies : List (List Row)) → AllZip Tallied cover tallies
    → (key : List ℕ) (pick : RowKey → Bool) → GivesPicked key pick cover tallies
GivesPicked-cover cover tallies h key pick = record {
  white = cover-sum key pick (λ r. r.white) _
      (λ tracks rows t. part-count key pick tracks rows t (λ r. r.white) (λ s. is_white s.classes.outcome)
      (λ row m. (All-IsIn (IsTally tracks) rows t.each row m).white)) cover tallies h;
  draws = cover-sum key pick (λ r. r.draws) _
      (λ tracks rows t. part-count key pick tracks rows t (λ r. r.draws) (λ s. is_draw s.classes.outcome)
      (λ row m. (All-IsIn (IsTally tracks) rows t.each row m).draws)) cover tallies h;
  black = cover-sum key pick (λ r. r.black) _
      (λ tracks rows t. part-count key pick tracks rows t (λ r. r.black) (λ s. is_black s.classes.outcome)
      (λ row m. (All-IsIn (IsTally tracks) rows t.each row m).black)) cover tallies h;
  ratings = cover-sum key pick (λ r. r.ratings) _ (λ tracks rows t. part-ratings key pick tracks rows t) cover tallies h;
  top = cover-lists key pick by_rating_is_order by_rating_keeps (λ r. r.top) rating_sum
      (λ tracks rows t. part-lists key pick tracks rows t by_rating_is_order (λ r. r.top) rating_sum
      (λ row m. (All-IsIn (IsTally tracks) rows t.each row m).top)) 0 cover tallies h;
  recent = cover-lists key pick by_month_is_order by_month_keeps (λ r. r.recent) track_month
      (λ tracks rows t. part-lists key pick tracks rows t by_month_is_order (λ r. r.recent) track_month
      (λ row m. (All-IsIn (IsTally tracks) rows t.each row m).recent)) 0 cover tallies h;
}
