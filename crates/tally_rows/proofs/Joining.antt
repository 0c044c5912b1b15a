-- The best games of a position are the best of those of each of its moves.
use Rattle.std.proofs.Common.{◌≡◌, ℕ, ◌+◌, Bool, true, false, ◌&&◌, cond, Option, None, Some, List, [], ◌∷◌, refl, sym, ap, subst, ◌∙◌}
use Rattle.std.specs.Cmp.{both_ways}
use Rattle.std.specs.List.{AllZip, AllByRecursion, count_by, sum_by, flat_map, list_any, enumerate_from}
use Rattle.std.proofs.lemmas.Bool.{lt-ltb}
use Rattle.explorer_model.specs.Best.{best, IsStrictTotalOrder}
use Rattle.best_lists.specs.Ranking.{by_rating_is_order, by_month_is_order}
use Rattle.best_lists.specs.declared.entry.Entry.{Entry}
use Rattle.best_lists.proofs.BestLaws.{best-flat_map}
use Rattle.best_lists.proofs.Same.{ties, best-same}
use Rattle.explorer_model.specs.declared.chess.Move.{Move}
use Rattle.explorer_model.specs.declared.query.Filter.{Filter}
use Rattle.explorer_model.specs.Counting.{passes, any_next, is_move, is_same_move, visits}
use Rattle.tally_rows.specs.declared.row_key.RowKey.{RowKey}
use Rattle.tally_rows.specs.declared.row.Row.{Row}
use Rattle.tally_rows.specs.Cover.{meets, rows_moves, JoinsMoves}
use Rattle.tally_rows.specs.Recount.{all_of, is_listed, is_counted, cover_lists}
use Rattle.tally_rows.specs.Tallied.{entries, rating_sum, track_month, Tallied}
use Rattle.tally_rows.specs.Track.{Track, visit}
use Rattle.tally_rows.proofs.EntryLists.{entry_of, count-entries}
use Rattle.tally_rows.proofs.Members.{IsIn, recursion-from_IsIn, count-positive}
use Rattle.tally_rows.proofs.Moves.{is_same_move-is, is_same_move-self}
use Rattle.tally_rows.proofs.Recounting.{given, somewhere, any-rows}
use Rattle.tally_rows.proofs.GamesWithMove.{follows, counted-meets, listed-any, listed-one}
use Rattle.tally_rows.proofs.Somewhere.{any-count, count-distinct}
use Rattle.tally_rows.proofs.Sums.{cells_sum, sum_by-zero, sum_by-flat_map}

module _ (cover : List (List Track)) (tallies : List (List Row)) (tallied : AllZip Tallied cover tallies) (key : List ℕ) (wanted : Filter) where
  same-comm : (m n : Move) → is_same_move m n ≡ is_same_move n m
  same-comm m n =
      both_ways (is_same_move m n) (is_same_move n m)
      (λ e. subst (λ k. is_same_move k m ≡ true) (is_same_move-is m n e) (is_same_move-self m))
      (λ e. subst (λ k. is_same_move k n ≡ true) (is_same_move-is n m e) (is_same_move-self n))

  -- where one of the values passes, some value passes
  any-in : {X : Type 0} (p : X → Bool) (xs : List X) (x : X) → IsIn x xs → p x ≡ true → list_any p xs ≡ true
  any-in p xs x m e = any-count p xs ∙ lt-ltb 0 (count_by p xs) (count-positive p xs x m e)

  -- a move that is played is one of the moves, once
  once : (m : Move) → count_by (is_same_move m) (rows_moves key tallies wanted) ≡ cond (list_any (is_counted key (meets wanted (is_move m))) (all_of cover)) 1 0
  unfolding rows_moves
  once m =
      count-distinct is_same_move is_same_move-is is_same_move-self m _
      ∙ ap (λ b. cond b 1 0) (any-rows key wanted m (all_of tallies) ∙ somewhere cover tallies tallied key (meets wanted (is_move m)))

  -- a game that may be listed plays just one of the moves
  one_move : (t : Track) → IsIn t (all_of cover)
      → count_by (λ m. true && is_listed key (meets wanted (is_move m)) t) (rows_moves key tallies wanted) ≡ cond (is_listed key (meets wanted any_next) t) 1 0
  one_move t here =
      ap (λ p. count_by p (rows_moves key tallies wanted)) (λ i m. listed-one key wanted t m i)
      ∙ by (passes wanted t.classes) (visit key t) refl refl
      ∙ sym (ap (λ b. cond b 1 0) (listed-any key wanted t))
    where
      by : (b : Bool) (o : Option (Option Move)) → passes wanted t.classes ≡ b → visit key t ≡ o
          → count_by (λ m. b && follows (is_same_move m) o) (rows_moves key tallies wanted) ≡ cond (b && follows (λ m. true) o) 1 0
      by true (Some (Some next)) pass at =
          let moves = rows_moves key tallies wanted in
          let counted : is_counted key (meets wanted (is_move next)) t ≡ true =
          counted-meets key wanted t (is_move next) ∙ (λ i. pass i && visits (is_move next) (at i)) ∙ is_same_move-self next in
          ap (λ p. count_by p moves) (λ i m. same-comm m next i) ∙ once next
          ∙ ap (λ b. cond b 1 0) (any-in (is_counted key (meets wanted (is_move next))) (all_of cover) t here counted)
      by true (Some None) pass at = sum_by-zero (rows_moves key tallies wanted)
      by true None pass at = sum_by-zero (rows_moves key tallies wanted)
      by false o pass at = sum_by-zero (rows_moves key tallies wanted)

  enumerated : (P : Track → Type 0) (n : ℕ) (ts : List Track) → AllByRecursion P ts → AllByRecursion (λ q. P q.1) (enumerate_from n ts)
  enumerated P n [] h = tt
  enumerated P n (t ∷ ts) h = (h.0, enumerated P (n + 1) ts h.1)

  by_moves : {before : Entry → Entry → Bool} → IsStrictTotalOrder before → (rank : Track → ℕ) (lists : (RowKey → Bool) → List Entry)
      → ((test : Option Move → Bool) → best before 4 (lists (meets wanted test)) ≡ best before 4 (entries rank (is_listed key (meets wanted test)) 0 (all_of cover)))
      → best before 4 (flat_map (λ m. best before 4 (lists (meets wanted (is_move m)))) (rows_moves key tallies wanted)) ≡ best before 4 (lists (meets wanted any_next))
  by_moves {before} order rank lists e =
      let moves = rows_moves key tallies wanted in
      let tracks = all_of cover in
      let of_move = λ (m : Move). entries rank (is_listed key (meets wanted (is_move m))) 0 tracks in
      ap (λ f. best before 4 (flat_map f moves)) (λ i m. e (is_move m) i) ∙ sym (best-flat_map order 4 of_move moves)
      ∙ best-same order 4 (flat_map of_move moves) (entries rank (is_listed key (meets wanted any_next)) 0 tracks) (λ d.
      let f = λ (q : ℕ × Track). cond {A = ℕ} (ties before d (entry_of rank q.0 q.1)) 1 0 in
      sum_by-flat_map (λ c. cond (ties before d c) 1 0) of_move moves
      ∙ ap (λ g. sum_by g moves) (λ i m. count-entries rank (is_listed key (meets wanted (is_move m))) (ties before d) 0 tracks i)
      ∙ cells_sum (λ m. true) (λ m q. is_listed key (meets wanted (is_move m)) q.1) (λ q. is_listed key (meets wanted any_next) q.1) f moves (enumerate_from 0 tracks)
      (enumerated (λ t. count_by (λ m. true && is_listed key (meets wanted (is_move m)) t) moves ≡ cond (is_listed key (meets wanted any_next) t) 1 0) 0 tracks
      (recursion-from_IsIn _ tracks one_move))
      ∙ sym (count-entries rank (is_listed key (meets wanted any_next)) (ties before d) 0 tracks))
      ∙ sym (e any_next)

pub JoinsMoves-cover : (cover : List (List Track)) (tallies : List (List Row)) → AllZip Tallied cover tallies
    → (key : List ℕ) (wanted : Filter) → JoinsMoves key wanted cover tallies
JoinsMoves-cover cover tallies tallied key wanted =
    let picked = given cover tallies tallied key in
    record {
      top = by_moves cover tallies tallied key wanted by_rating_is_order rating_sum (λ pick. cover_lists key pick (λ row. row.top) 0 cover tallies)
          (λ test. (picked (meets wanted test)).top);
      recent = by_moves cover tallies tallied key wanted by_month_is_order track_month (λ pick. cover_lists key pick (λ row. row.recent) 0 cover tallies)
          (λ test. (picked (meets wanted test)).recent);
    }
