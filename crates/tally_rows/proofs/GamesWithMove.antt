-- Games as they are seen from a position, and the entries of those that may be listed.
use Rattle.std.proofs.Common.{◌≡◌, ℕ, ◌+◌, ◌≤◌, Bool, true, false, ◌&&◌, cond, is_some, Option, None, Some, List, [], ◌∷◌, ◌++◌, map, take, length, refl, sym, ap, subst, ◌∙◌, append_assoc, arith}
use Rattle.std.specs.Option.{option_map, option_and_then}
use Rattle.std.specs.List.{All, AllByRecursion, filter, filter_map, cons_option, enumerate_from, slice_get}
use Rattle.std.proofs.lemmas.List.{length_push}
use Rattle.std.proofs.lemmas.List.Elements.{All-from_recursion, recursion_from_All, All-filter}
use Rattle.explorer_model.specs.Best.{best, IsStrictTotalOrder}
use Rattle.best_lists.specs.declared.entry.Entry.{Entry}
use Rattle.best_lists.proofs.BestLaws.{best-map, best-nil, best-one, take-best, All-best}
use Rattle.best_lists.proofs.Same.{best-IsBestOf}
use Rattle.explorer_model.specs.declared.archive.Classes.{Classes}
use Rattle.explorer_model.specs.declared.archive.Month.{Month}
use Rattle.explorer_model.specs.declared.chess.Move.{Move}
use Rattle.explorer_model.specs.declared.query.Filter.{Filter}
use Rattle.explorer_model.specs.Counting.{passes, visits, counts, any_next, is_move, is_same_move, is_same_month, is_in_month, NumberedGame, game_with_move, game_with_move_by, games_with_move, listed, games_by, the_only, game_of_move}
use Rattle.tally_rows.specs.declared.row_key.RowKey.{RowKey}
use Rattle.tally_rows.specs.Cover.{game_at, passes_row_key, meets, meets_in, listed_by, listing, only_entry}
use Rattle.tally_rows.specs.Recount.{is_counted, is_listed}
use Rattle.tally_rows.specs.Tallied.{entries}
use Rattle.tally_rows.specs.Track.{Track, visit, row_keys_at, is_some_where}
use Rattle.tally_rows.proofs.EntryLists.{entry_of, entries-nil, entries-cons}

and_false : (b : Bool) → (b && false) ≡ false
and_false true = refl
and_false false = refl

and_true : (b : Bool) → (b && true) ≡ b
and_true true = refl
and_true false = refl

-- a move follows, and it meets the test
abbrev pub follows : (Move → Bool) → Option (Option Move) → Bool
follows test (Some (Some next)) = test next
follows test _ = false

-- ---- which games are counted, by their parts and by what is seen of them

module _ (key : List ℕ) (wanted : Filter) (t : Track) where
  row_keys_with : Option Move → RowKey
  row_keys_with next = record { key = key; next = next; month = t.classes.month; speed = t.classes.speed; group = t.classes.group }

  passes-row_key : (next : Option Move) → passes_row_key wanted (row_keys_with next) ≡ passes wanted t.classes
  unfolding passes passes_row_key row_keys_with
  passes-row_key next = refl

  -- what is tested of the parts, by what follows at the visit
  by_visit : (pick : RowKey → Bool) → is_some_where pick (row_keys_at key t) ≡ is_some_where (λ next. pick (row_keys_with next)) (visit key t)
  unfolding row_keys_at row_keys_with
  by_visit pick = by (visit key t)
    where
      by : (o : Option (Option Move)) → is_some_where pick (option_map (λ next. record { key = key; next = next; month = t.classes.month; speed = t.classes.speed; group = t.classes.group }) o)
          ≡ is_some_where (λ next. pick (record { key = key; next = next; month = t.classes.month; speed = t.classes.speed; group = t.classes.group })) o
      by None = refl
      by (Some next) = refl

  pub counted-meets : (test : Option Move → Bool) → is_counted key (meets wanted test) t ≡ counts test (passes wanted) (game_at key t)
  unfolding is_counted row_keys_with
  counted-meets test = by_visit (meets wanted test) ∙ by (visit key t)
    where
      by : (o : Option (Option Move)) → is_some_where (λ next. meets wanted test (row_keys_with next)) o ≡ (passes wanted t.classes && visits test o)
      by None = sym (and_false (passes wanted t.classes))
      by (Some next) = ap (λ b. b && test next) (passes-row_key next)

  -- the same with a test of the month
  pub counted-month : (test : Month → Bool)
      → is_counted key (λ row_key. passes_row_key wanted row_key && test row_key.month) t ≡ (counts any_next (passes wanted) (game_at key t) && test t.classes.month)
  unfolding is_counted row_keys_with
  counted-month test = by_visit (λ row_key. passes_row_key wanted row_key && test row_key.month) ∙ by (visit key t)
    where
      by : (o : Option (Option Move)) → is_some_where (λ next. passes_row_key wanted (row_keys_with next) && test t.classes.month) o
          ≡ ((passes wanted t.classes && visits any_next o) && test t.classes.month)
      by None = ap (λ b. b && test t.classes.month) (sym (and_false (passes wanted t.classes)))
      by (Some next) = ap (λ b. b && test t.classes.month) (passes-row_key next ∙ sym (and_true (passes wanted t.classes)))

  pub counted-meets_in : (month : Month) → is_counted key (meets_in month wanted) t ≡ is_in_month month (passes wanted) (game_at key t)
  counted-meets_in month = counted-month (is_same_month month)

  -- a game that plays a move has a move
  pub listed-is_move : (m : Move) → is_listed key (meets wanted (is_move m)) t ≡ counts (is_move m) (passes wanted) (game_at key t)
  unfolding is_listed row_keys_with
  listed-is_move m = by_visit (λ row_key. is_some row_key.next && meets wanted (is_move m) row_key) ∙ by (visit key t)
    where
      by : (o : Option (Option Move)) → is_some_where (λ next. is_some next && meets wanted (is_move m) (row_keys_with next)) o
          ≡ (passes wanted t.classes && visits (is_move m) o)
      by None = sym (and_false (passes wanted t.classes))
      by (Some None) = sym (and_false (passes wanted t.classes))
      by (Some (Some next)) = ap (λ b. b && is_same_move m next) (passes-row_key (Some next))

  pub listed-any : is_listed key (meets wanted any_next) t ≡ (passes wanted t.classes && follows (λ m. true) (visit key t))
  unfolding is_listed row_keys_with
  listed-any = by_visit (λ row_key. is_some row_key.next && meets wanted any_next row_key) ∙ by (visit key t)
    where
      by : (o : Option (Option Move)) → is_some_where (λ next. is_some next && meets wanted any_next (row_keys_with next)) o
          ≡ (passes wanted t.classes && follows (λ m. true) o)
      by None = sym (and_false (passes wanted t.classes))
      by (Some None) = sym (and_false (passes wanted t.classes))
      by (Some (Some next)) = ap (λ b. b && true) (passes-row_key (Some next))

  pub listed-one : (m : Move) → is_listed key (meets wanted (is_move m)) t ≡ (passes wanted t.classes && follows (is_same_move m) (visit key t))
  listed-one m = listed-is_move m ∙ by (visit key t)
    where
      by : (o : Option (Option Move)) → (passes wanted t.classes && visits (is_move m) o) ≡ (passes wanted t.classes && follows (is_same_move m) o)
      by None = refl
      by (Some None) = refl
      by (Some (Some next)) = refl

-- ---- the entries of games that may be listed

module _ (key : List ℕ) (wanted : Filter) (rank : Classes → ℕ) where
  abbrev pub entry_from : NumberedGame → Entry
  entry_from s = record { rank = rank s.classes; number = s.number }

  abbrev games_with_move_from : ℕ → List Track → List NumberedGame
  games_with_move_from n ts = filter_map (game_with_move (passes wanted)) (enumerate_from n (map (game_at key) ts))

  -- one game as an entry, or none
  one_any : (b : Bool) (o : Option (Option Move)) (n : ℕ) (t : Track) (rest : List NumberedGame)
      → map entry_from (cons_option (game_with_move_by b n t.classes o) rest)
      ≡ cond (b && follows (λ m. true) o) (entry_of (λ s. rank s.classes) n t ∷ []) [] ++ map entry_from rest
  one_any true (Some (Some next)) n t rest = refl
  one_any true (Some None) n t rest = refl
  one_any true None n t rest = refl
  one_any false o n t rest = refl

  entries-any : (n : ℕ) (ts : List Track)
      → map entry_from (games_with_move_from n ts) ≡ entries (λ t. rank t.classes) (is_listed key (meets wanted any_next)) n ts
  entries-any n [] = sym (entries-nil (λ t. rank t.classes) (is_listed key (meets wanted any_next)) n)
  entries-any n (t ∷ ts) =
      one_any (passes wanted t.classes) (visit key t) n t (games_with_move_from (n + 1) ts)
      ∙ ap (λ b. cond b (entry_of (λ s. rank s.classes) n t ∷ []) [] ++ map entry_from (games_with_move_from (n + 1) ts)) (sym (listed-any key wanted t))
      ∙ ap (λ l. cond (is_listed key (meets wanted any_next) t) (entry_of (λ s. rank s.classes) n t ∷ []) [] ++ l) (entries-any (n + 1) ts)
      ∙ sym (entries-cons (λ s. rank s.classes) (is_listed key (meets wanted any_next)) n t ts)

  one_move : (m : Move) (b : Bool) (o : Option (Option Move)) (n : ℕ) (t : Track) (rest : List NumberedGame)
      → map entry_from (filter (λ s. is_same_move m s.next) (cons_option (game_with_move_by b n t.classes o) rest))
      ≡ cond (b && follows (is_same_move m) o) (entry_of (λ s. rank s.classes) n t ∷ []) [] ++ map entry_from (filter (λ s. is_same_move m s.next) rest)
  one_move m true (Some (Some next)) n t rest =
      elim (is_same_move m next) as (λ c. map entry_from (cond c (record { number = n; next = next; classes = t.classes } ∷ filter (λ s. is_same_move m s.next) rest) (filter (λ s. is_same_move m s.next) rest))
      ≡ cond c (entry_of (λ s. rank s.classes) n t ∷ []) [] ++ map entry_from (filter (λ s. is_same_move m s.next) rest)) [ true ↦ refl | false ↦ refl ]
  one_move m true (Some None) n t rest = refl
  one_move m true None n t rest = refl
  one_move m false o n t rest = refl

  entries-move : (m : Move) (n : ℕ) (ts : List Track)
      → map entry_from (filter (λ s. is_same_move m s.next) (games_with_move_from n ts)) ≡ entries (λ t. rank t.classes) (is_listed key (meets wanted (is_move m))) n ts
  entries-move m n [] = sym (entries-nil (λ t. rank t.classes) (is_listed key (meets wanted (is_move m))) n)
  entries-move m n (t ∷ ts) =
      let rest = map entry_from (filter (λ s. is_same_move m s.next) (games_with_move_from (n + 1) ts)) in
      one_move m (passes wanted t.classes) (visit key t) n t (games_with_move_from (n + 1) ts)
      ∙ ap (λ b. cond b (entry_of (λ s. rank s.classes) n t ∷ []) [] ++ rest) (sym (listed-one key wanted t m))
      ∙ ap (λ l. cond (is_listed key (meets wanted (is_move m)) t) (entry_of (λ s. rank s.classes) n t ∷ []) [] ++ l) (entries-move m (n + 1) ts)
      ∙ sym (entries-cons (λ s. rank s.classes) (is_listed key (meets wanted (is_move m))) n t ts)

  -- the game of an entry is found again by its number
  nth : (front : List Track) (t : Track) (ts : List Track) → slice_get (front ++ t ∷ ts) (length front) ≡ Some t
  nth [] t ts = refl
  nth (x ∷ xs) t ts = nth xs t ts

  abbrev Finds : List Track → NumberedGame → Type 0
  Finds tracks s = listing key tracks (entry_from s) ≡ Some (listed s)

  one_found : (b : Bool) (o : Option (Option Move)) (front : List Track) (t : Track) (ts : List Track) (rest : List NumberedGame)
      → visit key t ≡ o → AllByRecursion (Finds (front ++ t ∷ ts)) rest
      → AllByRecursion (Finds (front ++ t ∷ ts)) (cons_option (game_with_move_by b (length front) t.classes o) rest)
  one_found true (Some (Some next)) front t ts rest e h =
      (ap (option_and_then (λ s. listed_by (visit key s) s)) (nth front t ts) ∙ ap (λ o. listed_by o t) e, h)
  one_found true (Some None) front t ts rest e h = h
  one_found true None front t ts rest e h = h
  one_found false o front t ts rest e h = h

  found_from : (front ts : List Track) → AllByRecursion (Finds (front ++ ts)) (games_with_move_from (length front) ts)
  found_from front [] = tt
  found_from front (t ∷ ts) =
      let later = found_from (front ++ t ∷ []) ts in
      let all : front ++ t ∷ [] ++ ts ≡ front ++ t ∷ ts = append_assoc front (t ∷ []) ts in
      let long : length (front ++ t ∷ []) ≡ length front + 1 = length_push front t in
      one_found (passes wanted t.classes) (visit key t) front t ts (games_with_move_from (length front + 1) ts) refl
      (subst (λ n. AllByRecursion (Finds (front ++ t ∷ ts)) (games_with_move_from n ts)) long
      (subst (λ l. AllByRecursion (Finds l) (games_with_move_from (length (front ++ t ∷ [])) ts)) all later))

  pub all_found : (tracks : List Track) → All (Finds tracks) (games_with_move (passes wanted) (map (game_at key) tracks))
  unfolding games_with_move
  all_found tracks = All-from_recursion (Finds tracks) (games_with_move_from 0 tracks) (found_from [] tracks)

  map-found : (tracks : List Track) (ss : List NumberedGame) → AllByRecursion (Finds tracks) ss
      → map Some (map listed ss) ≡ map (listing key tracks) (map entry_from ss)
  map-found tracks [] h = refl
  map-found tracks (s ∷ ss) h = λ i. sym h.0 i ∷ map-found tracks ss h.1 i

  -- the best few of the games, from the best four entries
  pub games-listed : {before : Entry → Entry → Bool} → IsStrictTotalOrder before → (most : ℕ) → most ≤ 4 → (tracks : List Track) (list : List Entry)
      → best before 4 list ≡ best before 4 (entries (λ t. rank t.classes) (is_listed key (meets wanted any_next)) 0 tracks)
      → map Some (games_by (λ a b. before (entry_from a) (entry_from b)) most (passes wanted) (map (game_at key) tracks))
      ≡ map (listing key tracks) (take most (best before 4 list))
  unfolding games_with_move
  games-listed {before} order most few tracks list e =
      let by = λ (a b : NumberedGame). before (entry_from a) (entry_from b) in
      let games_at = games_with_move_from 0 tracks in
      let all = entries (λ t. rank t.classes) (is_listed key (meets wanted any_next)) 0 tracks in
      map-found tracks (best by most games_at)
      (recursion_from_All (Finds tracks) (best by most games_at) (All-best by (Finds tracks) most games_at (all_found tracks)))
      ∙ ap (map (listing key tracks)) (sym (best-map entry_from by before (λ a b. refl) most games_at)
      ∙ ap (best before most) (entries-any 0 tracks) ∙ sym (take-best order most 4 all few) ∙ ap (take most) (sym e))

  -- the game of a move that one game plays
  only_of : {before : Entry → Entry → Bool} → IsStrictTotalOrder before → (tracks : List Track) (ss : List NumberedGame) → AllByRecursion (Finds tracks) ss
      → the_only ss ≡ option_and_then (listing key tracks) (only_entry (best before 4 (map entry_from ss)))
  only_of {before} order tracks [] h = ap (λ l. option_and_then (listing key tracks) (only_entry l)) (sym (best-nil before 4))
  only_of {before} order tracks (s ∷ []) h =
      sym (ap (λ l. option_and_then (listing key tracks) (only_entry l)) (best-one before 3 (entry_from s)) ∙ h.0)
  only_of {before} order tracks (s ∷ u ∷ ss) h =
      let all = map entry_from (s ∷ u ∷ ss) in
      let long = (best-IsBestOf order 4 all).as_many in
      ap (option_and_then (listing key tracks)) (sym (not_only (best before 4 all) (omega (arith, long))))
    where
      not_only : (l : List Entry) → 2 ≤ length l → only_entry l ≡ None
      not_only [] k = refl
      not_only (e ∷ []) k = absurd (omega arith)
      not_only (e ∷ d ∷ l) k = refl

  pub only-listed : {before : Entry → Entry → Bool} → IsStrictTotalOrder before → (m : Move) (tracks : List Track) (list : List Entry)
      → best before 4 list ≡ best before 4 (entries (λ t. rank t.classes) (is_listed key (meets wanted (is_move m))) 0 tracks)
      → game_of_move m (passes wanted) (map (game_at key) tracks) ≡ option_and_then (listing key tracks) (only_entry (best before 4 list))
  unfolding games_with_move
  only-listed {before} order m tracks list e =
      let some = filter (λ (s : NumberedGame). is_same_move m s.next) (games_with_move_from 0 tracks) in
      only_of order tracks some
      (recursion_from_All (Finds tracks) some (All-filter (λ s. is_same_move m s.next) (Finds tracks) (games_with_move_from 0 tracks) (all_found tracks)))
      ∙ ap (λ l. option_and_then (listing key tracks) (only_entry l)) (ap (best before 4) (entries-move m 0 tracks) ∙ sym e)
