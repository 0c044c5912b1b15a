-- Statement: what is counted in a position of the games whose parts there are picked, from the
-- games and from the rows of a cover.
use Rattle.std.specs.Prelude.{◌≡◌, ℕ, ◌+◌, Bool, ◌&&◌, cond, List, [], ◌∷◌, ◌++◌, map, length, is_some, bytes_eq}
use Rattle.std.specs.List.{sum_by, count_by, flat_map}
use Rattle.explorer_model.specs.Best.{best}
use Rattle.best_lists.specs.Entry.{moved_by}
use Rattle.best_lists.specs.Ranking.{before_by_rating, before_by_month}
use Rattle.best_lists.specs.declared.entry.Entry.{Entry}
use Rattle.tally_rows.specs.declared.row_key.RowKey.{RowKey}
use Rattle.tally_rows.specs.declared.row.Row.{Row}
use Rattle.tally_rows.specs.Track.{Track, row_keys_at, is_some_where}
use Rattle.tally_rows.specs.Row.{row_key_of, is_white, is_draw, is_black}
use Rattle.tally_rows.specs.Tallied.{entries, mover_rating, rating_sum, track_month}

-- the values of lists, one list after another
abbrev pub all_of : {A : Type 0} → List (List A) → List A
all_of lists = flat_map (λ list. list) lists

module _ (key : List ℕ) (pick : RowKey → Bool) where
  -- whether the game visits the position, and its parts there are picked
  unfoldable pub is_counted : Track → Bool
  is_counted track = is_some_where pick (row_keys_at key track)

  -- and it has a move there
  unfoldable pub is_listed : Track → Bool
  is_listed track =
      is_some_where (λ row_key. is_some row_key.next && pick row_key) (row_keys_at key track)

  -- whether the row is of the position, and its parts are picked
  unfoldable pub picks : Row → Bool
  picks row = bytes_eq row.key key && pick (row_key_of row)

  -- the sum of a count over the rows that are picked
  abbrev pub picked_sum : (Row → ℕ) → List Row → ℕ
  picked_sum count rows = sum_by (λ row. cond (picks row) (count row) 0) rows

  -- the lists of these rows, one after another
  abbrev pub picked_lists : (Row → List Entry) → List Row → List Entry
  picked_lists list rows = flat_map (λ row. cond (picks row) (list row) []) rows

  -- those of the rows of each part of a cover, their games numbered from a first one on
  unfoldable pub cover_lists : (Row → List Entry) → ℕ → List (List Track) → List (List Row)
      → List Entry
  cover_lists list first [] tallies = []
  cover_lists list first (tracks ∷ cover) [] = []
  cover_lists list first (tracks ∷ cover) (rows ∷ tallies) =
      map (moved_by first) (picked_lists list rows)
      ++ cover_lists list (first + length tracks) cover tallies

  -- what the rows of a cover give is what all its games give
  pub record GivesPicked (cover : List (List Track)) (tallies : List (List Row)) : Type 0 where
    pub white : sum_by (picked_sum (λ row. row.white)) tallies
        ≡ count_by (λ t. is_counted t && is_white t.classes.outcome) (all_of cover)
    pub draws : sum_by (picked_sum (λ row. row.draws)) tallies
        ≡ count_by (λ t. is_counted t && is_draw t.classes.outcome) (all_of cover)
    pub black : sum_by (picked_sum (λ row. row.black)) tallies
        ≡ count_by (λ t. is_counted t && is_black t.classes.outcome) (all_of cover)
    pub ratings : sum_by (picked_sum (λ row. row.ratings)) tallies
        ≡ sum_by (λ t. cond (is_listed t) (mover_rating key t.classes) 0) (all_of cover)
    pub top : best before_by_rating 4 (cover_lists (λ row. row.top) 0 cover tallies)
        ≡ best before_by_rating 4 (entries rating_sum is_listed 0 (all_of cover))
    pub recent : best before_by_month 4 (cover_lists (λ row. row.recent) 0 cover tallies)
        ≡ best before_by_month 4 (entries track_month is_listed 0 (all_of cover))
