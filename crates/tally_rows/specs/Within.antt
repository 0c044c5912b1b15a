-- Statement: rows of some positions: those whose key passes a test, or is in a range.
use Rattle.std.specs.Prelude.{◌≡◌, ℕ, ◌≤◌, ◌<◌, Bool, true, ◌&&◌, nat_lt, nat_le, List, [], ◌∷◌, map, length, slice_index, Option, Some, None}
use Rattle.std.specs.List.{All, Any, Contains, filter, enumerate_from}
use Rattle.std.specs.List.Sorted.{IsStrictlySortedBy}
use Rattle.tally_rows.specs.declared.key_range.KeyRange.{KeyRange}
use Rattle.tally_rows.specs.declared.row.Row.{Row}
use Rattle.tally_rows.specs.declared.row_key.RowKey.{RowKey}
use Rattle.tally_rows.specs.declared.single.Single.{Single}
use Rattle.tally_rows.specs.Row.{row_key_of}
use Rattle.tally_rows.specs.RowKey.{row_order, same_row_key}
use Rattle.tally_rows.specs.Single.{single_of}
use Rattle.tally_rows.specs.SortEntry.{spelled}
use Rattle.tally_rows.specs.Tallied.{IsTally}
use Rattle.tally_rows.specs.Track.{Track, has}

-- the singles are those of the games in the positions whose key passes
pub record AreSinglesWithin (test : List ℕ → Bool) (tracks : List Track)
    (singles : List Single) : Type 0 where
  pub at : (row_key : RowKey) → test row_key.key ≡ true
      → filter (λ s. same_row_key row_key s.row_key) singles
      ≡ map (single_of row_key) (filter (λ p. has row_key p.1) (enumerate_from 0 tracks))
  pub within : All (λ single. test single.row_key.key ≡ true) singles

-- a key's bytes
pub record IsKey (key : List ℕ) : Type 0 where
  pub long : length key ≡ 34
  pub bytes : (i : ℕ) → slice_index key i < 256

-- exactly one row for each five parts that some game has in a position whose key passes, and no other
pub record TalliedWithin (test : List ℕ → Bool) (tracks : List Track)
    (rows : List Row) : Type 0 where
  pub each : All (IsTally tracks) rows
  pub some : All (λ row. Any (λ t. has (row_key_of row) t ≡ true) tracks) rows
  pub every : (row_key : RowKey) → test row_key.key ≡ true
      → Any (λ t. has row_key t ≡ true) tracks → Contains (map row_key_of rows) row_key
  pub within : All (λ row. test row.key ≡ true) rows
  pub keys : All (λ row. IsKey row.key) rows
  pub ordered : IsStrictlySortedBy row_order (map row_key_of rows)

-- ---- ranges of keys

-- the number that the first eight bytes of a key spell
abbrev pub first_word : List ℕ → ℕ
first_word key = spelled key 0 8

abbrev pub is_word_below : Option ℕ → ℕ → Bool
is_word_below None word = true
is_word_below (Some below) word = nat_lt word below

-- whether the keys with this first word are in the range
abbrev pub is_word_in : KeyRange → ℕ → Bool
is_word_in range word = nat_le range.from word && is_word_below range.below word

-- whether a key is in the range
abbrev pub is_in_range : KeyRange → List ℕ → Bool
is_in_range range key = is_word_in range (first_word key)

-- ranges that follow one another from a number on, and leave none out
abbrev pub FollowFrom : ℕ → List KeyRange → Type 0
FollowFrom from [] = ⊥
FollowFrom from (range ∷ []) = (range.from ≡ from) × (range.below ≡ None)
FollowFrom from (range ∷ next ∷ ranges) =
    (range.from ≡ from)
    × (range.below ≡ Some next.from)
    × (from ≤ next.from)
    × FollowFrom next.from (next ∷ ranges)
