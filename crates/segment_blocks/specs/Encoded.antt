-- Bridge: rows as marks, the ends of keys, and whole rows.
use Rattle.std.specs.Prelude.{◌≡◌, ℕ, ◌-◌, List, [], ◌∷◌, ◌++◌, length, take, drop, Option, Some, None, is_none, if◌then◌else◌}
use Rattle.std.specs.List.{sum_by, count_by}
use Rattle.explorer_model.specs.declared.archive.Outcome.{Outcome}
use Rattle.tally_rows.specs.declared.row.Row.{Row}
use Rattle.tally_rows.specs.declared.row_key.RowKey.{RowKey}
use Rattle.tally_rows.specs.declared.single.Single.{Single}
use Rattle.tally_rows.specs.Row.{row_of}
use Rattle.segment_blocks.specs.declared.mark.Mark.{Mark}
use Rattle.segment_blocks.specs.Prefix.{common_len}

pub record Encoded : Type 0 where
  pub marks : List Mark
  pub tails : List ℕ
  pub whole : List Row

-- how many bytes a mark's key has behind those of the key before it
abbrev pub own_len : Mark → ℕ
own_len mark = 34 - mark.shared

-- how many of them are kept among the ends: a whole row has its key by itself
abbrev pub kept_len : Mark → ℕ
kept_len mark = if is_none mark.outcome then 0 else own_len mark

-- a key that has the first bytes of the key before it, and then bytes of its own
abbrev pub key_behind : List ℕ → Mark → List ℕ → List ℕ
key_behind before mark tails = take mark.shared before ++ take (own_len mark) tails

abbrev pub row_key_at : List ℕ → Mark → RowKey
row_key_at key mark = record {
  key = key;
  next = mark.next;
  month = mark.month;
  speed = mark.speed;
  group = mark.group;
}

-- the game of a mark in the position of a key
abbrev pub single_of : List ℕ → Mark → Outcome → Single
single_of key mark outcome = record {
  row_key = row_key_at key mark;
  number = mark.number;
  outcome = outcome;
  rating = mark.rating;
  sum = mark.sum;
}

-- the rows of a first mark, which has this outcome or none, and of those behind it
unfoldable pub rows_by : Option Outcome → Mark → List ℕ → List ℕ → List Row
    → (List ℕ → List ℕ → List Row → List Row) → List Row
rows_by (Some outcome) mark before tails whole rest =
    let key = key_behind before mark tails in
    row_of (single_of key mark outcome) ∷ rest key (drop (own_len mark) tails) whole
rows_by None mark before tails [] rest = []
rows_by None mark before tails (row ∷ whole) rest =
    row ∷ rest row.key tails whole

-- the rows of marks behind a key: a mark with an outcome is a row of one game, another the next
-- whole row
unfoldable pub rows_behind : List Mark → List ℕ → List ℕ → List Row → List Row
rows_behind [] before tails whole = []
rows_behind (mark ∷ marks) before tails whole =
    rows_by mark.outcome mark before tails whole (rows_behind marks)

-- the rows, of which the first one stands behind a key
abbrev pub rows_of : Encoded → List ℕ → List Row
rows_of encoded before = rows_behind encoded.marks before encoded.tails encoded.whole

-- the ends and the whole rows are those of the marks
pub record IsFilled (marks : List Mark) (tails : List ℕ) (whole : List Row) : Type 0 where
  pub ends : length tails ≡ sum_by kept_len marks
  pub rows : length whole ≡ count_by (λ mark. is_none mark.outcome) marks

-- there is a first row, and the key is its own
abbrev pub HasOwnKey : List ℕ → List Row → Type 0
HasOwnKey key [] = ⊥
HasOwnKey key (row ∷ rows) = row.key ≡ key

-- the key of the last row, or the one before where there is none
unfoldable pub key_after : List ℕ → List Row → List ℕ
key_after before [] = before
key_after before (row ∷ rows) = key_after row.key rows

-- the key of the first row, or another one where there is none
abbrev pub key_first : List ℕ → List Row → List ℕ
key_first key [] = key
key_first key (row ∷ rows) = row.key

-- ---- a row more

-- a mark of one game, of which the row is
pub record IsMarkOf (row : Row) (shared : ℕ) (mark : Mark) : Type 0 where
  pub at : mark.shared ≡ shared
  pub outcome : Outcome
  pub told : mark.outcome ≡ Some outcome
  pub is : row_of (single_of row.key mark outcome) ≡ row

-- the row is of the game of a mark, with this number
abbrev pub IsRenumbered : List ℕ → Mark → Outcome → ℕ → Row → Type 0
IsRenumbered key mark outcome number row =
    row_of (record (single_of key mark outcome) { number = number }) ≡ row

-- The new rows are the old ones and a row more, wherever the last of the old ones has this key. Its
-- mark tells how many bytes its key has in common with that one.
pub record IsAppended (before : List ℕ) (row : Row) (old new : Encoded) : Type 0 where
  pub rows : (first : List ℕ) → key_after first (rows_of old first) ≡ before
      → rows_of new first ≡ rows_of old first ++ row ∷ []
  pub mark : Mark
  pub marks : new.marks ≡ old.marks ++ mark ∷ []
  pub shared : mark.shared ≡ common_len before row.key
