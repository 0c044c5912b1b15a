-- Bridge: the numbers that singles are sorted by.
use Rattle.std.specs.Prelude.{◌≡◌, ℕ, zero, suc, ◌+◌, ◌*◌, ◌<◌, ◌^◌, Bool, ◌&&◌, ◌==◌, Option, Some, None, List, [], length, slice_index, slice_index_or, map}
use Rattle.explorer_model.specs.declared.archive.Outcome.TheVariants as outcomes
use Rattle.explorer_model.specs.declared.archive.Speed.TheVariants as speeds
use Rattle.explorer_model.specs.declared.chess.Move.{Move}
use Rattle.explorer_model.specs.declared.chess.Role.{Role}
use Rattle.explorer_model.specs.Order.{speed_index, role_index}
use Rattle.tally_rows.specs.declared.row_key.RowKey.{RowKey}
use Rattle.tally_rows.specs.declared.single.Single.{Single}
use Rattle.tally_rows.specs.declared.sort_entry.SortEntry.{SortEntry}

-- the number that n bytes from a place on spell, the first of them worth the most
abbrev pub spelled : List ℕ → ℕ → ℕ → ℕ
spelled bytes at zero = 0
spelled bytes at (suc n) = slice_index bytes at * 256 ^ n + spelled bytes (at + 1) n

abbrev pub promotion_code : Option Role → ℕ
promotion_code None = 0
promotion_code (Some role) = 1 + role_index role

-- none first, then by the two squares and the promotion
abbrev pub next_code : Option Move → ℕ
next_code None = 0
next_code (Some move) =
    1 + (move.from.index * 512 + (move.to.index * 8 + promotion_code move.promotion))

-- the end of the key, the next move, the year, the month and the speed
abbrev pub rest_of : RowKey → ℕ
rest_of row_key = spelled row_key.key 32 2 * 2 ^ 48
    + (next_code row_key.next * 2 ^ 32
    + (row_key.month.year * 2 ^ 16 + (row_key.month.month * 2 ^ 8 + speed_index row_key.speed)))

-- the entry has the parts as its numbers
pub record Tells (entry : SortEntry) (row_key : RowKey) : Type 0 where
  pub long : length row_key.key ≡ 34
  pub bytes : (i : ℕ) → slice_index row_key.key i < 256
  pub year : row_key.month.year < 2 ^ 16
  pub month : row_key.month.month < 2 ^ 8
  pub first : entry.first ≡ spelled row_key.key 0 8
  pub second : entry.second ≡ spelled row_key.key 8 8
  pub third : entry.third ≡ spelled row_key.key 16 8
  pub fourth : entry.fourth ≡ spelled row_key.key 24 8
  pub rest : entry.rest ≡ rest_of row_key
  pub group : entry.group ≡ row_key.group.value

-- whether two entries have the same numbers, whatever their places
abbrev pub same_numbers : SortEntry → SortEntry → Bool
same_numbers x y =
    (x.first == y.first)
    && ((x.second == y.second)
    && ((x.third == y.third)
    && ((x.fourth == y.fourth)
    && ((x.rest == y.rest) && (x.group == y.group)))))

-- any single
unfoldable pub any_single : Single
any_single = record {
  row_key = record {
    key = [];
    next = None;
    month = record { year = 0; month = 0 };
    speed = speeds.Blitz;
    group = record { value = 0 };
  };
  number = 0;
  outcome = outcomes.Draw;
  rating = 0;
  sum = 0;
}

-- the singles that entries stand for, where any other than those of the list would do for what is beyond it
abbrev pub picked : List Single → List SortEntry → Single → List Single
picked singles entries other = map (λ entry. slice_index_or singles entry.at other) entries

-- the entry stands for a single of the list, and has its parts
abbrev pub IsEntryIn : List Single → Single → SortEntry → Type 0
IsEntryIn singles other entry =
    (entry.at < length singles) × Tells entry (slice_index_or singles entry.at other).row_key
