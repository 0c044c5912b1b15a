-- Statement: the order of singles, and what they are of a list of games.
use Rattle.std.specs.Prelude.{◌≡◌, ℕ, List, map}
use Rattle.std.specs.List.{filter, enumerate_from}
use Rattle.std.specs.declared.cmp.Ordering.{Ordering}
use Rattle.std.specs.Ordering.{on, nat_cmp, then_cmp}
use Rattle.std.specs.Cmp.{IsTotalOrder, then_total, on_total, nat_cmp_total}
use Rattle.tally_rows.specs.declared.single.Single.{Single}
use Rattle.tally_rows.specs.declared.row_key.RowKey.{RowKey}
use Rattle.tally_rows.specs.RowKey.{row_order, row_order-total, same_row_key}
use Rattle.tally_rows.specs.Tallied.{mover_rating, rating_sum}
use Rattle.tally_rows.specs.Track.{Track, has}

-- by the parts, then by the number
abbrev pub single_order : Single → Single → Ordering
single_order = then_cmp (on (λ s. s.row_key) row_order) (on (λ s. s.number) nat_cmp)

pub single_order-total : IsTotalOrder single_order
single_order-total =
    then_total (on_total (λ s. s.row_key) row_order-total) (on_total (λ s. s.number) nat_cmp_total)

-- the single of a game that has the parts, with its place in the list of games
abbrev pub single_of : RowKey → ℕ × Track → Single
single_of row_key (number, track) = record {
  row_key = row_key;
  number = number;
  outcome = track.classes.outcome;
  rating = mover_rating row_key.key track.classes;
  sum = rating_sum track;
}

-- the singles are those of the games: at each parts one for each game that has them, in the order of the games
pub record AreSingles (tracks : List Track) (singles : List Single) : Type 0 where
  pub at : (row_key : RowKey) → filter (λ s. same_row_key row_key s.row_key) singles
      ≡ map (single_of row_key) (filter (λ p. has row_key p.1) (enumerate_from 0 tracks))
