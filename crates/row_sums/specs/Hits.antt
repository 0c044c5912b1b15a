-- Bridge: rows of a position, with the numbers that their games have among the games of all
-- batches.
use Rattle.std.specs.Prelude.{ℕ, ◌+◌, ◌*◌, ◌<◌, ◌≤◌, ◌^◌, List}
use Rattle.std.specs.List.{All, sum_by}
use Rattle.row_sums.specs.declared.hits.Hit.{Hit}
use Rattle.segment_blocks.specs.HeldRow.{row_in}
use Rattle.tally_rows.specs.declared.row.Row.{Row}

-- a row, and the number of the first game of its segment
pub record NumberedRow : Type 0 where
  pub row : Row
  pub first : ℕ

abbrev pub hit_as : Hit → NumberedRow
hit_as hit = record { row = row_in hit.row; first = hit.first }

-- ---- what is known of such rows

-- the most games of which an answer is made
abbrev pub look_limit : ℕ
look_limit = 2147483648

abbrev pub games_of : Row → ℕ
games_of row = row.white + row.draws + row.black

-- a row counts some game, a rating is less than 2^16, and the numbers of its games have room
pub record IsSound (hit : NumberedRow) : Type 0 where
  pub some : 0 < games_of hit.row
  pub ratings : hit.row.ratings ≤ 65535 * games_of hit.row
  pub top : All (λ entry. entry.number + hit.first < 2 ^ 32) hit.row.top
  pub recent : All (λ entry. entry.number + hit.first < 2 ^ 32) hit.row.recent

pub record AreSound (hits : List NumberedRow) : Type 0 where
  pub each : All IsSound hits
  pub few : sum_by (λ hit. games_of hit.row) hits ≤ look_limit
