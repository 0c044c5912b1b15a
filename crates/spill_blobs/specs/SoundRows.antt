-- Statement: rows of one position that games can have.
use Rattle.std.specs.Prelude.{◌≡◌, ◌≢◌, ◌<◌, ◌≤◌, ◌+◌, ◌*◌, ◌↔◌, ℕ, min, Bool, if◌then◌else◌, List, map, length, None, IfSome, is_some}
use Rattle.std.specs.List.{AllByRecursion, AllPairs, Contains, flat_map, sum_by}
use Rattle.std.specs.List.Sorted.{IsStrictlySortedBy}
use Rattle.best_lists.specs.declared.entry.Entry.{Entry}
use Rattle.best_lists.specs.Ranking.{before_by_rating, before_by_month}
use Rattle.explorer_model.specs.Best.{best}
use Rattle.explorer_model.specs.declared.chess.Move.{Move}
use Rattle.explorer_model.specs.declared.chess.Position.{Position}
use Rattle.explorer_model.specs.Chess.{Legal}
use Rattle.explorer_model.specs.Tidy.{IsTidyKey}
use Rattle.tally_rows.specs.declared.row.Row.{Row}
use Rattle.tally_rows.specs.RowKey.{row_order}
use Rattle.tally_rows.specs.Row.{row_key_of}

abbrev pub games_of : Row → ℕ
games_of row = row.white + row.draws + row.black

-- how many games a row has to list: none without a move
abbrev pub listed_of : Row → ℕ
listed_of row = if is_some row.next then games_of row else 0

-- the best four of so many of n games, or all of them, in their order
pub record IsListOf (before : Entry → Entry → Bool) (n count : ℕ) (entries : List Entry) : Type 0
  where
    pub size : length entries ≡ min 4 count
    pub ordered : best before 4 entries ≡ entries
    pub numbers : AllByRecursion (λ entry. entry.number < n) entries

-- the greatest rating
abbrev pub rating_limit : ℕ
rating_limit = 4000

-- some game, ratings of its games, and none without a move
pub record IsCounted (row : Row) : Type 0 where
  pub some : 0 < games_of row
  pub rated : row.ratings ≤ rating_limit * games_of row
  pub unrated : row.next ≡ None → row.ratings ≡ 0

-- what games count, of n, that come to the position and play a legal move there or end
pub record IsSoundRow (at : Position) (n : ℕ) (row : Row) : Type 0 where
  pub keyed : IsTidyKey at row.key
  pub legal : IfSome row.next (λ m. Legal at m)
  pub counted : IsCounted row
  pub top : IsListOf before_by_rating n (listed_of row) row.top
  pub recent : IsListOf before_by_month n (listed_of row) row.recent

-- the numbers of the games in all lists
abbrev pub numbers_in : (Row → List Entry) → List Row → List ℕ
numbers_in list rows = map (λ entry. entry.number) (flat_map list rows)

-- no number stands twice
abbrev pub AreDifferent : List ℕ → Type 0
AreDifferent numbers = AllPairs (λ a b. a ≢ b) numbers

-- rows of a position that n games can have
pub record AreSound (at : Position) (n : ℕ) (rows : List Row) : Type 0 where
  pub ordered : IsStrictlySortedBy row_order (map row_key_of rows)
  pub each : AllByRecursion (IsSoundRow at n) rows
  pub few : sum_by games_of rows ≤ n
  pub tops : AreDifferent (numbers_in (λ row. row.top) rows)
  pub recents : AreDifferent (numbers_in (λ row. row.recent) rows)

-- the moves are the legal ones
abbrev pub AreLegalMoves : Position → List Move → Type 0
AreLegalMoves at moves = (m : Move) → Contains moves m ↔ Legal at m
