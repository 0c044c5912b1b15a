-- Statement: rows as blocks of 129 bytes. Numbers are little-endian.
use Rattle.std.specs.Prelude.{◌≡◌, ◌<◌, ◌≤◌, ◌^◌, ℕ, ◌-◌, ◌*◌, Bool, List, [], ◌∷◌, ◌++◌, length, replicate, Option, Some, None, IfSome}
use Rattle.std.specs.List.{AllByRecursion, flat_map}
use Rattle.std.specs.Int.{w16, w32, w64, to_le_bytes}
use Rattle.best_lists.specs.declared.entry.Entry.{Entry}
use Rattle.best_lists.specs.Ranking.{before_by_rating, before_by_month}
use Rattle.explorer_model.specs.declared.chess.Move.{Move}
use Rattle.explorer_model.specs.declared.chess.Position.{Position}
use Rattle.explorer_model.specs.declared.chess.Role.{Role}
use Rattle.explorer_model.specs.declared.chess.Role.TheVariants.{Pawn, Knight, Bishop, Rook, Queen, King}
use Rattle.explorer_model.specs.Best.{best}
use Rattle.explorer_model.specs.Chess.{IsValid}
use Rattle.explorer_model.specs.Keys.{HasKey}
use Rattle.explorer_model.specs.Order.{speed_index}
use Rattle.tally_rows.specs.declared.row.Row.{Row}
use Rattle.tally_rows.specs.declared.row_key.RowKey.{RowKey}
use Rattle.tally_rows.specs.Row.{row_key_of}

-- how many bytes a row has
abbrev pub block_size : ℕ
block_size = 129

-- none, or what a pawn may become; no code is that of the others
abbrev pub promotion_code : Option Role → ℕ
promotion_code None = 0
promotion_code (Some Knight) = 1
promotion_code (Some Bishop) = 2
promotion_code (Some Rook) = 3
promotion_code (Some Queen) = 4
promotion_code (Some Pawn) = 5
promotion_code (Some King) = 5

abbrev pub move_bytes : Option Move → List ℕ
move_bytes None = 255 ∷ 255 ∷ 255 ∷ []
move_bytes (Some m) = m.from.index ∷ m.to.index ∷ promotion_code m.promotion ∷ []

-- what the row's games have in common: 43 bytes
abbrev pub row_key_bytes : RowKey → List ℕ
row_key_bytes row_key =
    row_key.key
    ++ (move_bytes row_key.next
    ++ (to_le_bytes w16 row_key.month.year
    ++ (row_key.month.month
    ∷ speed_index row_key.speed
    ∷ to_le_bytes w16 row_key.group.value)))

-- how many games there are, and the sum of ratings: 20 bytes
abbrev pub count_bytes : Row → List ℕ
count_bytes row =
    to_le_bytes w32 row.white
    ++ (to_le_bytes w32 row.draws
    ++ (to_le_bytes w32 row.black
    ++ to_le_bytes w64 row.ratings))

abbrev pub entry_bytes : Entry → List ℕ
entry_bytes entry = to_le_bytes w32 entry.rank ++ to_le_bytes w32 entry.number

-- how many entries there are, and room for four of them, of which the rest is zeros: 33 bytes
abbrev pub list_bytes : List Entry → List ℕ
list_bytes entries =
    length entries ∷ (flat_map entry_bytes entries ++ replicate (8 * (4 - length entries)) 0)

unfoldable pub row_bytes : Row → List ℕ
row_bytes row =
    row_key_bytes (row_key_of row)
    ++ (count_bytes row ++ (list_bytes row.top ++ list_bytes row.recent))

-- ---- what has bytes

-- none, or a move that promotes to none or to what a pawn may become
abbrev pub CanBeWritten : Option Move → Type 0
CanBeWritten next = IfSome next (λ m. promotion_code m.promotion ≤ 4)

-- rank and number have room
abbrev pub Fits : Entry → Type 0
Fits entry = (entry.rank < 2 ^ 32) × (entry.number < 2 ^ 32)

-- at most four entries, which have room
pub record AreFew (entries : List Entry) : Type 0 where
  pub few : length entries ≤ 4
  pub fit : AllByRecursion Fits entries

-- entries that are their own best four
pub record IsList (before : Entry → Entry → Bool) (entries : List Entry) : Type 0 where
  pub few : AreFew entries
  pub own_best : best before 4 entries ≡ entries

-- the key has its length, the numbers have room, and the move can be written
pub record IsRowKey (row_key : RowKey) : Type 0 where
  pub key : length row_key.key ≡ 34
  pub next : CanBeWritten row_key.next
  pub year : row_key.month.year < 2 ^ 16
  pub group : row_key.group.value < 2 ^ 16

-- so are the numbers of the row, and its lists are lists
pub record IsWritable (row : Row) : Type 0 where
  pub row_key : IsRowKey (row_key_of row)
  pub white : row.white < 2 ^ 32
  pub draws : row.draws < 2 ^ 32
  pub black : row.black < 2 ^ 32
  pub ratings : row.ratings < 2 ^ 64
  pub top : IsList before_by_rating row.top
  pub recent : IsList before_by_month row.recent

-- the bytes are the key of a valid position
pub record IsKeyOfValid (key : List ℕ) : Type 0 where
  pub position : Position
  pub valid : IsValid position
  pub has_key : HasKey position key

-- the block is the row, whose key is that of a valid position
pub record IsRowAt (block : List ℕ) (row : Row) : Type 0 where
  pub writable : IsWritable row
  pub bytes : block ≡ row_bytes row
  pub valid : IsKeyOfValid row.key

-- the block is no row
abbrev pub IsBroken : List ℕ → Type 0
IsBroken block = (row : Row) → ¬ IsRowAt block row
