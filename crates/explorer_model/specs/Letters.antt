-- Statement: the letters and digits that SAN, FEN and UCI share (PGN 8.2.3.1, 8.2.3.2).
use Prim.Native.String.{String}
use Rattle.std.specs.Prelude.{ℕ, Bool, map, bytes_eq, ◌+◌, ◌-◌, ◌*◌, ◌/◌, ◌%◌, ◌==◌, ◌&&◌, nat_le, Option, Some, None, option_map, option_and_then, List, [], ◌∷◌, find, slice_index_or, codes, if◌then◌else◌}
use Rattle.std.specs.Char.{to_ascii_lowercase}
use Rattle.explorer_model.specs.declared.chess.Role.{Role}
use Rattle.explorer_model.specs.declared.chess.Role.TheVariants.{Pawn, Knight, Bishop, Rook, Queen, King}

-- the same letters, in any case
abbrev pub is_same_word : List ℕ → List ℕ → Bool
is_same_word a b = bytes_eq (map to_ascii_lowercase a) (map to_ascii_lowercase b)

-- the byte of a character
abbrev pub byte : String → ℕ
byte character = slice_index_or (codes character) 0 0

abbrev pub letter_of : Role → ℕ
letter_of Pawn = byte "P"
letter_of Knight = byte "N"
letter_of Bishop = byte "B"
letter_of Rook = byte "R"
letter_of Queen = byte "Q"
letter_of King = byte "K"

-- a small letter is 32 above its capital
abbrev pub capital : ℕ → ℕ
capital b = b - 32

abbrev pub small_letter : Role → ℕ
small_letter role = letter_of role + 32

-- the one of the roles whose letter the byte is
abbrev pub role_of : List Role → ℕ → Option Role
role_of roles b = find (λ role. letter_of role == b) roles

-- what a pawn may become (FIDE 3.7.3.3)
abbrev pub promotions : List Role
promotions = Queen ∷ Rook ∷ Bishop ∷ Knight ∷ []

-- the roles that SAN names by a letter: a pawn's is left out
abbrev pub lettered : List Role
lettered = King ∷ promotions

-- a to h, as 0 to 7
abbrev pub file_named : ℕ → Option ℕ
file_named b = if nat_le (byte "a") b && nat_le b (byte "h") then Some (b - byte "a") else None

-- 1 to 8, as 0 to 7
abbrev pub rank_named : ℕ → Option ℕ
rank_named b = if nat_le (byte "1") b && nat_le b (byte "8") then Some (b - byte "1") else None

abbrev pub file_letter : ℕ → ℕ
file_letter square = byte "a" + square % 8

abbrev pub rank_digit : ℕ → ℕ
rank_digit square = byte "1" + square / 8

-- a square's file and rank
abbrev pub square_text : ℕ → List ℕ
square_text square = file_letter square ∷ rank_digit square ∷ []

-- the square that a file's letter and a rank's digit name
abbrev pub square_named : ℕ → ℕ → Option ℕ
square_named file rank =
    option_and_then (λ f. option_map (λ r. 8 * r + f) (rank_named rank)) (file_named file)
