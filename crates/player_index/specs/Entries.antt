-- Statement: the games of players in their order: by name without regard to case, by colour, by
-- number.
use Rattle.std.specs.Prelude.{ℕ, zero, suc, ◌+◌, Bool, List, [], ◌∷◌, map, length, if◌then◌else◌, Option, None, Some}
use Rattle.std.specs.Char.{to_ascii_lowercase}
use Rattle.std.specs.declared.cmp.Ordering.{Ordering}
use Rattle.std.specs.Cmp.Lexicographic.{slice_cmp}
use Rattle.std.specs.List.{slice_get}
use Rattle.std.specs.Ordering.{nat_cmp, on, then_cmp, is_lt, is_eq}
use Rattle.best_lists.proofs.Ranked.{ranked}
use Rattle.explorer_model.specs.declared.archive.Classes.{Classes}
use Rattle.explorer_model.specs.declared.chess.Color.{Color}
use Rattle.explorer_model.specs.declared.chess.Color.TheVariants.{White, Black}
use Rattle.explorer_model.specs.Players.{name_of_side}
use Rattle.player_index.specs.declared.entry.Entry.{Entry}

-- the numbers of the games that pass a test, of games whose first one has this number
unfoldable pub numbers_where : (Classes → Bool) → ℕ → List Classes → List ℕ
numbers_where test first [] = []
numbers_where test first (classes ∷ more) =
    if test classes then first ∷ numbers_where test (first + 1) more
    else numbers_where test (first + 1) more

-- ---- the order of entries

-- a name without regard to the case of ASCII letters
abbrev pub folded : List ℕ → List ℕ
folded name = map to_ascii_lowercase name

abbrev pub color_index : Color → ℕ
color_index White = 0
color_index Black = 1

-- a name, folded, and a colour
abbrev pub seat_order : List ℕ × ℕ → List ℕ × ℕ → Ordering
seat_order = then_cmp (on (λ s. s.0) (slice_cmp nat_cmp)) (on (λ s. s.1) nat_cmp)

abbrev pub seat_by : List ℕ → Color → List ℕ × ℕ
seat_by name color = (folded name, color_index color)

-- the name of the player of a colour; nothing where there is no game
abbrev pub name_in : Color → Option Classes → List ℕ
name_in color None = []
name_in color (Some classes) = name_of_side color classes

abbrev pub seat_of : List Classes → Entry → List ℕ × ℕ
seat_of classes e = seat_by (name_in e.color (slice_get classes e.number)) e.color

-- a seat and a number, by which entries are ordered
abbrev pub place_order : (List ℕ × ℕ) × ℕ → (List ℕ × ℕ) × ℕ → Ordering
place_order = then_cmp (on (λ p. p.0) seat_order) (on (λ p. p.1) nat_cmp)

abbrev pub place_of : List Classes → Entry → (List ℕ × ℕ) × ℕ
place_of classes e = (seat_of classes e, e.number)

-- the entry stands before the place
abbrev pub is_below : List Classes → (List ℕ × ℕ) × ℕ → Entry → Bool
is_below classes place e = is_lt (place_order (place_of classes e) place)

abbrev pub before : List Classes → Entry → Entry → Bool
before classes a b = is_below classes (place_of classes b) a

-- the entry is of this seat
abbrev pub is_at : List Classes → List ℕ × ℕ → Entry → Bool
is_at classes seat e = is_eq (seat_order (seat_of classes e) seat)

-- ---- all entries

abbrev pub entry : ℕ → Color → Entry
entry number color = record { number = number; color = color }

-- two entries for each of so many games, the first of which has this number
unfoldable pub entries_from : ℕ → ℕ → List Entry
entries_from first zero = []
entries_from first (suc count) =
    entry first White ∷ entry first Black ∷ entries_from (first + 1) count

-- the entries of all games, in their order
abbrev pub entries_in : List Classes → List Entry
entries_in classes = ranked (before classes) (entries_from 0 (length classes))
