-- Bridge: an item as the code finds it, and as the definition does.
use Rattle.std.specs.Prelude.{length, ◌≡◌, ℕ, ◌+◌, Bool, true, List, [], ◌∷◌, take, drop, slice_index, ◌==◌}
use Rattle.std.specs.Char.{is_ascii_digit}
use Rattle.explorer_model.specs.Items.{Shape, Item, Wrong, one_byte, shape_of, symbol_of}
use Rattle.explorer_model.specs.Items as items
use Rattle.pgn_lex.specs.declared.items.Kind.{Kind}
use Rattle.pgn_lex.specs.declared.items.Kind.TheVariants as kinds
use Rattle.pgn_lex.specs.declared.items.Shape as found
use Rattle.pgn_lex.specs.declared.items.Item as built
use Rattle.pgn_lex.specs.Pair.{tag_of}

abbrev pub kind_as : Kind → items.Kind
kind_as kinds.Blank = items.Blank
kind_as (kinds.Pair pair) = items.Pair (tag_of pair)
kind_as (kinds.Terminates ending) = items.Terminates ending
kind_as kinds.Word = items.Word
kind_as kinds.Dropped = items.Dropped
kind_as kinds.Opens = items.Opens
kind_as kinds.Closes = items.Closes
kind_as kinds.Wrong = items.Wrong

abbrev pub shape_as : found.Shape → Shape
shape_as shape = record { kind = kind_as shape.kind; more = shape.more }

-- the item that the bytes begin with
abbrev pub shape_at : Bool → List ℕ → Shape
shape_at fresh [] = one_byte Wrong
shape_at fresh (b ∷ bytes) = shape_of fresh b bytes

abbrev pub symbol_at : List ℕ → Shape
symbol_at [] = one_byte Wrong
symbol_at (b ∷ bytes) = symbol_of b bytes

-- the first byte is a digit, if there is one
abbrev pub begins_with_digit : List ℕ → Bool
begins_with_digit [] = true
begins_with_digit (b ∷ bytes) = is_ascii_digit b

abbrev pub item_as : built.Item → Item
item_as item = record { kind = kind_as item.kind; place = item.place; text = item.text.now }

-- a line begins at the offset
abbrev pub begins_line : ℕ → List ℕ → Bool
begins_line at text = slice_index (10 ∷ text) at == 10

-- the item that begins at the offset
unfoldable pub item_at : ℕ → List ℕ → Item
item_at at text =
    let shape = shape_at (begins_line at text) (drop at text) in
    record { kind = shape.kind; place = at; text = take (shape.more + 1) (drop at text) }

-- the item's bytes are those that stand in the text at its place
abbrev pub IsCut : List ℕ → Item → Type 0
IsCut text item = take (length item.text) (drop item.place text) ≡ item.text
