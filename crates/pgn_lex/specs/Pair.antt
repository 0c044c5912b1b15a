-- Bridge: a tag pair as it stands in a text, and the tag that it is.
use Rattle.std.specs.Prelude.{ℕ, Bool, false, not, ◌||◌, ◌==◌}
use Rattle.explorer_model.specs.declared.archive.Tag.{Tag}
use Rattle.explorer_model.specs.Items.{unescaped}
use Rattle.pgn_lex.specs.declared.pair.Pair.{Pair}

abbrev pub tag_of : Pair → Tag
tag_of pair = record { name = pair.name.now; value = unescaped false pair.string.now }

-- the byte neither closes a string, nor ends a line, nor escapes
abbrev pub is_plain : ℕ → Bool
is_plain b = not (b == 34 || b == 92 || b == 10 || b == 13)
