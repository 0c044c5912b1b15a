-- Bridge: the parts of a text whose move tokens are spans of it.
use Rattle.std.specs.Prelude.{ℕ, List, map}
use Rattle.explorer_model.specs.declared.archive.Parts.{Parts}
use Rattle.pgn_lex.specs.declared.spanned.SpannedParts.{SpannedParts}
use Rattle.pgn_lex.specs.Span.{token_in}

abbrev pub spanned_as : List ℕ → SpannedParts → Parts
spanned_as text spanned = record {
  tags = spanned.tags;
  tokens = map (token_in text) spanned.spans.items;
  termination = spanned.termination;
}
