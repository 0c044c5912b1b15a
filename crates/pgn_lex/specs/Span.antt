-- Bridge: move tokens as spans of their text.
use Rattle.std.specs.Prelude.{ℕ, ◌-◌, ◌≤◌, List, take, drop}
use Rattle.explorer_model.specs.declared.archive.Token.{Token}
use Rattle.pgn_lex.specs.declared.span.Span.{Span}

abbrev pub bytes_of : List ℕ → Span → List ℕ
bytes_of text span = take (span.end - span.start) (drop span.start text)

-- the token that the span is
abbrev pub token_in : List ℕ → Span → Token
token_in text span = record { place = span.start; text = bytes_of text span }

-- the span lies in a text of this many bytes
abbrev pub IsWithin : ℕ → Span → Type 0
IsWithin size span = (span.start ≤ span.end) × (span.end ≤ size)
