use Rattle.std.proofs.Common.{◌≡◌, map, take}
use Rattle.pgn_lex.specs.Span.{token_in}
use Rattle.pgn_lex.proofs.reading.tokens_of.Given as goal

abbrev pub invariant-loop-span : goal.invariant-loop-span
invariant-loop-span l = l.tokens.items ≡ map (token_in l.text) (take l.span-index l.spans)
