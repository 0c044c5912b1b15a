use Rattle.std.proofs.Common.{sym, ◌∙◌}
use Rattle.pgn_lex.proofs.Symbols.{word_by_first}
use Rattle.pgn_lex.proofs.items.kind_of_symbol.Goals as goal

pub returns-then-not-begins_with_digit : goal.returns-then-not-begins_with_digit
returns-then-not-begins_with_digit c =
    sym (word_by_first c.args.symbol.now (sym c.begins_with_digit.ensures ∙ c.if-not-begins_with_digit.true))
