use Rattle.std.proofs.Common.{ap, ◌∙◌}
use Rattle.std.specs.List.{prefix_len}
use Rattle.std.proofs.lemmas.List.{take_rest}
use Rattle.explorer_model.specs.Items.{continues_symbol}
use Rattle.pgn_lex.specs.Items.{kind_as}
use Rattle.pgn_lex.proofs.Symbols.{symbol-shape}
use Rattle.pgn_lex.proofs.items.symbol.Goals as goal

pub returns : goal.returns
returns c =
    symbol-shape c.args.bytes.now (kind_as c.kind_of_symbol.result) c.run_len-more.result c.in-len1-up.len_at_least
    (c.run_len-more.ensures.count ∙ ap (prefix_len continues_symbol) (take_rest c.args.bytes.now 1)) c.kind_of_symbol.ensures
