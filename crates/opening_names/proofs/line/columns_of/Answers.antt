use Rattle.std.proofs.Common.{ap, sym, ◌∙◌}
use Rattle.std.specs.Option.{option_copied}
use Rattle.opening_names.proofs.ColumnLemmas.{columns-more}
use Rattle.opening_names.proofs.line.columns_of.Goals as goal

pub returns-then-is_some : goal.returns-then-is_some
returns-then-is_some c =
    columns-more c.args.line.now c.split_piece.result.0.now c.split_piece-2.result.0.now c.split_piece-3.result.0.now
    c.in_ok-rest.field-0.now c.in_ok-rest-2.field-0.now c.split_piece.result.1 c.split_piece-2.result.1 c.split_piece-3.result.1
    c.split_piece.ensures.pieces (ap option_copied c.in_ok-rest.was) c.split_piece-2.ensures.pieces (ap option_copied c.in_ok-rest-2.was)
    c.split_piece-3.ensures.pieces (sym c.is_some.ensures ∙ c.if-is_some.true)
