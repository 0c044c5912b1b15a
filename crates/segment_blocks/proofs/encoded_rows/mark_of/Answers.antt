use Rattle.std.proofs.Common.{sym, subst}
use Rattle.std.proofs.lemmas.Option.{IfSome_then}
use Rattle.tally_rows.specs.declared.row.Row.{Row}
use Rattle.segment_blocks.specs.Encoded.{IsMarkOf}
use Rattle.segment_blocks.proofs.encoded_rows.mark_of.Goals as goal

pub returns : goal.returns
returns c =
    IfSome_then c.mark_of_game.result c.mark_of_game.ensures
    (λ mark is. subst (λ (row : Row). IsMarkOf row c.args.shared mark) (sym c.in_ok-single.ensures.game) is)
