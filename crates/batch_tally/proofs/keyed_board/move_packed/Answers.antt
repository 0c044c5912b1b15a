use Rattle.std.proofs.Common.{None, set, ap, ◌∙◌}
use Rattle.explorer_model.specs.Chess.{arriving}
use Rattle.explorer_model.specs.Keys.{packed}
use Rattle.batch_tally.specs.KeyedBoard.{moved}
use Rattle.legal_moves.proofs.Writes.{length-set_64}
use Rattle.batch_tally.proofs.keyed_board.move_packed.Goals as goal

pub returns : goal.returns
returns c = λ squares whole told.
    c.write_square-2.ensures (set squares c.args.m.from.index None) (length-set_64 squares c.args.m.from.index None whole)
    (c.write_square.ensures squares whole told)
    ∙ ap (λ o. packed (moved squares c.args.m.from.index c.args.m.to.index o)) c.arriving_piece-arrives.ensures
    ∙ ap (λ o. packed (moved squares c.args.m.from.index c.args.m.to.index (arriving o c.args.m.promotion))) c.piece_at.ensures
