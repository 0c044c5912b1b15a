use Rattle.std.proofs.Common.{sym}
use Rattle.explorer_model.specs.Chess.{after}
use Rattle.legal_moves.proofs.PlayLemmas.{position_eq}
use Rattle.legal_moves.proofs.play.play_on.Goals as goal

pub returns-clause-position : goal.returns-clause-position
returns-clause-position c =
    sym (position_eq (after c.args.position.now c.args.m) _ (sym c.move_pieces.ensures.squares) (sym c.opponent-position.ensures)
    (sym c.rights_after-rights.ensures) (sym c.en_passant_after-en_passant.ensures))
