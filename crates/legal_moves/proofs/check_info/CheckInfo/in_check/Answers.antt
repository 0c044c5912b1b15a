use Rattle.legal_moves.proofs.BitboardFacts.{both-ways}
use Rattle.legal_moves.proofs.OneKing.{has_pieces, check_at}
use Rattle.legal_moves.proofs.check_info.CheckInfo.in_check.Goals as goal

pub returns : goal.returns
returns c =
    let p = c.args.position.now in
    let informed = c.requires in
    both-ways c.is_attacked.ensures
    (check_at p.squares p.turn c.args.self.now.king informed.valid.board (has_pieces p p.turn informed.valid).0 informed.on_board informed.king)
