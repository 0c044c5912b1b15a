use Rattle.std.proofs.Common.{refl}
use Rattle.legal_moves.proofs.board.Board.tidy_en_passant.Goals as goal

pub returns : goal.returns
returns c =
    rw (← c.self.view_is) (record { squares = refl; turn = refl; rights = refl; en_passant = c.legal_en_passant.ensures })
