use Rattle.std.proofs.Common.{sym, subst}
use Rattle.explorer_model.specs.declared.chess.Position.{Position}
use Rattle.explorer_model.specs.Chess.{Legal}
use Rattle.batch_tally.proofs.keyed_board.KeyedBoard.play_on.Goals as goal

pub play_on-requires : goal.play_on-requires
play_on-requires c = let IsLegal : Position → Type 0 = λ p. Legal p c.args.step in subst IsLegal (sym c.self.view_is) c.requires
