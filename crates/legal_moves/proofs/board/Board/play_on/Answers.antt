use Rattle.std.proofs.Common.{sym, subst}
use Rattle.explorer_model.specs.declared.chess.Position.{Position}
use Rattle.explorer_model.specs.Chess.{IsValid, Legal}
use Rattle.legal_moves.proofs.PlayLemmas.{legal_keeps_validity}
use Rattle.legal_moves.proofs.board.Board.play_on.Goals as goal

pub invariant_of-self : goal.invariant_of-self
invariant_of-self c =
    let IsLegal : Position → Type 0 = λ p. Legal p c.args.step in
    let Valid : Position → Type 0 = λ p. IsValid p in
    record {
      valid = subst Valid (sym c.play_on.ensures.position)
          (legal_keeps_validity c.self.inside.position c.args.step c.self.invariant.valid (subst IsLegal (sym c.self.view_is) c.requires));
      told = c.play_on.ensures.told;
    }
