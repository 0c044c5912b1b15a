use Rattle.std.proofs.Common.{refl, subst}
use Rattle.explorer_model.specs.declared.chess.Position.{Position}
use Rattle.legal_moves.specs.Tidy.{IsTidied}
use Rattle.legal_moves.proofs.TidyLemmas.{tidied_valid}
use Rattle.legal_moves.proofs.board.Board.tidy.Goals as goal

pub invariant_of-result : goal.invariant_of-result
invariant_of-result c = record {
  valid = tidied_valid c.self.inside.position c.legal_en_passant.result c.self.invariant.valid c.legal_en_passant.ensures;
  told = c.self.invariant.told;
}

pub returns : goal.returns
returns c =
    let P : Position → Type 0 = λ p. IsTidied p record {
      squares = c.self.inside.position.squares;
      turn = c.self.inside.position.turn;
      rights = c.self.inside.position.rights;
      en_passant = c.legal_en_passant.result;
    } in
    subst P c.self.view_is (record { squares = refl; turn = refl; rights = refl; en_passant = c.legal_en_passant.ensures })
