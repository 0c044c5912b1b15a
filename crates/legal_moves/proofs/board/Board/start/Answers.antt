use Rattle.std.proofs.Common.{◌≡◌, refl, sym, subst, ap, ◌∙◌}
use Rattle.explorer_model.specs.declared.chess.Position.{Position}
use Rattle.explorer_model.specs.Chess.{IsValid, start_squares}
use Rattle.legal_moves.specs.declared.piece_sets.PieceSets.{PieceSets}
use Rattle.legal_moves.specs.PieceSets.{set_of, sets_in}
use Rattle.legal_moves.proofs.StartIsValid.{start_is_valid}
use Rattle.legal_moves.proofs.board.Board.start.Goals as goal

start_sets : PieceSets
start_sets = record {
  white = 65535;
  black = 18446462598732840960;
  pawns = 71776119061282560;
  knights = 4755801206503243842;
  bishops = 2594073385365405732;
  rooks = 9295429630892703873;
  queens = 576460752303423496;
  kings = 1152921504606846992;
}

start_sets_are : start_sets ≡ sets_in start_squares
unfolding start_sets sets_in set_of
start_sets_are = refl

pub invariant_of-result : goal.invariant_of-result
unfolding start_sets
invariant_of-result c = record {
  valid = let P : Position → Type 0 = λ p. IsValid p in subst P (sym c.start.ensures) start_is_valid;
  told = start_sets_are ∙ ap (λ p. sets_in p.squares) (sym c.start.ensures);
}
