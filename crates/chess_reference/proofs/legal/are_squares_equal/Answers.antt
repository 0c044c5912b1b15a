use Rattle.std.proofs.Common.{None, refl, sym, ◌∙◌, arith}
use Rattle.std.proofs.lemmas.List.FromFn.{fill_by_all}
use Rattle.explorer_model.specs.Board.{piece_at}
use Rattle.chess_reference.proofs.legal.are_squares_equal.Goals as goal

pub returns : goal.returns
returns c = (
  λ _.
      fill_by_all (piece_at c.args.q.now) _ 64 None c.requires.p_board (λ k below. c.loop-s.invariant k (omega (arith, c.loop-s-test.false, below)))
      ∙ sym (fill_by_all (piece_at c.args.q.now) _ 64 None c.requires.q_board (λ k below. refl)),
  λ _. refl,
)
