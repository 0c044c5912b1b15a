use Rattle.std.proofs.Common.{None, arith, rules}
use Rattle.std.proofs.lemmas.List.Edits.{fill_by_more}
use Rattle.std.proofs.lemmas.List.FromFn.{fill_by_all}
use Rattle.explorer_model.specs.Chess.{placed, squares_after}
use Rattle.chess_reference.proofs.play.squares_after.Goals as goal

pub loop-s-preserved : goal.loop-s-preserved
loop-s-preserved c = record {
  size = search rules;
  filled = rw c.piece_after.ensures (fill_by_more (placed c.args.position.now c.args.m) _ _ None (omega (arith, c.loop-s.invariant.size)) c.loop-s.invariant.filled);
}

pub returns : goal.returns
unfolding squares_after
returns c = fill_by_all (placed c.args.position.now c.args.m) _ 64 None c.loop-s.invariant.size (λ k h. c.loop-s.invariant.filled k (omega arith))
