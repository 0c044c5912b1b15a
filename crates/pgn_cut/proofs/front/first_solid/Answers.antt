use Rattle.std.proofs.Common.{sym, ◌∙◌, arith}
use Rattle.pgn_cut.proofs.Fronts.{solid-white, solid-stops, solid-all}
use Rattle.pgn_cut.proofs.front.first_solid.Goals as goal

pub returns-then-not-is_white_space : goal.returns-then-not-is_white_space
returns-then-not-is_white_space c =
    sym (solid-stops c.args.place c.args.bytes.now c.loop-at.at c.loop-at-test.true (sym (c.if-not-is_white_space.ensures))) ∙ c.loop-at.invariant.1

pub loop-at-preserved : goal.loop-at-preserved
loop-at-preserved c = (
  omega arith,
  sym (solid-white c.args.place c.args.bytes.now c.loop-at.at c.loop-at-test.true (sym (c.if-not-is_white_space.ensures))) ∙ c.loop-at.invariant.1,
)

pub returns : goal.returns
returns c = sym (solid-all c.args.place c.args.bytes.now c.loop-at.at c.loop-at-test.false) ∙ c.loop-at.invariant.1
