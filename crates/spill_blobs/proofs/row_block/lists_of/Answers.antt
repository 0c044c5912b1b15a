use Rattle.std.proofs.Common.{arith}
use Rattle.spill_blobs.proofs.BlockLemmas.{lists-are, no-recent}
use Rattle.spill_blobs.proofs.row_block.lists_of.Goals as goal

pub returns-in_err-recent-clause-none : goal.returns-in_err-recent-clause-none
returns-in_err-recent-clause-none c =
    let top = c.in_ok-top.ensures.some in
    rw c.from_residual-in_err-recent.ensures
    (no-recent c.args.bytes.now c.in_ok-top.rest.now c.in_ok-top.top top.0 top.1 c.in_err-recent.ensures.none)

pub returns-clause-some : goal.returns-clause-some
returns-clause-some c =
    let top = c.in_ok-top.ensures.some in
    let recent = c.in_ok-recent.ensures.some in (
      top.0,
      recent.0,
      lists-are c.args.bytes.now c.in_ok-top.rest.now c.in_ok-top.top top.0 top.1 c.in_ok-recent.recent c.in_ok-recent._rest.now recent.1 recent.2
          (omega (arith, top.2, c.requires)),
    )
