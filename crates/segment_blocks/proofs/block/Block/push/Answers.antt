use Rattle.std.proofs.Common.{◌<◌, length, sym, ap, subst, arith}
use Rattle.segment_blocks.specs.HeldRow.{row_in}
use Rattle.segment_blocks.specs.Block.{IsBlock}
use Rattle.segment_blocks.specs.Encoded.{rows_of}
use Rattle.segment_blocks.proofs.AppendLemmas.{IsBlock-push}
use Rattle.segment_blocks.proofs.block.Block.push.Goals as goal

pub invariant_of-self-2 : goal.invariant_of-self-2
invariant_of-self-2 c =
    let b = c.self.inside in
    let room : length (rows_of b.rows b.first) < 128 = omega (arith, c.requires, ap length c.self.view_is) in
    let new = c.push.new.self in
    subst (λ last. IsBlock b.first last new) (sym c.key.ensures)
    (IsBlock-push (row_in c.args.held.now) b.rows new b.first b.last c.self.invariant room c.in_ok-push.ensures.ok)
