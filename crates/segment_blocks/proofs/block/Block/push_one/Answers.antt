use Rattle.std.proofs.Common.{◌<◌, length, ap, subst, arith}
use Rattle.tally_rows.specs.Row.{row_of}
use Rattle.segment_blocks.specs.Block.{IsBlock}
use Rattle.segment_blocks.specs.Encoded.{rows_of}
use Rattle.segment_blocks.proofs.AppendLemmas.{IsBlock-push}
use Rattle.segment_blocks.proofs.EncodedLemmas.{row_of-key}
use Rattle.segment_blocks.proofs.block.Block.push_one.Goals as goal

pub invariant_of-self-2 : goal.invariant_of-self-2
invariant_of-self-2 c =
    let b = c.self.inside in
    let room : length (rows_of b.rows b.first) < 128 = omega (arith, c.requires, ap length c.self.view_is) in
    let new = c.push_one.new.self in
    subst (λ last. IsBlock b.first last new) (row_of-key c.args.game.now)
    (IsBlock-push (row_of c.args.game.now) b.rows new b.first b.last c.self.invariant room c.in_ok-push_one.ensures.ok)
