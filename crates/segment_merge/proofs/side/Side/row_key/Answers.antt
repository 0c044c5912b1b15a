use Rattle.std.proofs.Common.{sym, ap, ◌∙◌}
use Rattle.segment_blocks.specs.Moving.{next_row_key}
use Rattle.segment_merge.proofs.MergedLemmas.{next-shifted}
use Rattle.segment_merge.proofs.side.Side.row_key.Goals as goal

pub returns : goal.returns
returns c =
    let s = c.self.inside in
    c.next_row_key.ensures ∙ sym (next-shifted s.by s.rest) ∙ ap next_row_key c.self.view_is
