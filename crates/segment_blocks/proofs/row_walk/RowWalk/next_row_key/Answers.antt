use Rattle.std.proofs.Common.{◌≡◌, [], sym, ap, ◌∙◌}
use Rattle.segment_blocks.specs.Moving.{next_row_key}
use Rattle.segment_blocks.specs.Walk.{rows_until}
use Rattle.segment_blocks.proofs.UntilLemmas.{next-none, until-nil}
use Rattle.segment_blocks.proofs.row_walk.RowWalk.next_row_key.Goals as goal

pub returns-in_err-row_key : goal.returns-in_err-row_key
returns-in_err-row_key c =
    let w = c.self.inside in
    let nothing : w.rest ≡ [] = next-none w.rest (sym c.next_row_key.ensures ∙ c.in_err-row_key.was) in
    c.from_residual.ensures ∙ ap next_row_key (sym (until-nil w.until)) ∙ ap (λ r. next_row_key (rows_until w.until r)) (sym nothing) ∙ ap next_row_key c.self.view_is
