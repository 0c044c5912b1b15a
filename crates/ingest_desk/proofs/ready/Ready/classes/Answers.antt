use Rattle.std.proofs.Common.{◌∙◌, length, ap, arith}
use Rattle.tally_rows.specs.Tally.{Counted}
use Rattle.ingest_desk.proofs.ready.Ready.classes.Goals as goal

pub classes_of_one-requires : goal.classes_of_one-requires
classes_of_one-requires c =
    let batches = ap length c.self.invariant.made_of.batches in
    omega (arith, batches)

pub returns : goal.returns
returns c =
    let s = c.self in
    c.classes_of_one.ensures ∙ s.invariant.made_of.classes ∙ ap (λ (t : Counted). t.classes) s.view_is
