use Rattle.std.proofs.Common.{sym, ◌∙◌}
use Rattle.batch_tally.proofs.RunLemmas.{all-together}
use Rattle.batch_tally.proofs.reading.readings_of.Goals as goal

pub returns : goal.returns
returns c =
    let none = sym c.loop-part.part-iterator.rest.ok.0 ∙ c.in-None.ensures.steps.0 in
    all-together (λ part. part.items) c.loop-part.readings.items _ c.loop-part.rest.rest.items _ none c.loop-part.invariant
