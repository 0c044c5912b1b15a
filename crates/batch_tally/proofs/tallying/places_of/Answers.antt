use Rattle.std.proofs.Common.{ap, ◌∙◌, map, arith}
use Rattle.std.proofs.lemmas.List.{take_all}
use Rattle.batch_tally.proofs.Made.{places-are}
use Rattle.batch_tally.proofs.tallying.places_of.Goals as goal

pub returns : goal.returns
returns c = c.loop-text.invariant ∙ ap (λ l. map (λ a. a.place) l) (take_all c.loop-text.text-index c.args.accepted.now (omega (arith, c.loop-text-test.false))) ∙ places-are c.args.accepted.now
