use Rattle.step_tables.proofs.BetweenLemmas.{Holds-entry}
use Rattle.step_tables.proofs.in_between.between_ascending.Goals as goal

pub returns : goal.returns
returns c = λ s h. Holds-entry c.args.low c.args.high s c.requires.in_order c.requires.on_board h
