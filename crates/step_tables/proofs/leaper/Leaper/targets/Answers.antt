use Rattle.step_tables.proofs.Test.{Holds-has_reached}
use Rattle.step_tables.proofs.leaper.Leaper.targets.Goals as goal

pub returns : goal.returns
returns g c = λ b h. Holds-has_reached _ _ c.args.self.now.right c.args.square b c.requires h
