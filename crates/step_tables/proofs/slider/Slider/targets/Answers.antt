use Rattle.step_tables.proofs.Test.{Holds-has_sights}
use Rattle.step_tables.proofs.slider.Slider.targets.Goals as goal

pub returns : goal.returns
returns g c = λ b h. Holds-has_sights _ _ c.args.self.now.right_bitboards c.args.square b c.requires h
