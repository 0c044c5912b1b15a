use Rattle.std.proofs.Common.{refl}
use Rattle.import_run.proofs.HoldLemmas.{holds_text, holds_long, holds_preamble}
use Rattle.import_run.proofs.text_group.TextGroup.push.Goals as goal

pub returns-in_ok-push-in-Text-clause-group : goal.returns-in_ok-push-in-Text-clause-group
returns-in_ok-push-in-Text-clause-group c = λ cuts. holds_text cuts c.args.cut c.in-Text.text c.args.self.now _ c.in-Text.is c.in_ok-push-in-Text.ensures.items refl

pub returns-in_ok-push-in-TooLong-clause-group : goal.returns-in_ok-push-in-TooLong-clause-group
returns-in_ok-push-in-TooLong-clause-group c = λ cuts. holds_long cuts c.args.cut _ _ c.args.self.now _ c.in-TooLong.is refl c.in_ok-push-in-TooLong.ensures.items

pub returns-in_ok-push-in-Preamble-clause-group : goal.returns-in_ok-push-in-Preamble-clause-group
returns-in_ok-push-in-Preamble-clause-group c = λ cuts. holds_preamble cuts c.args.cut _ c.args.self.now _ c.in-Preamble.is refl c.in_ok-push-in-Preamble.ensures.items
