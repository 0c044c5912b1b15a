use Rattle.std.proofs.Common.{ap, ◌∙◌, drop}
use Rattle.http_wire.proofs.Places.{part-drop}
use Rattle.http_wire.proofs.ahead.ReadAhead.skip.Goals as goal

pub returns-else-self : goal.returns-else-self
returns-else-self c =
    part-drop c.self.inside.bytes c.self.inside.start c.self.inside.end c.args.count
    ∙ ap (drop c.args.count) c.self.view_is
