use Rattle.std.proofs.Common.{ap, ◌∙◌}
use Rattle.legal_moves.specs.Sources.{takes_on}
use Rattle.legal_moves.proofs.SourceLemmas.{takes-captures}
use Rattle.legal_moves.proofs.board.Board.takes.Goals as goal

pub returns-clause-value : goal.returns-clause-value
returns-clause-value c = rw (← c.self.view_is) c.takes.ensures

pub returns-clause-captures : goal.returns-clause-captures
returns-clause-captures c = λ m to stands.
    c.takes.ensures
    ∙ ap (λ p. takes_on p c.args.role c.args.to.index) c.self.view_is
    ∙ takes-captures c.args.self.now m c.args.role c.args.to.index to stands
