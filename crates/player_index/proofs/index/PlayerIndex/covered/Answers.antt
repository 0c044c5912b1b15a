use Rattle.std.proofs.Common.{subst}
use Rattle.player_index.specs.Index.{IsIndexed}
use Rattle.player_index.proofs.index.PlayerIndex.covered.Goals as goal

pub returns-clause-index : goal.returns-clause-index
returns-clause-index c = subst IsIndexed c.self.view_is
    (record { classes = c.self.invariant.classes; are_classes = c.self.invariant.are_classes; in_order = c.self.invariant.in_order })
