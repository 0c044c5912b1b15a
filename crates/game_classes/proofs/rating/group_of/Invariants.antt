use Rattle.std.proofs.Common.{◌≡◌, drop}
use Rattle.explorer_model.specs.Classes.{floor_of}
use Rattle.game_classes.proofs.rating.group_of.Given as goal

abbrev pub invariant-loop-floor : goal.invariant-loop-floor
invariant-loop-floor l = floor_of l.mean (drop l.floor-index l.floor-items) ≡ floor_of l.mean l.floor-items
