use Rattle.std.proofs.Common.{◌≡◌, drop}
use Rattle.explorer_model.specs.Classes.{value_of}
use Rattle.game_classes.proofs.tags.value_of.Given as goal

abbrev pub invariant-loop-tag : goal.invariant-loop-tag
invariant-loop-tag l = value_of l.name (drop l.tag-index l.tags) ≡ value_of l.name l.tags
