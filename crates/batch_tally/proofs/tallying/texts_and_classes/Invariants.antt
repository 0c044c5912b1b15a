use Rattle.std.proofs.Common.{◌≡◌, ◌++◌, map}
use Rattle.batch_tally.proofs.tallying.texts_and_classes.Given as goal

abbrev pub invariant-loop-text : goal.invariant-loop-text
invariant-loop-text l =
    (l.texts.items ++ map (λ a. a.text) l.text-iterator.rest.items ≡ map (λ a. a.text) l.fn.accepted.items)
    × (l.classes.items ++ map (λ a. a.game.classes) l.text-iterator.rest.items ≡ map (λ a. a.game.classes) l.fn.accepted.items)
