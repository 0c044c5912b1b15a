use Rattle.std.proofs.Common.{map, take}
use Rattle.std.specs.List.{AllZip}
use Rattle.std.specs.Option.{option_copied}
use Rattle.explorer_model.specs.Chess.{after}
use Rattle.explorer_model.specs.Openings.{OpeningOf}
use Rattle.opening_names.proofs.lent.openings_behind.Given as goal

abbrev pub invariant-loop-step : goal.invariant-loop-step
invariant-loop-step l =
    AllZip (λ m opening. OpeningOf l.book (after l.board m) opening) (take l.step-index l.played) (map option_copied l.openings.items)
