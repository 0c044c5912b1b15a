-- Bridge: how the code holds a time control.
use Rattle.std.specs.Prelude.{◌<◌, ◌^◌}
use Rattle.explorer_model.specs.Classes.{Clock}
use Rattle.game_classes.specs.declared.time.TimeControl.{TimeControl}

abbrev pub clock : TimeControl → Clock
clock control = record { base = control.base; increment = control.increment }

-- both numbers have at most six digits
abbrev pub IsShort : TimeControl → Type 0
IsShort control = (control.base < 10 ^ 6) × (control.increment < 10 ^ 6)
