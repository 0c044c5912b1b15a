use Rattle.tally_rows.proofs.AddsUp.{IsSound-tallied}
use Rattle.tally_rows.proofs.laws.tallied_rows_are_sound.Goals as goal

pub returns : goal.returns
returns c = IsSound-tallied
