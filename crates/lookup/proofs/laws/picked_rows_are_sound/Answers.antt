use Rattle.lookup.proofs.Bounds.{are-sound}
use Rattle.lookup.proofs.laws.picked_rows_are_sound.Goals as goal

pub returns : goal.returns
returns c = are-sound (record { gives = c.cover_gives_what_is_picked.ensures; sound = c.tallied_rows_are_sound.ensures })
