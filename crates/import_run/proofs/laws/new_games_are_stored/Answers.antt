use Rattle.import_run.proofs.CompleteLemmas.{all_new_stored}
use Rattle.import_run.proofs.laws.new_games_are_stored.Goals as goal

pub returns : goal.returns
returns g c = λ label source source_after before after report stored is can quiet are new room.
    all_new_stored g.D.Disk.disk g.D.Disk.left_since c.game_is_determined.ensures source source_after before after report stored is can quiet are new room
