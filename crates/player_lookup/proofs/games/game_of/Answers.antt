use Rattle.player_lookup.proofs.Finding.{no-fault}
use Rattle.player_lookup.proofs.games.game_of.Goals as goal

pub unreachable-requires : goal.unreachable-requires
unreachable-requires c = no-fault c.game_is_determined.ensures c.args.text.now c.requires.game c.in-Err-Fault.field-0-0 (rw c.in-Err-Fault.field-0-is at c.in-Err-Fault.ensures)
