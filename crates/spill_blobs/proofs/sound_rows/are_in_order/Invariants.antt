use Rattle.spill_blobs.proofs.SoundLemmas.{Steps}
use Rattle.spill_blobs.proofs.sound_rows.are_in_order.Given as goal

abbrev pub invariant-loop-next : goal.invariant-loop-next
invariant-loop-next l = Steps l.rows l.next
