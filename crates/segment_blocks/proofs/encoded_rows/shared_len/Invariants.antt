use Rattle.std.proofs.Common.{◌≡◌, ◌*◌, take}
use Rattle.segment_blocks.proofs.encoded_rows.shared_len.Given as goal

abbrev pub invariant-loop-word : goal.invariant-loop-word
invariant-loop-word l = take (8 * l.word) l.a ≡ take (8 * l.word) l.b
