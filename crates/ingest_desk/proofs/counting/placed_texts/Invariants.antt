use Rattle.std.proofs.Common.{◌≡◌, map}
use Rattle.explorer_model.specs.declared.archive.Placed.{Placed}
use Rattle.ingest_desk.proofs.counting.placed_texts.Given as goal

abbrev pub invariant-loop-bytes : goal.invariant-loop-bytes
invariant-loop-bytes l = map (λ (text : Placed). text.bytes) l.placed.items ≡ l.yielded
