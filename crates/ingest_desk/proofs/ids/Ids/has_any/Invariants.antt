use Rattle.std.proofs.Common.{◌≡◌, ◌<◌, ℕ, None, get_or}
use Rattle.explorer_model.specs.declared.archive.Classes.{Classes}
use Rattle.ingest_desk.specs.IdTable.{number_at}
use Rattle.ingest_desk.proofs.ids.Ids.has_any.Given as goal

abbrev pub invariant-loop-n : goal.invariant-loop-n
invariant-loop-n l =
    (k : ℕ) → k < l.n → (d : Classes)
    → number_at l.self (get_or l.segment.classes k d).id.bytes ≡ None
