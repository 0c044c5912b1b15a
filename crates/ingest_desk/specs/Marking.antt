-- Statement: counts of marks.
use Rattle.std.specs.Prelude.{ℕ, ◌+◌, ◌-◌, ◌^◌, min}
use Rattle.ingest_desk.specs.declared.mark.MarkKind.{MarkKind}
use Rattle.ingest_desk.specs.declared.mark.MarkKind.TheVariants as kinds
use Rattle.ingest_desk.specs.declared.mark.Marks.{Marks}

-- one more; a count stays at its greatest number
abbrev pub one_more : ℕ → ℕ
one_more count = min (count + 1) (2 ^ 64 - 1)

-- the counts with a mark of a kind
abbrev pub counted : MarkKind → Marks → Marks
counted kinds.DiskFault marks = record marks { disk_faults = one_more marks.disk_faults }
counted kinds.Closed marks = record marks { closed = one_more marks.closed }
