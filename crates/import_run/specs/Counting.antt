-- Bridge: what an importer counts of its ends.
use Rattle.std.specs.Prelude.{◌≡◌, ⊤}
use Rattle.ingest_desk.specs.Importers.{ImportCounts}
use Rattle.ingest_desk.specs.declared.mark.MarkKind.TheVariants as kinds
use Rattle.ingest_desk.specs.declared.report.End.{End}
use Rattle.ingest_desk.specs.declared.report.End.TheVariants as ends
use Rattle.import_run.specs.declared.ends.EndCounts.{EndCounts}

abbrev pub counts_of : EndCounts → ImportCounts
counts_of it = record {
  disk_faults = it.marks.disk_faults;
  closed = it.marks.closed;
  full = it.full;
}

-- the mark of an end has its kind
abbrev pub IsMarkedSo : {J : Type 0} → End J → Type 0
IsMarkedSo (ends.DiskFault before after mark) = mark.kind ≡ kinds.DiskFault
IsMarkedSo (ends.Closed before after mark) = mark.kind ≡ kinds.Closed
IsMarkedSo _ = ⊤
