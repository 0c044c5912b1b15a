-- Laws: imports that come to the same.
use Rattle.std.specs.Prelude.{◌≡◌, ⊤, ℕ, List, [], Some, length}
use Rattle.disk_model.specs.Disk.{DiskState}
use Rattle.outside.specs.Stream.{source_alone}
use Rattle.explorer_model.specs.declared.archive.Batch.{Batch}
use Rattle.explorer_model.specs.Labels.{no_label}
use Rattle.ingest_desk.specs.Stored.{Stored}
use Rattle.ingest_desk.specs.declared.report.End.{End}
use Rattle.ingest_desk.specs.declared.report.End.TheVariants as ends
use Rattle.ingest_desk.specs.declared.report.Report.{Report}
use Rattle.import_run.specs.Alone.{ImportsAlone}

-- two imports stored the same batches, with the same receipts, and refused the same texts
pub record AreAlike {J : Type 0} (stored others : List Batch)
    (report other : Report J) : Type 0 where
  pub batches : stored ≡ others
  pub receipts : report.receipts.items ≡ other.receipts.items
  pub refused : report.refused.items ≡ other.refused.items

-- the stream and the store decide the end: it is no fault of a call, no bound, no want of memory
abbrev pub IsPlainEnd : {J : Type 0} → End J → Type 0
IsPlainEnd ends.Whole = ⊤
IsPlainEnd (ends.Full games bytes note) = ⊤
IsPlainEnd (ends.Closed before after mark) = ⊤
IsPlainEnd _ = ⊥

-- What an import comes to that alone stores the texts of a body, as of a source that gives it.
abbrev pub ImportsBody : {D J : Type 0} → (D → DiskState) → (D → ℕ → List ℕ → Type 0) → List ℕ
    → Stored D → Stored D → Report J → Type 0
ImportsBody disk left_since body before after report =
    ImportsAlone no_label disk left_since (source_alone (Some body) 0 0) before
    (source_alone (Some []) (length body) 0) after report
