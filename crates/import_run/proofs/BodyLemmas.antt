-- A body in memory, whose texts are stored where nobody else stores anything.
use Rattle.std.proofs.Common.{◌≡◌, ◌+◌, ℕ, List, [], length, Some, refl, sym, ap, arith}
use Rattle.std.proofs.lemmas.List.{append-nil}
use Rattle.disk_model.specs.Disk.{DiskState}
use Rattle.outside.specs.Stream.{Reads, source_alone}
use Rattle.explorer_model.specs.Labels.{no_label}
use Rattle.explorer_model.specs.Journal.{IsSound}
use Rattle.ingest_desk.specs.Kept.{Keeps}
use Rattle.ingest_desk.specs.Stored.{Stored, journal}
use Rattle.ingest_desk.specs.declared.report.Report.{Report}
use Rattle.import_run.specs.Alone.{stored_in}
use Rattle.import_run.specs.Committing.{Known, store_of}
use Rattle.import_run.specs.Determined.{ImportsBody}
use Rattle.import_run.specs.Since.{IsSince}
use Rattle.import_run.specs.Taking.{ComesQuietly, ComesQuietlyBeside}
use Rattle.import_run.proofs.AloneLemmas.{imports_alone}

-- all of it is taken, as of a source that gives it
body_read : (body : List ℕ) → Reads body (source_alone (Some body) 0 0) (source_alone (Some []) (length body) 0)
body_read body =
    let zero_more : length body ≡ 0 + length body = omega arith in
    record {
      next = sym (append-nil body);
      never_falls = record { least = omega arith; fits = λ before. omega arith };
      rest = ap (λ (n : ℕ). source_alone (Some []) n 0) zero_more;
    }

pub imports_body : {D J : Type 0} (disk : D → DiskState) (left_since : D → ℕ → List ℕ → Type 0) (before after : Stored D) → IsSince disk left_since before after
    → (body : List ℕ) (report : Report J) → IsSound (journal before) → Keeps disk left_since (journal before) before.manifest before.failed
    → IsSound (journal after) → Keeps disk left_since (journal after) after.manifest after.failed
    → ((start : Known) → Some (stored_in before) ≡ Some (store_of start) → ComesQuietly no_label start body (Some []) report (Some (stored_in after)))
    → ComesQuietlyBeside no_label body (Some []) report → ImportsBody disk left_since body before after report
imports_body disk left_since before after since body report sound keeps_before sound_after keeps imports beside =
    let old = source_alone (Some body) 0 0 in
    let new = source_alone (Some []) (length body) 0 in
    imports_alone disk left_since before after since report old new sound keeps_before sound_after keeps
    (λ start is. let quietly = imports start is in record { stream = body; reads = body_read body; faults = quietly.quiet old new refl; comes = quietly.comes; repeats = beside.comes.reports.repeats })
