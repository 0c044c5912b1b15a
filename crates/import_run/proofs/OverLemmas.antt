-- What an import in rounds comes to, by how it ends.
use Rattle.std.proofs.Common.{◌≡◌, ◌⊎◌, inl, inr, ◌<◌, ℕ, List, length, Option, Some, refl, sym, subst}
use Rattle.std.specs.Io.KnownBytes.{IsAtEnd}
use Rattle.outside.specs.Stream.{Stream}
use Rattle.explorer_model.specs.Cuts.{cuts}
use Rattle.explorer_model.specs.Imports.{Candidate}
use Rattle.explorer_model.specs.Journal.{input_limit}
use Rattle.ingest_desk.specs.declared.report.End.{End}
use Rattle.ingest_desk.specs.declared.report.End.TheVariants as ends
use Rattle.ingest_desk.specs.declared.report.Report.{Report}
use Rattle.import_run.specs.declared.open_import.OpenImport.{OpenImport}
use Rattle.import_run.specs.declared.open_import.Stopped.{Stopped}
use Rattle.import_run.specs.Beside.{EndsBeside}
use Rattle.import_run.specs.Committing.{Known, Store, store_of}
use Rattle.import_run.specs.EndingBeside.{ImportsBeside}
use Rattle.import_run.specs.Importing.{EndsEarly}
use Rattle.import_run.specs.Taking.{ComesQuietly, ComesQuietlyBeside, Imports, LacksAtEnd, LacksWithin, StopsIn}
use Rattle.import_run.specs.Underway.{LacksReading, StopsReading}
use Rattle.import_run.proofs.ComeBesideLemmas.{imports_early_beside, lacking_at_end_beside, lacking_within_beside}
use Rattle.import_run.proofs.ComeLemmas.{lacking_at_end, lacking_within}
use Rattle.import_run.proofs.ReadLemmas.{imports_early}
use Rattle.import_run.proofs.SettledLemmas.{stop_beside}

pub ends_early : {J : Type 0} (label : List ℕ) (end : End J) (left : List Candidate) → EndsBeside label end left → EndsEarly end
ends_early label ends.Whole left so = absurd so
ends_early label (ends.ReadFault before after) left so = absurd so
ends_early label (ends.TooMuch bytes) left so = absurd so
ends_early label (ends.DiskFault before after mark) left so = tt
ends_early label (ends.Closed before after mark) left so = tt
ends_early label (ends.Full games bytes note) left so = tt
ends_early label ends.OutOfMemory left so = tt

module _ {J : Type 0} (before now : Stream) (import : OpenImport J) (report : Report J) (told : Option Store) where
  -- ---- a group ended it

  module _ (stopped : Stopped J) (early : EndsEarly stopped.end → EndsEarly report.end)
      (beside : (start : Option Store) (stream : List ℕ) (left : Option (List ℕ)) (told : Option Store) → length stream < input_limit → StopsIn start stream left import stopped told → ComesQuietlyBeside import.group.label stream left report) where
    is_early : (start : Option Store) (s : StopsReading before now start import stopped told) → EndsEarly report.end
    is_early start s = by s.stops
      where
        by : StopsIn start s.stream now.left import stopped told → EndsEarly report.end
        by (inl w) = early (ends_early import.group.label stopped.end (stop_beside w.stops.behind.stops).left (stop_beside w.stops.behind.stops).ends)
        by (inr (at_end, e)) = early (ends_early import.group.label stopped.end (stop_beside e.behind.stops).left (stop_beside e.behind.stops).ends)

    comes_beside : (start : Option Store) (s : StopsReading before now start import stopped told) → ComesQuietlyBeside import.group.label s.stream now.left report
    comes_beside start s = beside start s.stream now.left told s.below s.stops

    pub stopped_beside : (start : Option Store) → StopsReading before now start import stopped told → ImportsBeside import.group.label before now report
    stopped_beside start s = imports_early_beside before now report s.stream s.reads s.faults (is_early start s) (comes_beside start s)

    pub stopped_told : ((start : Known) (stream : List ℕ) (left : Option (List ℕ)) (told : Option Store) → length stream < input_limit → StopsIn (Some (store_of start)) stream left import stopped told
        → ComesQuietly import.group.label start stream left report told)
        → (start : Known) → StopsReading before now (Some (store_of start)) import stopped told → Imports import.group.label start before now report told
    stopped_told comes start s =
        imports_early start before now report told s.stream s.reads s.faults (is_early (Some (store_of start)) s) (comes start s.stream now.left told s.below s.stops) (comes_beside (Some (store_of start)) s).comes.reports.repeats

  -- ---- memory was wanting

  module _ (is : report.end ≡ ends.OutOfMemory) (receipts : report.receipts.items ≡ import.receipts.items) (refused : report.refused.items ≡ import.refused.items) (clashes : report.clashes.items ≡ import.clashes.items) where
    early_lack : EndsEarly report.end
    early_lack = let P : End J → Type 0 = λ e. EndsEarly e in subst P (sym is) tt

    lacks_comes : (start : Option Store) (l : LacksReading before now start import told) → ComesQuietlyBeside import.group.label l.stream now.left report
    lacks_comes start l = by l.lacks
      where
        by : LacksWithin start l.stream import told ⊎ (IsAtEnd now.left × LacksAtEnd start (cuts l.stream) import told) → ComesQuietlyBeside import.group.label l.stream now.left report
        by (inl w) = lacking_within_beside l.stream now.left report import receipts clashes l.below refused start told is w
        by (inr (end, e)) = lacking_at_end_beside l.stream now.left report import receipts clashes l.below refused start told is end e

    pub lacking_beside : (start : Option Store) → LacksReading before now start import told → ImportsBeside import.group.label before now report
    lacking_beside start l = imports_early_beside before now report l.stream l.reads l.faults early_lack (lacks_comes start l)

    pub lacking_told : (start : Known) → LacksReading before now (Some (store_of start)) import told → Imports import.group.label start before now report told
    lacking_told start l =
        imports_early start before now report told l.stream l.reads l.faults early_lack (by l.lacks) (lacks_comes (Some (store_of start)) l).comes.reports.repeats
      where
        by : LacksWithin (Some (store_of start)) l.stream import told ⊎ (IsAtEnd now.left × LacksAtEnd (Some (store_of start)) (cuts l.stream) import told) → ComesQuietly import.group.label start l.stream now.left report told
        by (inl w) = lacking_within start report l.stream now.left told import is receipts refused l.below w
        by (inr (end, e)) = lacking_at_end start report l.stream now.left told import is receipts refused l.below end (cuts l.stream) refl e
