-- How a run of the command `import` ends.
use Rattle.std.proofs.Common.{◌≡◌, ◌⊎◌, inl, inr, ℕ, ◌<◌, ◌≤◌, List, [], ◌∷◌, Option, None, Some, length, refl, sym, ap, subst, ◌∙◌, arith}
use Rattle.std.specs.Prelude.{IfSome, unwrap_or}
use Rattle.disk_model.specs.Disk.{DiskState, IsQuiet}
use Rattle.outside.specs.Stream.{Rises, Stream, Writes}
use Rattle.explorer_model.specs.declared.archive.Batch.{Batch}
use Rattle.explorer_model.specs.declared.store.LogFault.TheVariants as log
use Rattle.explorer_model.specs.Journal.{IsSound, game_count}
use Rattle.manifest.specs.Manifest.{HasJournal}
use Rattle.record_log.specs.declared.fault.OpenFault.{OpenFault}
use Rattle.record_log.specs.declared.fault.OpenFault.TheVariants as opening
use Rattle.host.specs.Hosts.{ADisk, FileBack, FileOut, FileRefused, HandsDisk, HandsFile, HostCall, HostState, IsOut, RefusesFile, TakesDisk, TakesFile, handed, noted, out, returned}
use Rattle.ingest_desk.specs.declared.report.ImportEnding.{ImportEnding}
use Rattle.ingest_desk.specs.declared.report.ImportEnding.TheVariants as endings
use Rattle.explorer.specs.declared.fault.Fault.{Fault}
use Rattle.explorer.specs.declared.fault.Fault.TheVariants as faults
use Rattle.explorer.specs.declared.importing.Came.{Came}
use Rattle.explorer.specs.Faults.{FirstCause, fault_by, fault_of_opening}
use Rattle.explorer.specs.Imported.{FaultsBy, ImportedTo}
use Rattle.explorer.specs.ImportStore.{ImportsInto, ImportsLabelled, ImportsTo, IsTold, LacksMemory, OutcomeBy, UsesBoth, totals}
use Rattle.explorer.specs.Lines.{Ending, Done, Stopped}
use Rattle.ingest_desk.specs.Openings.{IsNotOpened}
use Rattle.explorer.specs.Opened.{IsUnchanged, NotOpened, OpensTo}
use Rattle.explorer.specs.Stores.{IsSized, OnlyHost, UsesDisk}
use Rattle.explorer.specs.World.{World}

-- ---- a store that is not opened

pub not_opened : (fault : OpenFault) (store file label : List ℕ) (before after : World) → UsesDisk store (NotOpened fault) before.host after.host → OnlyHost before after
    → ImportsLabelled store file label before after (Stopped (fault_of_opening fault))
not_opened (opening.Log log.NotALog) store file label before after uses only = (uses, only)
not_opened (opening.Log (log.OtherFormat number)) store file label before after uses only = (uses, only)
not_opened (opening.Log (log.Damaged at)) store file label before after uses only = (uses, only)
not_opened (opening.DiskFault first last) store file label before after uses only = inl (uses, only)
not_opened opening.OutOfMemory store file label before after uses only = inl (inl uses, only)

module _ {D : Type 0} (disk : D → DiskState) (left_since : D → ℕ → List ℕ → Type 0) (old new : D) (quiet : IsQuiet disk left_since old new) where
  kept : (disk new).content ≡ (disk old).content
  kept = ap (λ (s : DiskState). s.content) quiet.rest

  pub opens_to : (journal : List Batch) → IfSome (disk old).content (HasJournal journal) → IsSound journal → (disk new).faults ≡ (disk old).faults → OpensTo journal (disk old) (disk new)
  opens_to journal read sound no_fault = record { read = read; sound = sound; kept = kept; no_fault = no_fault }

  same_count : (disk new).faults ≤ (disk old).faults → (disk new).faults ≡ (disk old).faults
  same_count most = let least = quiet.never_falls.least in omega (arith, least, most)

  as_found : (found : OpenFault) → IsNotOpened disk found old new → (disk new).faults ≤ (disk old).faults
      → NotOpened found (disk old) (disk new)
  as_found (opening.Log fault) is most = record { wrong = is; kept = kept; no_fault = same_count most }
  as_found (opening.DiskFault first last) is most =
      let P : ℕ → Type 0 = λ n. Rises n (disk new).faults in
      let Q : ℕ → Type 0 = λ n. Rises first n in
      record { kept = kept; rises = subst P is.before_is (subst Q is.after_is is.rises) }
  as_found opening.OutOfMemory is most = record { kept = kept; no_fault = same_count most }

  pub refused_by : (found told : OpenFault) → IsNotOpened disk found old new
      → FirstCause (disk old).faults (disk new).faults found told → NotOpened told (disk old) (disk new)
  refused_by found told is (inl (more, cause)) =
      let P : OpenFault → Type 0 = λ f. NotOpened f (disk old) (disk new) in
      subst P (sym cause) (record { kept = kept; rises = record { rose = inl more; never_falls = quiet.never_falls } })
  refused_by found told is (inr (most, same)) =
      let P : OpenFault → Type 0 = λ f. NotOpened f (disk old) (disk new) in
      subst P (sym same) (as_found found is most)

-- ---- an import that was told

-- no call of the disk failed when it was opened
from_opening : (e : ImportEnding) (disk opened disk_after : DiskState) (source source_after : Stream) → opened.faults ≡ disk.faults → FaultsBy e opened disk_after source source_after → FaultsBy e disk disk_after source source_after
from_opening endings.Whole disk opened disk_after source source_after same f = record { calls = f.calls ∙ same; reads = f.reads }
from_opening (endings.ReadFault first last) disk opened disk_after source source_after same f = (f.0 ∙ same, f.1)
from_opening (endings.DiskFault first last) disk opened disk_after source source_after same f = (subst (λ (n : ℕ). Rises n disk_after.faults) same f.0, f.1)
from_opening (endings.Closed first last) disk opened disk_after source source_after same f = (f.0 ∙ same, f.1)
from_opening (endings.Full games bytes) disk opened disk_after source source_after same f = (f.0 ∙ same, f.1)
from_opening (endings.TooMuch bytes) disk opened disk_after source source_after same f = record { calls = f.calls ∙ same; reads = f.reads }
from_opening endings.OutOfMemory disk opened disk_after source source_after same f = (f.0 ∙ same, f.1)

-- what the import came to, over the host
pub imports_into : (store file label : List ℕ) (before after : HostState) (journal : List Batch) (disk opened disk_after : DiskState) (source source_after : Stream) (came : Came)
    → UsesBoth store file disk disk_after source source_after before after → OpensTo journal disk opened → ImportedTo label journal opened disk_after source source_after came
    → ImportsInto came.ending store file label before after
imports_into store file label before after journal disk opened disk_after source source_after came uses opens (stored, is) =
    let J : List Batch → Type 0 = λ j. IfSome disk.content (HasJournal j) in
    record {
      disk = disk;
      disk_after = disk_after;
      source = source;
      source_after = source_after;
      uses = uses;
      start = is.start;
      sound = is.sound;
      read = subst J (sym is.journal_is) opens.read;
      stream = is.stream;
      reads = is.reads;
      batches = is.batches;
      refused = came.refused.items;
      stands = is.stands;
      stored = stored;
      failed = is.failed;
      stored_are = is.stored_are;
      is_sound = is.is_sound;
      holds = is.holds;
      faults = from_opening came.ending disk opened disk_after source source_after opens.no_fault is.faults;
    }

pub uses_both : (store file : List ℕ) (disk disk_after : DiskState) (source source_after : Stream) (before opened given taken after : HostState) → IsSized disk → HandsDisk store disk before opened
    → HandsFile file source opened given → TakesFile file source_after given taken → TakesDisk store disk_after taken after → UsesBoth store file disk disk_after source source_after before after
uses_both store file disk disk_after source source_after before opened given taken after sized hands hands_file takes_file takes = record {
  sized = sized;
  opened = opened;
  hands_disk = hands;
  given = given;
  hands_file = hands_file;
  taken = taken;
  takes_file = takes_file;
  takes_disk = takes;
}

-- memory was wanting before the import began
pub in_vain : (store file label : List ℕ) (disk disk_after : DiskState) (source source_after : Stream) (before after : World) → UsesBoth store file disk disk_after source source_after before.host after.host
    → IsUnchanged disk disk_after → source_after ≡ source → OnlyHost before after → LacksMemory store file label before after
in_vain store file label disk disk_after source source_after before after uses unchanged same only =
    let U : Stream → Type 0 = λ s. UsesBoth store file disk disk_after source s before.host after.host in
    inl (inr (record { disk = disk; disk_after = disk_after; source = source; uses = subst U same uses; unchanged = unchanged }), only)

-- memory was wanting for what the import came to
pub untold : (store file label : List ℕ) (before after : World) (ending : ImportEnding) → ImportsInto ending store file label before.host after.host → OnlyHost before after
    → ImportsLabelled store file label before after (Stopped (unwrap_or (fault_by ending) faults.OutOfMemory))
untold store file label before after endings.Whole imports only = inr (inr (record { imports = imports; only = only }))
untold store file label before after (endings.ReadFault first last) imports only = (first, last, inr (record { imports = imports; only = only }))
untold store file label before after (endings.DiskFault first last) imports only = inr (first, last, inr (record { imports = imports; only = only }))
untold store file label before after (endings.Closed first last) imports only = absurd imports.stands
untold store file label before after (endings.Full games bytes) imports only = inr (record { imports = imports; only = only })
untold store file label before after (endings.TooMuch bytes) imports only = (bytes, inr (record { imports = imports; only = only }))
untold store file label before after endings.OutOfMemory imports only = inr (inl (inr (record { imports = imports; only = only })))

-- streams that are as they were leave the host alone
pub only_host : (before after : World) (output errors : Stream) (host : HostState) → after ≡ record before { output = output; errors = errors; host = host } → output ≡ before.output → errors ≡ before.errors
    → OnlyHost before after
only_host before after output errors host is o e =
    let host_is : after.host ≡ host = ap (λ (w : World). w.host) is in
    is ∙ (λ i. record before { output = o i; errors = e i; host = sym host_is i })

module _ (store file label : List ℕ) (before after : World) where
  pub imports_to : (journal : List Batch) (disk opened disk_after : DiskState) (source source_after : Stream) (came : Came) (ending : Ending) → UsesBoth store file disk disk_after source source_after before.host after.host
      → OpensTo journal disk opened → ImportedTo label journal opened disk_after source source_after came
      → IsTold came before.output after.output before.errors after.errors ending → after ≡ record before { output = after.output; errors = after.errors; host = after.host }
      → ImportsTo came.ending store file label before after
  unfolding imports_into
  imports_to journal disk opened disk_after source source_after came ending uses opens (stored, is) told rest =
      let line : totals came.games came.batches came.journal ≡ totals (game_count is.batches) (length is.batches) (length stored) = λ i. totals (is.games_are i) (is.batches_are i) (is.stored_is i) in
      let W : List ℕ → Type 0 = λ l. Writes (l ∷ []) before.output after.output in
      record {
        imports = imports_into store file label before.host after.host journal disk opened disk_after source source_after came uses opens (stored, is);
        errors = told.errors_are;
        output = subst W line told.output_is;
        rest = rest;
      }

  stopped : (ending : Ending) (fault : Fault) → ending ≡ Stopped fault → ImportsLabelled store file label before after (Stopped fault) → ImportsLabelled store file label before after ending
  stopped ending fault is by = subst (ImportsLabelled store file label before after) (sym is) by

  pub imports_by : (e : ImportEnding) (ending : Ending) → ImportsTo e store file label before after → OutcomeBy (fault_by e) before.output after.output before.errors after.errors ending → ImportsLabelled store file label before after ending
  imports_by endings.Whole Done to outcome = (to, record { output = outcome.0; errors = outcome.1 })
  imports_by endings.Whole (Stopped faults.WriteFault) to outcome = (to, outcome)
  imports_by endings.Whole (Stopped faults.Usage) to outcome = absurd outcome
  imports_by endings.Whole (Stopped (faults.BadParameter parameter)) to outcome = absurd outcome
  imports_by endings.Whole (Stopped faults.BadLabel) to outcome = absurd outcome
  imports_by endings.Whole (Stopped faults.SpillFault) to outcome = absurd outcome
  imports_by endings.Whole (Stopped (faults.SpillDamaged part)) to outcome = absurd outcome
  imports_by endings.Whole (Stopped faults.OpeningsTooLong) to outcome = absurd outcome
  imports_by endings.Whole (Stopped (faults.BadOpenings row cause)) to outcome = absurd outcome
  imports_by endings.Whole (Stopped faults.ReadFault) to outcome = absurd outcome
  imports_by endings.Whole (Stopped faults.DiskFault) to outcome = absurd outcome
  imports_by endings.Whole (Stopped (faults.NotEmpty size)) to outcome = absurd outcome
  imports_by endings.Whole (Stopped faults.NotAStore) to outcome = absurd outcome
  imports_by endings.Whole (Stopped (faults.OtherFormat number)) to outcome = absurd outcome
  imports_by endings.Whole (Stopped (faults.Damaged gate)) to outcome = absurd outcome
  imports_by endings.Whole (Stopped (faults.Full games bytes)) to outcome = absurd outcome
  imports_by endings.Whole (Stopped faults.OutOfMemory) to outcome = absurd outcome
  imports_by endings.Whole (Stopped (faults.CannotOpen name)) to outcome = absurd outcome
  imports_by endings.Whole (Stopped faults.CannotAccept) to outcome = absurd outcome
  imports_by endings.Whole (Stopped faults.TooMuchInput) to outcome = absurd outcome
  imports_by (endings.ReadFault first last) ending to outcome = stopped ending faults.ReadFault outcome (first, last, inl to)
  imports_by (endings.DiskFault first last) ending to outcome = stopped ending faults.DiskFault outcome (inr (first, last, inl to))
  imports_by (endings.Closed first last) ending to outcome = absurd to.imports.stands
  imports_by (endings.Full games bytes) ending to outcome = stopped ending (faults.Full games bytes) outcome (inl to)
  imports_by (endings.TooMuch bytes) ending to outcome = stopped ending faults.TooMuchInput outcome (bytes, inl to)
  imports_by endings.OutOfMemory ending to outcome = stopped ending faults.OutOfMemory outcome (inr (inl (inl to)))

-- ---- a disk stays out while a file is asked for

pub stays_out : (store : List ℕ) (call : HostCall) → handed (ADisk store) call ≡ 0 → returned (ADisk store) call ≡ 0 → (calls : Option (List HostCall)) → IfSome calls (λ cs. 0 < out (ADisk store) cs)
    → IfSome (noted call calls) (λ cs. 0 < out (ADisk store) cs)
stays_out store call none none' None h = tt
stays_out store call none none' (Some cs) h = omega (arith, none, none', h)

pub by_calls : (store : List ℕ) (before after : HostState) (calls : Option (List HostCall)) → after.calls ≡ calls → IfSome calls (λ cs. 0 < out (ADisk store) cs) → IsOut (ADisk store) after
by_calls store before after calls is h =
    let P : Option (List HostCall) → Type 0 = λ c. IfSome c (λ cs. 0 < out (ADisk store) cs) in
    subst P (sym is) h

pub out_over_file : (store file : List ℕ) (source : Stream) (before after : HostState) → HandsFile file source before after → IsOut (ADisk store) before → IsOut (ADisk store) after
out_over_file store file source before after hands h =
    by_calls store before after (noted (FileOut file) before.calls) (ap (λ (s : HostState). s.calls) hands.rest) (stays_out store (FileOut file) refl refl before.calls h)

pub out_over_back : (store file : List ℕ) (source : Stream) (before after : HostState) → TakesFile file source before after → IsOut (ADisk store) before → IsOut (ADisk store) after
out_over_back store file source before after takes h =
    by_calls store before after (noted (FileBack file source) before.calls) (ap (λ (s : HostState). s.calls) takes.rest) (stays_out store (FileBack file source) refl refl before.calls h)

pub out_over_refusal : (store file : List ℕ) (before after : HostState) → RefusesFile file before after → IsOut (ADisk store) before → IsOut (ADisk store) after
out_over_refusal store file before after refuses h = by_note refuses.calls
  where
    by_note : (after.calls ≡ noted (FileRefused file) before.calls) ⊎ (after.calls ≡ before.calls) → IsOut (ADisk store) after
    by_note (inl is) = by_calls store before after (noted (FileRefused file) before.calls) is (stays_out store (FileRefused file) refl refl before.calls h)
    by_note (inr is) = by_calls store before after before.calls is h
