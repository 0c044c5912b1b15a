-- What commands do with the disk of a store.
use Rattle.std.proofs.Common.{◌≡◌, ◌<◌, ℕ, List, length, Some, sym, ap, subst, ◌∙◌, arith}
use Rattle.plain_laws.specs.Options.{IfSome-from}
use Rattle.outside.specs.Stream.{Rises}
use Rattle.disk_model.specs.Disk.{DiskState, MayLeave}
use Rattle.explorer_model.specs.declared.archive.Batch.{Batch}
use Rattle.explorer_model.specs.StoreFile.{store_format}
use Rattle.record_log.specs.Log.{IsCreated, IsNotCreated, Log, empty_file}
use Rattle.record_log.specs.declared.fault.CreateFault.{CreateFault}
use Rattle.record_log.specs.declared.fault.CreateFault.TheVariants as creation
use Rattle.manifest.specs.Manifest.{batch_format}
use Rattle.host.specs.Hosts.{HandsDisk, HostState, TakesDisk}
use Rattle.explorer.specs.Create.{IsNotMade, Makes}
use Rattle.explorer.specs.Opened.{IsUnchanged, OpensTo}
use Rattle.explorer.specs.Stores.{IsSized, UsesDisk}

pub uses : (name : List ℕ) (Does : DiskState → DiskState → Type 0) (handed returned : DiskState) (before middle after : HostState)
    → IsSized handed → HandsDisk name handed before middle → Does handed returned → TakesDisk name returned middle after
    → UsesDisk name Does before after
uses name Does handed returned before middle after sized hands does takes = record {
  handed = handed;
  sized = sized;
  middle = middle;
  hands = hands;
  returned = returned;
  does = does;
  takes = takes;
}

pub above : (before after : ℕ) → before ≡ 0 → Rises before after → 0 < after
above before after none rises = omega (arith, none, rises.rose)

-- a count of the host rose where a disk came back with a fault
pub rose : (name : List ℕ) (handed returned : DiskState) (before middle after : HostState)
    → HandsDisk name handed before middle → TakesDisk name returned middle after → Rises handed.faults returned.faults
    → Rises before.disk_faults after.disk_faults
rose name handed returned before middle after hands takes rises =
    subst (λ (n : ℕ). Rises n after.disk_faults) (ap (λ (h : HostState). h.disk_faults) hands.rest)
    (takes.counts.rises (above handed.faults returned.faults hands.faultless rises))

-- a store that was made on a disk
pub made_by : {D : Type 0} (disk : D → DiskState) (left_since : D → ℕ → List ℕ → Type 0)
    → ((it : D) (file : List ℕ) → (disk it).content ≡ Some file → MayLeave disk left_since it file)
    → (before after : D) (log : Log D) → IsCreated disk left_since batch_format before log → (disk log.disk).faults ≡ (disk before).faults → after ≡ log.disk
    → Makes (disk before) (disk after)
made_by {D} disk left_since told before after log created no_fault is =
    subst (λ (d : D). Makes (disk before) (disk d)) (sym is) (record {
      was_empty = created.was_empty;
      bytes = IfSome-from (λ bytes. bytes ≡ empty_file store_format) (disk log.disk).content
          (λ bytes tells. created.file bytes (told log.disk bytes tells));
      no_fault = no_fault;
    })

-- and one that was not
pub not_made : {D : Type 0} (disk : D → DiskState) (fault : CreateFault) (before after : D) → IsNotCreated disk fault before after
    → IsNotMade fault (disk before) (disk after)
not_made disk (creation.NotEmpty size) before after n =
    record { some = n.0; size_is = n.1; same = ap (λ (d : DiskState). d.content) n.2 }
not_made disk (creation.DiskFault from to) before after n = record {
  rises = subst (λ (k : ℕ). Rises (disk before).faults k) n.counts.after_is (subst (λ (k : ℕ). Rises k to) n.counts.before_is n.counts.rises);
  kept = n.kept;
}

pub is_sized : {D : Type 0} (disk : D → DiskState)
    → ((it : D) (file : List ℕ) → (disk it).content ≡ Some file → length file ≡ (disk it).size) → (it : D) → IsSized (disk it)
is_sized disk told it = IfSome-from (λ bytes. length bytes ≡ (disk it).size) (disk it).content (told it)

-- a store that was opened is left as it was
pub unchanged : {D : Type 0} (disk : D → DiskState) (old : DiskState) (new out : D) (journal : List Batch) → out ≡ new
    → OpensTo journal old (disk new) → IsUnchanged old (disk out)
unchanged {D} disk old new out journal is opens = record {
  kept = ap (λ (d : D). (disk d).content) is ∙ opens.kept;
  no_fault = ap (λ (d : D). (disk d).faults) is ∙ opens.no_fault;
}
