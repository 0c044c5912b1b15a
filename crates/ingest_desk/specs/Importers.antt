-- Statement: what an importer has come to, and what its calls do to it.
use Rattle.std.specs.Prelude.{◌≡◌, ⊤, ℕ, ◌<◌, Bool, true, false, List, ◌++◌, Option, None, Some}
use Rattle.outside.specs.Stream.{NeverFalls, Rises}
use Rattle.published_index.specs.Places.{Drawing}
use Rattle.ingest_desk.specs.declared.report.End.{End}
use Rattle.ingest_desk.specs.declared.report.End.TheVariants as ends
use Rattle.ingest_desk.specs.declared.report.ImportCall.{ImportCall}
use Rattle.ingest_desk.specs.declared.report.ImportEnding.{ImportEnding}
use Rattle.ingest_desk.specs.declared.report.ImportEnding.TheVariants as endings
use Rattle.ingest_desk.specs.declared.report.Report.{Report}
use Rattle.ingest_desk.specs.Reporting.{games_of}

-- how many calls ended by a disk fault, by a closed store and by a full one
pub record ImportCounts : Type 0 where
  pub disk_faults : ℕ
  pub closed : ℕ
  pub full : ℕ

-- An importer at one moment. Its calls are told (Some) or not (None). Its drawer drew the places of all
-- batches that it stored.
pub record ImporterState : Type 0 where
  pub counts : ImportCounts
  pub calls : Option (List ImportCall)
  pub drawing : Drawing

-- ---- calls

-- an end without the mark or the note that it has
abbrev pub ending_of : {J : Type 0} → End J → ImportEnding
ending_of ends.Whole = endings.Whole
ending_of (ends.ReadFault before after) = endings.ReadFault before after
ending_of (ends.DiskFault before after mark) = endings.DiskFault before after
ending_of (ends.Closed before after mark) = endings.Closed before after
ending_of (ends.Full games bytes note) = endings.Full games bytes
ending_of (ends.TooMuch bytes) = endings.TooMuch bytes
ending_of ends.OutOfMemory = endings.OutOfMemory

-- the call that imported the body and gave the report
abbrev pub call_of : {J : Type 0} → List ℕ → Report J → ImportCall
call_of body report = record {
  body = body;
  ending = ending_of report.end;
  games = games_of report.receipts.items;
}

-- calls are told as before with these behind them, or no more
abbrev pub TellsAll : Option (List ImportCall) → Option (List ImportCall) → List ImportCall → Type 0
TellsAll before None calls = ⊤
TellsAll None (Some told) calls = ⊥
TellsAll (Some before) (Some told) calls = told ≡ before ++ calls

-- ---- counts

abbrev pub is_disk_fault : ImportEnding → Bool
is_disk_fault (endings.DiskFault before after) = true
is_disk_fault _ = false

abbrev pub is_closed : ImportEnding → Bool
is_closed (endings.Closed before after) = true
is_closed _ = false

abbrev pub is_full : ImportEnding → Bool
is_full (endings.Full games bytes) = true
is_full _ = false

-- the count rises where the answer comes, and becomes greater only there
pub record RisesExactly (comes : Bool) (before after : ℕ) : Type 0 where
  pub rises : comes ≡ true → Rises before after
  pub only : before < after → comes ≡ true
  pub never_falls : NeverFalls before after

-- what an import that ended so does to the counts
pub record CountsRose (ending : ImportEnding) (before after : ImportCounts) : Type 0 where
  pub disk_fault : is_disk_fault ending ≡ true → Rises before.disk_faults after.disk_faults
  pub disk_faults_never_fall : NeverFalls before.disk_faults after.disk_faults
  pub closed : RisesExactly (is_closed ending) before.closed after.closed
  pub full : RisesExactly (is_full ending) before.full after.full

-- an import of a body in memory ends so
abbrev pub EndsInMemory : ImportEnding → Type 0
EndsInMemory (endings.ReadFault before after) = ⊥
EndsInMemory (endings.TooMuch bytes) = ⊥
EndsInMemory _ = ⊤
