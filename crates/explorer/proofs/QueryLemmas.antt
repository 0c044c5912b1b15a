-- What a query over a store comes to.
pub mod Spilled
use Rattle.std.proofs.Common.{◌≡◌, inl, inr, ℕ, List, Option, Ok, Err, Result, refl, sym, ap, ◌∙◌, subst}
use Rattle.std.specs.Prelude.{IfOk, Vec}
use Rattle.std.specs.Global.{Global}
use Rattle.outside.specs.Stream.{Stream}
use Rattle.disk_model.specs.Disk.{DiskState}
use Rattle.explorer_model.specs.declared.answer.Found.{Found}
use Rattle.explorer_model.specs.declared.archive.Batch.{Batch}
use Rattle.explorer_model.specs.declared.fault.Stop.{Stop}
use Rattle.explorer_model.specs.declared.fault.Stop.TheVariants as stops
use Rattle.explorer_model.specs.declared.query.BadParameter as query_fault
use Rattle.explorer_model.specs.declared.query.Query.{Query}
use Rattle.explorer_model.specs.declared.store.LogFault.TheVariants as log
use Rattle.explorer_model.specs.Finds.{IsFound}
use Rattle.explorer_model.specs.Openings.{NamedPosition}
use Rattle.explorer_model.specs.Query.{QueryReads}
use Rattle.record_log.specs.declared.fault.OpenFault.{OpenFault}
use Rattle.record_log.specs.declared.fault.OpenFault.TheVariants as opening
use Rattle.explorer_model.specs.Stop as model
use Rattle.host.specs.Hosts.{HandsDisk, HostState, TakesDisk}
use Rattle.explorer.specs.declared.fault.Fault.{Fault}
use Rattle.explorer.specs.Answer.{IsAnswer, IsLineOf}
use Rattle.explorer.specs.Faults.{fault_of_opening, fault_of_query}
use Rattle.explorer.specs.Lines.{Stopped}
use Rattle.explorer.specs.Opened.{FailsUnread, IsRefusedBy, IsUnchanged, OpensTo}
use Rattle.explorer.specs.Query.Store.{Answers, Asking, AsksBy, LooksAt, LooksIn, QueriesBy}
use Rattle.explorer.specs.Stores.{IsSized}
use Rattle.explorer.specs.World.{World, world}
use Rattle.explorer.proofs.StoreLemmas.{rose, unchanged, uses}

-- the line of what is found answers the query
pub answer_of : {E : Type 0} (book : List NamedPosition) (query : Query) (journal : List Batch) (found : Found) → IsFound journal query found → (line : Result (Vec ℕ Global) E) → IfOk line (IsLineOf book query found)
    → IfOk line (IsAnswer book query journal)
answer_of book query journal found is_found (Ok line) (naming, is_naming, is) = (found, naming, is_found, is_naming, is)
answer_of book query journal found is_found (Err fault) none = none

-- the store was opened, and a line was made or memory was refused
pub opened : {D : Type 0} (disk : D → DiskState) (book : List NamedPosition) (query : Query) (old : DiskState) (new out : D) (journal : List Batch) → out ≡ new → OpensTo journal old (disk new) → (line : Result (Vec ℕ Global) OpenFault) → LooksIn book query journal line
    → LooksAt book query old (disk out) line
opened {D} disk book query old new out journal is opens (Ok line) looks =
    let P : D → Type 0 = λ d. OpensTo journal old (disk d) in
    (journal, subst P (sym is) opens, looks)
opened {D} disk book query old new out journal is opens (Err fault) looks =
    let P : OpenFault → Type 0 = λ f. LooksAt book query old (disk out) (Err f) in
    subst P (sym looks) (unchanged disk old new out journal is opens)

module _ (store : List ℕ) (query : Query) (book : List NamedPosition) (input output errors : Stream) (before middle after : HostState) (handed returned : DiskState)
    (sized : IsSized handed) (hands : HandsDisk store handed before middle) (takes : TakesDisk store returned middle after) where
  -- the line was made, and its writing came to this
  pub answered : (Wrote : List ℕ → Type 0) (written : Stream) (line : Vec ℕ Global) → LooksAt book query handed returned (Ok line) → Wrote line.items
      → Answers Wrote store query book (world input output errors before) (world input written errors after)
  answered Wrote written line looks wrote = record {
    journal = looks.0;
    read = uses store (OpensTo looks.0) handed returned before middle after sized hands looks.1 takes;
    found = looks.2.0;
    is_found = looks.2.2;
    naming = looks.2.1;
    is_naming = looks.2.3;
    wrote = subst Wrote looks.2.4 wrote;
    rest = refl;
  }

  -- there is no line
  pub unanswered : (fault : OpenFault) → LooksAt book query handed returned (Err fault)
      → AsksBy store query book (world input output errors before) (world input output errors after) (Stopped (fault_of_opening fault))
  unanswered (opening.Log log.NotALog) looks = (uses store (IsRefusedBy log.NotALog) handed returned before middle after sized hands looks takes, refl)
  unanswered (opening.Log (log.OtherFormat number)) looks =
      (uses store (IsRefusedBy (log.OtherFormat number)) handed returned before middle after sized hands looks takes, refl)
  unanswered (opening.Log (log.Damaged gate)) looks =
      (uses store (IsRefusedBy (log.Damaged gate)) handed returned before middle after sized hands looks takes, refl)
  unanswered (opening.DiskFault first last) looks =
      (uses store FailsUnread handed returned before middle after sized hands looks takes, rose store handed returned before middle after hands takes looks.rises, refl)
  unanswered opening.OutOfMemory looks = (uses store IsUnchanged handed returned before middle after sized hands looks takes, refl)

-- the query is not read
pub unread : (Asks : Asking) (text : List ℕ) (openings : Option (List ℕ)) (before : World) (stop : Stop query_fault.BadParameter) (fault : Fault) → fault ≡ fault_of_query stop → model.Answers {A = Query} {F = query_fault.BadParameter} (Err stop) (QueryReads text)
    → QueriesBy Asks text openings before before (Stopped fault)
unread Asks text openings before stop fault is gives =
    let P : Fault → Type 0 = λ f. QueriesBy Asks text openings before before (Stopped f) in
    subst P (sym is) (by_stop stop gives)
  where
    by_stop : (stop : Stop query_fault.BadParameter) → model.Answers {A = Query} {F = query_fault.BadParameter} (Err stop) (QueryReads text) → QueriesBy Asks text openings before before (Stopped (fault_of_query stop))
    by_stop (stops.Fault bad) gives = inr (Err bad, gives, (refl, refl))
    by_stop stops.OutOfMemory gives = inl (refl, refl)
