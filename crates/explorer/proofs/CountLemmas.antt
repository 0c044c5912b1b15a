-- How a run of `count` ends.
use Rattle.std.proofs.Common.{◌≡◌, ◌⊎◌, ⊎_elim, inl, inr, ℕ, ◌<◌, ◌-◌, ◌^◌, ◌≤◌, List, [], ◌∷◌, ◌++◌, Option, None, Some, Result, Ok, Err, length, codes, refl, sym, ap, subst, ◌∙◌, arith}
use Rattle.std.specs.Prelude.{IfErr, IfOk, IsErrAnd, MatchResult, OnOk, OnErr, Vec}
use Rattle.std.specs.Global.{Global}
use Rattle.disk_model.specs.Disk.{DiskState}
use Rattle.outside.specs.Stream.{Rises, Stream, Takes, FailsToTake, Writes}
use Rattle.host.specs.Hosts.{HostState}
use Rattle.outside.specs.declared.stream.Failed.{Failed}
use Rattle.outside.proofs.StreamLemmas.{reads-none}
use Rattle.explorer_model.specs.declared.archive.Batch.{Batch}
use Rattle.explorer_model.specs.declared.fault.Refusal.{Refusal}
use Rattle.explorer_model.specs.declared.fault.Stop.{Stop}
use Rattle.explorer_model.specs.declared.fault.Stop.TheVariants as stops
use Rattle.explorer_model.specs.declared.query.BadParameter.{BadParameter}
use Rattle.explorer_model.specs.declared.query.Query.{Query}
use Rattle.explorer_model.specs.Journal.{IsSound, input_limit}
use Rattle.explorer_model.specs.Labels.{no_label}
use Rattle.explorer_model.specs.Openings.{NamedPosition}
use Rattle.explorer_model.specs.Query.{QueryReads}
use Rattle.explorer_model.specs.Stop as model
use Rattle.ingest_desk.specs.declared.report.ImportEnding.{ImportEnding}
use Rattle.ingest_desk.specs.declared.report.ImportEnding.TheVariants as endings
use Rattle.import_run.specs.Committing.{Known}
use Rattle.import_run.specs.Ending.{IsCutOff, IsTooMuch, MayRise}
use Rattle.explorer.specs.declared.fault.Fault.{Fault}
use Rattle.explorer.specs.declared.fault.Fault.TheVariants as faults
use Rattle.explorer.specs.declared.importing.Came.{Came}
use Rattle.explorer.specs.Answer.{IsAnswer, answer_line}
use Rattle.explorer.specs.Count.{Answers, BreaksOff, CountedBy, CountedTo, Counts, CountsBy, CountsOver, ImportsNew, ReadsBelow, Starves}
use Rattle.explorer.specs.Faults.{fault_by, fault_of_query}
use Rattle.explorer.specs.Imported.{FaultsBy, ImportedIn, IsAllSettled, IsFullAt, StandsBy, StoredBy, new_store}
use Rattle.explorer.specs.Lines.{AreLinesOf, Ending, Stopped, ending_of}
use Rattle.explorer.specs.Report.{MayReport, report}
use Rattle.explorer.specs.World.{World, WriteFails, world}
use Rattle.explorer.proofs.NewStoreLemmas.{known_is_new}

-- ---- want of memory

pub starves_at_once : (before : World) → Starves before before (Stopped faults.OutOfMemory)
starves_at_once before = record { ending_is = refl; stream = []; reads = reads-none before.input; below = omega arith; came = inl refl; rest = refl }

pub starves_reading : (input input' output errors : Stream) (host : HostState) → ReadsBelow input input' → Starves (world input output errors host) (world input' output errors host) (Stopped faults.OutOfMemory)
starves_reading input input' output errors host reads = record { ending_is = refl; stream = reads.stream; reads = reads.reads; below = reads.below; came = reads.came; rest = refl }

-- what holds anyhow holds behind a fault
pub if_err : {T E : Type 0} {P : Type 0} → (result : Result T E) → P → IfErr result (λ fault. P)
if_err (Ok value) holds = tt
if_err (Err fault) holds = holds

-- nothing was read
pub below_nothing : (input : Stream) → ReadsBelow input input
below_nothing input = record { stream = []; reads = reads-none input; below = omega arith; came = inl refl }

-- an import that came to its end, or for which memory was wanting, read below the bound
below_by : (label : List ℕ) (ending : ImportEnding) (start : Known) (stream : List ℕ) (left : Option (List ℕ)) (batches : List Batch) (refused : List Refusal) (stored : List Batch) (failed : Option Batch) (disk disk_after : DiskState) (source source_after : Stream)
    → (fault_by ending ≡ None) ⊎ (fault_by ending ≡ Some faults.OutOfMemory) → StandsBy label ending start stream left batches refused stored failed → FaultsBy ending disk disk_after source source_after
    → (length stream < input_limit) × MayRise source.read_faults source_after.read_faults
below_by label endings.Whole start stream left batches refused stored failed disk disk_after source source_after ends stands faults_are = (stands.below, inl faults_are.reads)
below_by label endings.OutOfMemory start stream left batches refused stored failed disk disk_after source source_after ends stands faults_are = (stands.below, faults_are.1)
below_by label (endings.ReadFault first last) start stream left batches refused stored failed disk disk_after source source_after (inl none) stands faults_are = absurd (cc)
below_by label (endings.ReadFault first last) start stream left batches refused stored failed disk disk_after source source_after (inr memory) stands faults_are = absurd (cc)
below_by label (endings.TooMuch bytes) start stream left batches refused stored failed disk disk_after source source_after (inl none) stands faults_are = absurd (cc)
below_by label (endings.TooMuch bytes) start stream left batches refused stored failed disk disk_after source source_after (inr memory) stands faults_are = absurd (cc)
below_by label (endings.DiskFault first last) start stream left batches refused stored failed disk disk_after source source_after (inl none) stands faults_are = absurd (cc)
below_by label (endings.DiskFault first last) start stream left batches refused stored failed disk disk_after source source_after (inr memory) stands faults_are = absurd (cc)
below_by label (endings.Closed first last) start stream left batches refused stored failed disk disk_after source source_after ends stands faults_are = absurd stands
below_by label (endings.Full games bytes) start stream left batches refused stored failed disk disk_after source source_after (inl none) stands faults_are = absurd (cc)
below_by label (endings.Full games bytes) start stream left batches refused stored failed disk disk_after source source_after (inr memory) stands faults_are = absurd (cc)

below_of : (label : List ℕ) (journal stored : List Batch) (disk disk_after : DiskState) (source source_after : Stream) (came : Came) → ImportedIn label journal stored disk disk_after source source_after came
    → (fault_by came.ending ≡ None) ⊎ (fault_by came.ending ≡ Some faults.OutOfMemory) → ReadsBelow source source_after
below_of label journal stored disk disk_after source source_after came is ends =
    let both = below_by label came.ending is.start is.stream source_after.left is.batches came.refused.items stored is.failed disk disk_after source source_after ends is.stands is.faults in
    record { stream = is.stream; reads = is.reads; below = both.0; came = both.1 }

pub below_whole : (label : List ℕ) (journal stored : List Batch) (disk disk_after : DiskState) (source source_after : Stream) (came : Came) → ImportedIn label journal stored disk disk_after source source_after came → fault_by came.ending ≡ None
    → ReadsBelow source source_after
below_whole label journal stored disk disk_after source source_after came is none = below_of label journal stored disk disk_after source source_after came is (inl none)

pub below_lacking : (label : List ℕ) (journal stored : List Batch) (disk disk_after : DiskState) (source source_after : Stream) (came : Came) → ImportedIn label journal stored disk disk_after source source_after came → fault_by came.ending ≡ Some faults.OutOfMemory
    → ReadsBelow source source_after
below_lacking label journal stored disk disk_after source source_after came is memory = below_of label journal stored disk disk_after source source_after came is (inr memory)

-- where memory is wanting for the report of an input that was read to its end
pub below_counted : (book : List NamedPosition) (query : Query) (faults faults_after : ℕ) (before after : Stream) (refused : List Refusal) (line : Vec ℕ Global) → CountedTo book query faults faults_after before after refused (Ok line) → ReadsBelow before after
below_counted book query faults faults_after before after refused line (batches, (imports, answer, came)) =
    record { stream = imports.stream; reads = imports.reads; below = imports.stands.below; came = inl came }

-- ---- an import into a new store

module _ (book : List NamedPosition) (query : Query) (label : List ℕ) (unlabelled : label ≡ no_label) (journal stored : List Batch) (empty : journal ≡ []) (disk disk_after : DiskState) (source source_after : Stream) (came : Came) (is : ImportedIn label journal stored disk disk_after source source_after came) where
  started : is.start ≡ new_store
  started = known_is_new is.start (is.journal_is ∙ empty) is.sound is.none_failed

  stands_new : StandsBy no_label came.ending new_store is.stream source_after.left is.batches came.refused.items stored is.failed
  stands_new =
      let P : Known → Type 0 = λ k. StandsBy label came.ending k is.stream source_after.left is.batches came.refused.items stored is.failed in
      let Q : List ℕ → Type 0 = λ l. StandsBy l came.ending new_store is.stream source_after.left is.batches came.refused.items stored is.failed in
      subst Q unlabelled (subst P started is.stands)

  stored_by_ending : (ending : ImportEnding) → came.ending ≡ ending → StoredBy ending is.batches stored
  stored_by_ending ending e =
      let P : ImportEnding → Type 0 = λ f. StoredBy f (is.start.journal ++ is.batches) stored in
      let Q : Known → Type 0 = λ k. StoredBy ending (k.journal ++ is.batches) stored in
      subst Q started (subst P e is.stored_are)

  stands_at : (ending : ImportEnding) → came.ending ≡ ending → StandsBy no_label ending new_store is.stream source_after.left is.batches came.refused.items stored is.failed
  stands_at ending e =
      let P : ImportEnding → Type 0 = λ f. StandsBy no_label f new_store is.stream source_after.left is.batches came.refused.items stored is.failed in
      subst P e stands_new

  faults_at : (ending : ImportEnding) → came.ending ≡ ending → FaultsBy ending disk disk_after source source_after
  faults_at ending e =
      let P : ImportEnding → Type 0 = λ f. FaultsBy f disk disk_after source source_after in
      subst P e is.faults

  new_by : (Stands : List ℕ → List Batch → List Refusal → Type 0) → Stands is.stream is.batches came.refused.items → stored ≡ is.batches → ImportsNew Stands source source_after is.batches came.refused.items
  new_by Stands stands same = record { stream = is.stream; reads = is.reads; stands = stands; sound = subst (λ (j : List Batch). IsSound j) same is.is_sound }

  some_none : (fault : Fault) → Some fault ≡ None → ⊥
  some_none fault e = cc

  -- the input was read to its end
  pub counted_all : (after published : List Batch) (line : Vec ℕ Global) → fault_by came.ending ≡ None → after ≡ stored → published ≡ after → IsAnswer book query published line
      → CountedTo book query disk.faults disk_after.faults source source_after came.refused.items (Ok line)
  counted_all after published line none same told answer = by_ending came.ending refl none
    where
      by_ending : (ending : ImportEnding) → came.ending ≡ ending → fault_by ending ≡ None → CountedTo book query disk.faults disk_after.faults source source_after came.refused.items (Ok line)
      by_ending endings.Whole e none =
          let stored_is : stored ≡ is.batches = stored_by_ending endings.Whole e in
          let A : List Batch → Type 0 = λ j. IsAnswer book query j line in (
            is.batches,
            (
              new_by (λ stream. IsAllSettled no_label new_store stream source_after.left) (stands_at endings.Whole e) stored_is,
              subst A (told ∙ same ∙ stored_is) answer,
              (faults_at endings.Whole e).reads,
            ),
          )
      by_ending (endings.ReadFault first last) e none = absurd (some_none _ none)
      by_ending (endings.DiskFault first last) e none = absurd (some_none _ none)
      by_ending (endings.Closed first last) e none = absurd (some_none _ none)
      by_ending (endings.Full games bytes) e none = absurd (some_none _ none)
      by_ending (endings.TooMuch bytes) e none = absurd (some_none _ none)
      by_ending endings.OutOfMemory e none = absurd (some_none _ none)

  -- the import ended early
  pub counted_early : (fault : Fault) → fault_by came.ending ≡ Some fault → (fault ≡ faults.OutOfMemory → ⊥) → CountedTo book query disk.faults disk_after.faults source source_after came.refused.items (Err fault)
  counted_early fault ends differs = by_ending came.ending refl ends
    where
      so : (other : Fault) → Some other ≡ Some fault → CountedTo book query disk.faults disk_after.faults source source_after came.refused.items (Err other)
          → CountedTo book query disk.faults disk_after.faults source source_after came.refused.items (Err fault)
      so other e counted =
          let same : other ≡ fault = cc in
          subst (λ (f : Fault). CountedTo book query disk.faults disk_after.faults source source_after came.refused.items (Err f)) same counted

      none_some : None ≡ Some fault → ⊥
      none_some e = cc

      by_ending : (ending : ImportEnding) → came.ending ≡ ending → fault_by ending ≡ Some fault → CountedTo book query disk.faults disk_after.faults source source_after came.refused.items (Err fault)
      by_ending endings.Whole e ends = absurd (none_some ends)
      by_ending (endings.ReadFault first last) e ends =
          so faults.ReadFault ends (
            is.batches,
            (new_by (IsCutOff no_label new_store) (stands_at (endings.ReadFault first last) e) (stored_by_ending (endings.ReadFault first last) e), (faults_at (endings.ReadFault first last) e).1),
          )
      by_ending (endings.DiskFault first last) e ends = so faults.DiskFault ends (is.batches, (faults_at (endings.DiskFault first last) e).0)
      by_ending (endings.Closed first last) e ends = absurd (stands_at (endings.Closed first last) e)
      by_ending (endings.Full games bytes) e ends =
          so (faults.Full games bytes) ends (
            is.batches,
            (
              new_by (λ stream. IsFullAt no_label games bytes new_store stream source_after.left) (stands_at (endings.Full games bytes) e) (stored_by_ending (endings.Full games bytes) e),
              (faults_at (endings.Full games bytes) e).1,
            ),
          )
      by_ending (endings.TooMuch bytes) e ends =
          so faults.TooMuchInput ends (
            is.batches,
            (new_by (IsTooMuch no_label new_store) (stands_at (endings.TooMuch bytes) e) (stored_by_ending (endings.TooMuch bytes) e), (faults_at (endings.TooMuch bytes) e).reads),
          )
      by_ending endings.OutOfMemory e ends = let same : faults.OutOfMemory ≡ fault = cc in absurd (differs (sym same))

-- ---- results

-- what a fault that is passed on comes to
pub by_residual : {A : Type 0} (r : Result A Fault) (P : Fault → Type 0) (Q : Ending → Type 0) → IsErrAnd r P → ((fault : Fault) → P fault → Q (Stopped fault)) → Q (ending_of r)
by_residual (Ok x) P Q is step = absurd is
by_residual (Err fault) P Q is step = step fault is

-- memory was refused
pub starved_by : {A : Type 0} (r : Result A Fault) (query : Query) (book : List NamedPosition) (before after : World) → IsErrAnd r (λ fault. fault ≡ faults.OutOfMemory) → Starves before after (Stopped faults.OutOfMemory)
    → CountsOver query book before after (ending_of r)
starved_by r query book before after is starves =
    by_residual r (λ fault. fault ≡ faults.OutOfMemory) (λ ending. CountsOver query book before after ending) is
    (λ fault so. inl (subst (λ (f : Fault). Starves before after (Stopped f)) (sym so) starves))

-- a write failed, though all was tried
pub unwritten_by : {A : Type 0} (r : Result A Fault) (query : Query) (book : List NamedPosition) (before after : World) → IsErrAnd r (λ fault. fault ≡ faults.WriteFault) → Answers book query before after → WriteFails before after
    → CountsOver query book before after (ending_of r)
unwritten_by r query book before after is answers fails =
    by_residual r (λ fault. fault ≡ faults.WriteFault) (λ ending. CountsOver query book before after ending) is
    (λ fault so. inr (subst (λ (f : Fault). CountsBy query book before after (Stopped f)) (sym so) (answers, fails)))

-- ---- lines

pub usage_line : (fault : Fault) (line front : List ℕ) → fault ≡ faults.Usage → line ≡ front ++ codes "\n" → AreLinesOf fault (line ∷ [])
usage_line fault line front is ends = subst (λ (f : Fault). AreLinesOf f (line ∷ [])) (sym is) (line, (front, ends), refl)

-- ---- the query

-- a query that is malformed, or for which there is no memory
pub unread_query : (text : List ℕ) (openings : Option (List ℕ)) (before : World) (stop : Stop BadParameter) (fault : Fault) → fault ≡ fault_of_query stop
    → model.Answers {A = Query} {F = BadParameter} (Err stop) (QueryReads text) → Counts text openings before before (Stopped fault)
unread_query text openings before (stops.Fault bad) fault is reads = inr (Err bad, reads, (ap Stopped is, refl))
unread_query text openings before stops.OutOfMemory fault is reads = inl (ap Stopped is, refl)

-- ---- writes

pub write_one : (r : Result (Unit {0}) Failed) (chunk : List ℕ) (old new : Stream) → OnOk r (Takes chunk old new) → OnErr r (FailsToTake chunk old new) → Writes (chunk ∷ []) old new
write_one (Ok x) chunk old new takes fails = (new, inl takes, refl)
write_one (Err e) chunk old new takes fails = (new, inr fails, refl)

writes_as : (chunk other : List ℕ) (old new : Stream) → chunk ≡ other → Writes (chunk ∷ []) old new → Writes (other ∷ []) old new
writes_as chunk other old new is writes = subst (λ (l : List ℕ). Writes (l ∷ []) old new) is writes

-- ---- an import that ends early

no_rise : Rises 0 0 → ⊥
no_rise rises = ⊎_elim (λ (less : 0 < 0). omega (arith, less)) (λ (most : 0 ≡ 2 ^ 64 - 1). omega (arith, most)) rises.rose

pub broken : {E : Type 0} (book : List NamedPosition) (query : Query) (input input' output errors errors' : Stream) (host : HostState) (refused : List Refusal) (fault : Fault) (made : Result (Vec ℕ Global) E)
    → CountedTo book query 0 0 input input' refused (Err fault) → IfOk made (λ lines. lines.items ≡ report refused)
    → MatchResult made (λ lines. Writes (lines.items ∷ []) errors errors') (λ none. errors' ≡ errors)
    → CountsBy query book (world input output errors host) (world input' output errors' host) (Stopped fault)
broken {E} book query input input' output errors errors' host refused fault made (batches, counted) lines_are writes = by_fault fault counted
  where
    by_made : (r : Result (Vec ℕ Global) E) → IfOk r (λ lines. lines.items ≡ report refused)
        → MatchResult r (λ lines. Writes (lines.items ∷ []) errors errors') (λ none. errors' ≡ errors) → MayReport (report refused) errors errors'
    by_made (Ok lines) are wrote = inl (writes_as lines.items (report refused) errors errors' are wrote)
    by_made (Err none) are same = inr same

    told : MayReport (report refused) errors errors'
    told = by_made made lines_are writes

    before : World
    before = world input output errors host

    after : World
    after = world input' output errors' host

    off : (Stands : List ℕ → List Batch → List Refusal → Type 0) → ImportsNew Stands input input' batches refused → BreaksOff Stands before after
    off Stands imports = record { batches = batches; refused = refused; imports = imports; output = refl; errors = told; host = refl }

    by_fault : (fault : Fault) → CountedBy book query 0 0 input input' batches refused (Err fault) → CountsBy query book before after (Stopped fault)
    by_fault faults.ReadFault (imports, rises) = (off (IsCutOff no_label new_store) imports, rises)
    by_fault faults.TooMuchInput (imports, came) = (off (IsTooMuch no_label new_store) imports, came)
    by_fault (faults.Full games bytes) (imports, came) = (off (λ stream. IsFullAt no_label games bytes new_store stream input'.left) imports, came)
    by_fault faults.DiskFault rises = absurd (no_rise rises)
    by_fault faults.Usage counted = absurd counted
    by_fault (faults.BadParameter parameter) counted = absurd counted
    by_fault faults.BadLabel counted = absurd counted
    by_fault faults.SpillFault counted = absurd counted
    by_fault (faults.SpillDamaged part) counted = absurd counted
    by_fault faults.OpeningsTooLong counted = absurd counted
    by_fault (faults.BadOpenings row cause) counted = absurd counted
    by_fault faults.WriteFault counted = absurd counted
    by_fault (faults.NotEmpty size) counted = absurd counted
    by_fault faults.NotAStore counted = absurd counted
    by_fault (faults.OtherFormat number) counted = absurd counted
    by_fault (faults.Damaged gate) counted = absurd counted
    by_fault faults.OutOfMemory counted = absurd counted
    by_fault (faults.CannotOpen name) counted = absurd counted
    by_fault faults.CannotAccept counted = absurd counted

-- ---- an import to the end of the input

pub answered : (book : List NamedPosition) (query : Query) (input input' output output' errors errors' : Stream) (host : HostState) (refused : List Refusal) (line : Vec ℕ Global) (lines chunk : List ℕ) → CountedTo book query 0 0 input input' refused (Ok line)
    → lines ≡ report refused → Writes (lines ∷ []) errors errors' → chunk ≡ line.items
    → Writes (chunk ∷ []) output output' → Answers book query (world input output errors host) (world input' output' errors' host)
answered book query input input' output output' errors errors' host refused line lines chunk (batches, (imports, (found, naming, is_found, is_naming, line_is), came)) lines_are told chunk_is writes = record {
  batches = batches;
  refused = refused;
  imports = imports;
  found = found;
  is_found = is_found;
  naming = naming;
  is_naming = is_naming;
  output = writes_as chunk (answer_line found naming) output output' (chunk_is ∙ line_is) writes;
  errors = writes_as lines (report refused) errors errors' lines_are told;
  host = refl;
}

-- no read failed
pub all_came : (book : List NamedPosition) (query : Query) (input input' : Stream) (refused : List Refusal) (line : Vec ℕ Global) → CountedTo book query 0 0 input input' refused (Ok line) → input'.read_faults ≡ input.read_faults
all_came book query input input' refused line (batches, counted) = counted.2
