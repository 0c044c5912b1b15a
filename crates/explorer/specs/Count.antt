-- Statement: how a run of the command `count` ends.
use Rattle.std.specs.Prelude.{◌≡◌, ◌⊎◌, ◌<◌, ℕ, List, [], ◌∷◌, Option, Vec, Result, Ok, Err, length}
use Rattle.std.specs.Global.{Global}
use Rattle.outside.specs.Stream.{Reads, Rises, Stream, Writes}
use Rattle.explorer_model.specs.declared.answer.Found.{Found}
use Rattle.explorer_model.specs.declared.archive.Batch.{Batch}
use Rattle.explorer_model.specs.declared.fault.Refusal.{Refusal}
use Rattle.explorer_model.specs.declared.opening.Naming.{Naming}
use Rattle.explorer_model.specs.declared.query.BadParameter as query_fault
use Rattle.explorer_model.specs.declared.query.Query.{Query}
use Rattle.explorer_model.specs.Finds.{IsFound}
use Rattle.explorer_model.specs.Journal.{IsSound, input_limit}
use Rattle.explorer_model.specs.Labels.{no_label}
use Rattle.explorer_model.specs.Openings.{NamedPosition}
use Rattle.explorer_model.specs.Query.{QueryReads}
use Rattle.import_run.specs.Ending.{IsCutOff, IsTooMuch, MayRise}
use Rattle.explorer.specs.declared.fault.Fault.{Fault}
use Rattle.explorer.specs.declared.fault.Fault.TheVariants.{BadParameter, DiskFault, Full, OutOfMemory, ReadFault, TooMuchInput, WriteFault}
use Rattle.explorer.specs.Answer.{IsAnswer, IsNamingOf, answer_line}
use Rattle.explorer.specs.Book.{NamedBy}
use Rattle.explorer.specs.Imported.{IsAllSettled, IsFullAt, new_store}
use Rattle.explorer.specs.Lines.{Ending, Done, Stopped}
use Rattle.explorer.specs.Report.{MayReport, report}
use Rattle.explorer.specs.World.{World, AllReadsCame, IsFaultless, ReadFails, ReadMayFail, WriteFails}

-- Bytes of the input were taken, of which an import into a new store stands so. It stored these
-- batches, which are a sound journal, and refused these cuts.
pub record ImportsNew (Stands : List ℕ → List Batch → List Refusal → Type 0)
    (before after : Stream) (batches : List Batch) (refused : List Refusal) : Type 0 where
  pub stream : List ℕ
  pub reads : Reads stream before after
  pub stands : Stands stream batches refused
  pub sound : IsSound batches

-- the same, where the input was read to its end
abbrev pub ImportsAll : Stream → Stream → List Batch → List Refusal → Type 0
ImportsAll before after =
    ImportsNew (λ stream. IsAllSettled no_label new_store stream after.left) before after

-- The input was read to its end. The games of its groups are stored, the query is answered over
-- them by the book, and what is refused is reported; nothing else was written.
pub record Answers (book : List NamedPosition) (query : Query) (before after : World)
    : Type 0 where
  pub batches : List Batch
  pub refused : List Refusal
  pub imports : ImportsAll before.input after.input batches refused
  pub found : Found
  pub is_found : IsFound batches query found
  pub naming : Naming
  pub is_naming : IsNamingOf book query found naming
  pub output : Writes (answer_line found naming ∷ []) before.output after.output
  pub errors : Writes (report refused ∷ []) before.errors after.errors
  pub host : after.host ≡ before.host

-- A part of the input was read, of which an import that stands so has refused these cuts. They are
-- reported, but for want of memory; nothing else was written.
pub record BreaksOff (Stands : List ℕ → List Batch → List Refusal → Type 0)
    (before after : World) : Type 0 where
  pub batches : List Batch
  pub refused : List Refusal
  pub imports : ImportsNew Stands before.input after.input batches refused
  pub output : after.output ≡ before.output
  pub errors : MayReport (report refused) before.errors after.errors
  pub host : after.host ≡ before.host

-- a count for a query by a book, by its ending; no other can be. Behind a group that found no room a
-- read may have failed.
abbrev pub CountsBy : Query → List NamedPosition → World → World → Ending → Type 0
CountsBy query book before after Done = Answers book query before after × IsFaultless before after
CountsBy query book before after (Stopped WriteFault) =
    Answers book query before after × WriteFails before after
CountsBy query book before after (Stopped ReadFault) =
    BreaksOff (IsCutOff no_label new_store) before after × ReadFails before after
CountsBy query book before after (Stopped TooMuchInput) =
    BreaksOff (IsTooMuch no_label new_store) before after × AllReadsCame before after
CountsBy query book before after (Stopped (Full games bytes)) =
    BreaksOff (λ stream. IsFullAt no_label games bytes new_store stream after.input.left)
    before after × ReadMayFail before after
CountsBy query book before after (Stopped _) = ⊥

-- Memory was refused, which may come at any moment: some of the input may be read, which is not up to
-- the bound, and the last read may have failed. Nothing is written.
pub record Starves (before after : World) (ending : Ending) : Type 0 where
  pub ending_is : ending ≡ Stopped OutOfMemory
  pub stream : List ℕ
  pub reads : Reads stream before.input after.input
  pub below : length stream < input_limit
  pub came : ReadMayFail before after
  pub rest : after ≡ record before { input = after.input }

-- the input is counted, but for want of memory
abbrev pub CountsOver : Query → List NamedPosition → World → World → Ending → Type 0
CountsOver query book before after ending =
    Starves before after ending ⊎ CountsBy query book before after ending

-- a run by what the query reads as; the file of openings is read before the input
abbrev pub CountsFor : Option (List ℕ) → Result Query query_fault.BadParameter → World → World
    → Ending → Type 0
CountsFor openings (Err bad) before after ending =
    (ending ≡ Stopped (BadParameter bad.name)) × (after ≡ before)
CountsFor openings (Ok query) before after ending =
    NamedBy openings (CountsOver query) before after ending

-- a run of `count` with this query string
abbrev pub Counts : List ℕ → Option (List ℕ) → World → World → Ending → Type 0
Counts text openings before after ending =
    ((ending ≡ Stopped OutOfMemory) × (after ≡ before))
    ⊎ ((query : Result Query query_fault.BadParameter)
    × QueryReads text query × CountsFor openings query before after ending)

-- ---- bridge: what the code comes to on the way

-- some of the input was read, which is not up to the bound; the last read may have failed
pub record ReadsBelow (before after : Stream) : Type 0 where
  pub stream : List ℕ
  pub reads : Reads stream before after
  pub below : length stream < input_limit
  pub came : MayRise before.read_faults after.read_faults

-- what an import into a new store came to, and the line that answers the query over it, or why there
-- is none; with the counts of the disk's faults before and after
abbrev pub CountedBy : List NamedPosition → Query → ℕ → ℕ → Stream → Stream → List Batch
    → List Refusal → Result (Vec ℕ Global) Fault → Type 0
CountedBy book query faults faults_after before after batches refused (Ok line) =
    ImportsAll before after batches refused × IsAnswer book query batches line
    × (after.read_faults ≡ before.read_faults)
CountedBy book query faults faults_after before after batches refused (Err ReadFault) =
    ImportsNew (IsCutOff no_label new_store) before after batches refused
    × Rises before.read_faults after.read_faults
CountedBy book query faults faults_after before after batches refused (Err TooMuchInput) =
    ImportsNew (IsTooMuch no_label new_store) before after batches refused
    × (after.read_faults ≡ before.read_faults)
CountedBy book query faults faults_after before after batches refused (Err (Full games bytes)) =
    ImportsNew (λ stream. IsFullAt no_label games bytes new_store stream after.left)
    before after batches refused × MayRise before.read_faults after.read_faults
CountedBy book query faults faults_after before after batches refused (Err DiskFault) =
    Rises faults faults_after
CountedBy book query faults faults_after before after batches refused (Err _) = ⊥

-- it stored some batches
abbrev pub CountedTo : List NamedPosition → Query → ℕ → ℕ → Stream → Stream → List Refusal
    → Result (Vec ℕ Global) Fault → Type 0
CountedTo book query faults faults_after before after refused line = (batches : List Batch)
    × CountedBy book query faults faults_after before after batches refused line
