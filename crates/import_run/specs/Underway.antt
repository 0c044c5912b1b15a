-- Bridge: an import on its way, whose groups are counted ahead of what is settled.
use Rattle.std.specs.Prelude.{◌≡◌, ◌⊎◌, ◌+◌, ◌*◌, ◌<◌, ◌≤◌, ℕ, Bool, false, List, [], ◌++◌, length, Option, None, Some, Result, OnErr, OnOk}
use Rattle.std.specs.List.{All, AllByRecursion, AllZip}
use Rattle.std.specs.Io.KnownBytes.{IsAtEnd}
use Rattle.outside.specs.Stream.{Gives, Reads, Stream}
use Rattle.explorer_model.specs.Cuts.{Cut, cuts}
use Rattle.explorer_model.specs.Journal.{input_limit}
use Rattle.explorer_model.specs.declared.fault.Stop.{Stop}
use Rattle.import_run.specs.declared.open_import.OpenImport.{OpenImport}
use Rattle.import_run.specs.declared.open_import.Stopped.{Stopped}
use Rattle.import_run.specs.declared.ahead.Ahead.{Ahead}
use Rattle.import_run.specs.declared.ahead.ReadEnd.TheVariants.{Ended, Failed}
use Rattle.import_run.specs.declared.underway.Over.{Over}
use Rattle.import_run.specs.declared.underway.Over.TheVariants.{ReadFault, TooMuch, Whole}
use Rattle.import_run.specs.declared.underway.Underway.{Underway}
use Rattle.import_run.specs.Ahead.{CanGoOn, HoldsAhead, StandsFor, left_of}
use Rattle.import_run.specs.Apart.{IsInHand}
use Rattle.import_run.specs.Committing.{Store}
use Rattle.import_run.specs.Ending.{MayRise}
use Rattle.import_run.specs.Grouping.{Ascend, IsTallied}
use Rattle.import_run.specs.Importing.{ByStop}
use Rattle.import_run.specs.Settled.{IsSettledSo}
use Rattle.import_run.specs.Taking.{LacksAmong, LacksAtEnd, LacksWithin, StopsAmong, StopsIn}

-- all that is in hand can be settled under the label
pub record CanSettle {J : Type 0} (label : List ℕ) (state : Underway J) : Type 0 where
  pub label_is : state.import.group.label ≡ label
  pub hand : All IsInHand state.counted.items
  pub ahead : CanGoOn label state.ahead

-- How much is to be done yet: this falls with each round.
abbrev pub work_left : {J : Type 0} → Underway J → ℕ
work_left state =
    3 * left_of state.ahead + 2 * length state.ahead.whole.items + length state.counted.items

-- The groups of the bytes that were read from one moment to another: some are settled, and behind
-- these some are counted, and others are held.
pub record IsUnderway {J : Type 0} (before now : Stream) (start : Option Store)
    (state : Underway J) (told : Option Store) : Type 0 where
  pub closed : List (List Cut)
  pub waiting : List (List Cut)
  pub tallied : AllZip (IsTallied state.import.group.label) waiting state.counted.items
  pub settled : IsSettledSo start closed state.import told
  pub ahead : HoldsAhead before now (closed ++ waiting) state.ahead

-- ---- where an import ends

-- how it ends, by what was read: all groups are settled, or all that are whole
abbrev pub OverBy : Over → Stream → Stream → List (List Cut) → Ahead → Type 0
OverBy Whole before now closed ahead =
    (ahead.end ≡ Some Ended) × HoldsAhead before now closed ahead
OverBy (ReadFault first last) before now closed ahead =
    (ahead.end ≡ Some (Failed first last)) × HoldsAhead before now closed ahead
OverBy TooMuch before now closed ahead =
    (ahead.end ≡ None) × (ahead.taken + 1 ≡ input_limit)
    × ((middle : Stream) × HoldsAhead before middle closed ahead
    × ((byte : List ℕ) × Gives 1 byte middle now))

-- nothing is in hand but the cuts of a group that is not whole
pub record IsOver {J : Type 0} (over : Over) (before now : Stream) (start : Option Store)
    (state : Underway J) (told : Option Store) : Type 0 where
  pub closed : List (List Cut)
  pub settled : IsSettledSo start closed state.import told
  pub none : state.ahead.whole.items ≡ []
  pub stands : OverBy over before now closed state.ahead

-- a group of what was read ended the import
pub record StopsReading {J : Type 0} (before now : Stream) (start : Option Store)
    (import : OpenImport J) (stopped : Stopped J) (told : Option Store) : Type 0 where
  pub stream : List ℕ
  pub reads : Reads stream before now
  pub faults : MayRise before.read_faults now.read_faults
  pub below : length stream < input_limit
  pub stops : StopsIn start stream now.left import stopped told

-- memory was wanting for what was read
pub record LacksReading {J : Type 0} (before now : Stream) (start : Option Store)
    (import : OpenImport J) (told : Option Store) : Type 0 where
  pub stream : List ℕ
  pub reads : Reads stream before now
  pub faults : MayRise before.read_faults now.read_faults
  pub below : length stream < input_limit
  pub lacks : LacksWithin start stream import told
      ⊎ (IsAtEnd now.left × LacksAtEnd start (cuts stream) import told)

-- ---- a round

-- What the calling thread does in a round: the groups that are counted are settled, and more is read.
-- What is read has nothing to do with what is settled.
pub record Turns {J : Type 0} (counting : Bool) (result : Result (Unit {0}) (Stop (Stopped J)))
    (old new : Underway J) (source source_after : Stream) (told told_after : Option Store)
    : Type 0 where
  pub same : new.import.group ≡ old.import.group
  pub ready : OnOk result (CanGoOn old.import.group.label new.ahead)
  pub settles : (start : Option Store) (closed groups : List (List Cut))
      → AllByRecursion Ascend groups
      → AllZip (IsTallied old.import.group.label) groups old.counted.items
      → IsSettledSo start closed old.import told
      → ByStop result (IsSettledSo start (closed ++ groups) new.import told_after)
      (λ stopped. StopsAmong start closed groups new.import stopped told_after)
      (LacksAmong start closed groups new.import told_after)
  pub reads : OnOk result ((before : Stream) (given : List (List Cut))
      → HoldsAhead before source given old.ahead
      → HoldsAhead before source_after given new.ahead)
  pub ends : OnErr result ((before : Stream) (given : List (List Cut))
      → HoldsAhead before source given old.ahead → StandsFor before source_after given)
  pub less : OnOk result (counting ≡ false → old.ahead.whole.items ≡ []
      → old.ahead.end ≡ None → old.ahead.taken + 1 < input_limit
      → left_of new.ahead < left_of old.ahead)
  pub few : OnOk result (length new.ahead.whole.items + left_of new.ahead
      ≤ length old.ahead.whole.items + left_of old.ahead)
