-- Bridge: changes that are held, and what waits at the writer.
use Rattle.std.specs.Prelude.{◌≡◌, ◌⊎◌, Bool, true, false, List, [], ◌∷◌, Option, None, Some, Result, Ok, Err}
use Rattle.std.specs.Arc.{arc_value}
use Rattle.explorer_model.specs.declared.archive.Batch.{Batch}
use Rattle.segment_blocks.specs.Segment.{CountedSpan}
use Rattle.published_index.specs.declared.held.Held.{Held}
use Rattle.published_index.specs.declared.held.Held.TheVariants.{Add, Join}
use Rattle.published_index.specs.declared.published.Operation.{Operation}
use Rattle.published_index.specs.Cover.{journal_of}
use Rattle.published_index.specs.Changes.{Change, AddOf, JoinAt, MayMake, with_change, with_put}
use Rattle.published_index.specs.States.{Publishing}
use Rattle.published_index.specs.Calls.{Publishes}
use Rattle.published_index.specs.Operations.{change_made, front_after}
use Rattle.published_index.specs.History.{Reached}

abbrev pub held_change : Held → Change
held_change (Add segment) = AddOf (arc_value segment)
held_change (Join at segment) = JoinAt at (arc_value segment)

-- the change that is held: what waits is held too
abbrev pub waiting : Option Held → List Operation → Option Change
waiting (Some held) operations = Some (held_change held)
waiting None [] = None
waiting None (operation ∷ more) = Some (change_made operation)

-- the operation may be made, and the history is the one behind it
pub record IsQueued (list : List CountedSpan) (front history : Reached) (operation : Operation)
    : Type 0 where
  pub may : MayMake list (change_made operation)
  pub log : history.log ≡ with_put (journal_of list) (change_made operation)
  pub front_is : front_after front operation ≡ history

-- the change may be made, and its batch was added to the history or not
pub record IsHeld (list : List CountedSpan) (history : Reached) (change : Change) : Type 0 where
  pub may : MayMake list change
  pub log : (history.log ≡ journal_of list) ⊎ (history.log ≡ with_put (journal_of list) change)

-- one change waits at most, and the history is published but for its batch
abbrev pub Waits : List CountedSpan → Reached → Reached → Option Held → List Operation → Type 0
Waits list front history None [] = history.log ≡ journal_of list
Waits list front history None (operation ∷ []) = IsQueued list front history operation
Waits list front history None (operation ∷ _ ∷ more) = ⊥
Waits list front history (Some held) [] = IsHeld list history (held_change held)
Waits list front history (Some held) (operation ∷ more) = ⊥

-- what is true of each publisher
pub record IsWritten (list : List CountedSpan) (front : Reached) (seen : Option Reached)
    (history : Reached) (held : Option Held) (operations : List Operation) : Type 0 where
  pub tied : front.log ≡ journal_of list
  pub book : front.book ≡ history.book
  pub seen_is : seen ≡ Some front
  pub waits : Waits list front history held operations

-- a change is published, and nothing is held then
pub record IsMade (old new : Publishing) (change : Change) : Type 0 where
  pub list : new.list ≡ with_change old.list change
  pub journal : journal_of new.list ≡ with_put (journal_of old.list) change
  pub none_held : new.held ≡ None

-- what is done for a change that may be held, and whether one was
abbrev pub Flushes : {E : Type 0} → Publishing → Publishing → Option Change → Result Bool E → Type 0
Flushes old new None answer = (answer ≡ Ok false) × (new ≡ old)
Flushes old new (Some change) (Ok some) = (some ≡ true) × IsMade old new change
Flushes old new (Some change) (Err refused) = new ≡ old

-- a change that is held is published, or nothing changes
abbrev pub Remakes : {E : Type 0} → Publishing → Publishing → Change → Result (List Batch) E
    → Type 0
Remakes old new change (Ok note) = Publishes old new change note
Remakes old new change (Err refused) = new ≡ old
