-- Statement: what becomes of a store: batches are stored, calls of its disk fail, and it is opened
-- again.
use Rattle.std.specs.Prelude.{◌≡◌, ⊤, ℕ, ◌+◌, ◌≤◌, Bool, if◌then◌else◌, List, [], ◌∷◌, ◌++◌, Option, None, Some, slice_get}
use Rattle.explorer_model.specs.declared.archive.Batch.{Batch}

-- The journal of a store, the batches that were acknowledged since this life began, and the one that
-- may stand behind the journal on its disk, since a call of the disk failed while it was stored.
pub record Life : Type 0 where
  pub journal : List Batch
  pub acknowledged : List Batch
  pub pending : Option Batch

-- a store that was opened with this journal
abbrev pub opening : List Batch → Life
opening journal = record { journal = journal; acknowledged = []; pending = None }

-- ---- events

pub data LifeEvent : Type 0 where
  -- a batch is stored and acknowledged
  Stored : Batch → LifeEvent
  -- a batch is stored, and not acknowledged
  Kept : Batch → LifeEvent
  -- a call of the disk fails while a batch is stored: it may stand there, or not
  Failed : Batch → LifeEvent
  -- the store is opened again, and a pending batch stands there (true) or not
  Reopened : Bool → LifeEvent

-- where a batch is pending, the store takes none until it is opened again
abbrev pub IsAllowed : Life → LifeEvent → Type 0
IsAllowed life (Stored batch) = life.pending ≡ None
IsAllowed life (Kept batch) = life.pending ≡ None
IsAllowed life (Failed batch) = life.pending ≡ None
IsAllowed life (Reopened stands) = ⊤

-- a journal, and behind it a batch that is pending where that stands there
abbrev pub with_pending : Option Batch → Bool → List Batch → List Batch
with_pending None stands journal = journal
with_pending (Some batch) stands journal = if stands then journal ++ batch ∷ [] else journal

-- what an event does
abbrev pub after : Life → LifeEvent → Life
after life (Stored batch) = record life {
  journal = life.journal ++ batch ∷ [];
  acknowledged = life.acknowledged ++ batch ∷ [];
}
after life (Kept batch) = record life { journal = life.journal ++ batch ∷ [] }
after life (Failed batch) = record life { pending = Some batch }
after life (Reopened stands) = record life {
  journal = with_pending life.pending stands life.journal;
  pending = None;
}

-- ---- lives

-- the life after events, one after another
abbrev pub run : Life → List LifeEvent → Life
run life [] = life
run life (event ∷ events) = run (after life event) events

-- each event is allowed where its turn comes
abbrev pub AreAllowed : Life → List LifeEvent → Type 0
AreAllowed life [] = ⊤
AreAllowed life (event ∷ events) = IsAllowed life event × AreAllowed (after life event) events

-- the batches stand in the journal in their order, none before this place of it, from 0
abbrev pub StandFrom : ℕ → List Batch → List Batch → Type 0
StandFrom least journal [] = ⊤
StandFrom least journal (batch ∷ batches) =
    (place : ℕ) × (least ≤ place) × (slice_get journal place ≡ Some batch)
    × StandFrom (place + 1) journal batches
