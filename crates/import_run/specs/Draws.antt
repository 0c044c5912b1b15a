-- Bridge: what the drawer of an import has drawn on its way, by what its steps answer.
use Rattle.std.specs.Prelude.{◌≡◌, ◌≤◌, ◌-◌, ℕ, true, List, length, Option, None, Some, Result, Ok, Err}
use Rattle.explorer_model.specs.declared.fault.Stop.{Stop}
use Rattle.explorer_model.specs.declared.fault.Stop.TheVariants as stops
use Rattle.published_index.specs.Places.{Drawing, with_place, with_places}
use Rattle.ingest_desk.specs.declared.fault.CommitFault.{CommitFault}
use Rattle.ingest_desk.specs.declared.fault.CommitFault.TheVariants as faults
use Rattle.ingest_desk.specs.declared.receipt.Receipt.{Receipt}

-- A commit draws the place of its receipt. Where the batch is stored and has no receipt it draws some
-- place, and else nothing.
abbrev pub DrawsPlace : {J : Type 0} → Result (Receipt J) (CommitFault J) → Drawing → Drawing → Type 0
DrawsPlace (Ok receipt) old new = new ≡ with_place (receipt.batches - 1) old
DrawsPlace (Err (faults.OutOfMemory true)) old new = (place : ℕ) × (new ≡ with_place place old)
DrawsPlace (Err _) old new = new ≡ old

-- so many places at the most were drawn
pub record DrawsFew (most : ℕ) (old new : Drawing) : Type 0 where
  pub places : List ℕ
  pub few : length places ≤ most
  pub drawn : new ≡ with_places places old

-- a group draws what its commit draws, if it has one
abbrev pub DrawsAsAnswered : {J : Type 0} → Option (Result (Receipt J) (CommitFault J))
    → Drawing → Drawing → Type 0
DrawsAsAnswered None old new = new ≡ old
DrawsAsAnswered (Some answer) old new = DrawsPlace answer old new

-- how many batches a step may have stored without a receipt: one, where memory was wanting
abbrev pub most_untold_by : {A B : Type 0} → Result A (Stop B) → ℕ
most_untold_by (Err stops.OutOfMemory) = 1
most_untold_by _ = 0
