-- Statement: the places that an import draws.
use Rattle.std.specs.Prelude.{◌≡◌, ◌≤◌, ◌-◌, ℕ, List, ◌++◌, length, map}
use Rattle.published_index.specs.Places.{Drawing, with_places}
use Rattle.ingest_desk.specs.declared.receipt.Receipt.{Receipt}
use Rattle.ingest_desk.specs.declared.report.ImportEnding.{ImportEnding}
use Rattle.ingest_desk.specs.declared.report.ImportEnding.TheVariants as endings

-- the places of the receipts' batches in the journal, from 0
abbrev pub receipt_places : {J : Type 0} → List (Receipt J) → List ℕ
receipt_places receipts = map (λ receipt. receipt.batches - 1) receipts

-- The drawer drew the places of the receipts, and behind them so many more at the most, of batches that
-- are stored and have no receipt.
pub record DrawsFor {J : Type 0} (most : ℕ) (receipts : List (Receipt J)) (before after : Drawing)
    : Type 0 where
  pub untold : List ℕ
  pub few : length untold ≤ most
  pub drawn : after ≡ with_places (receipt_places receipts ++ untold) before

-- how many batches an import that ended so may have stored without a receipt: one, where memory was
-- wanting
abbrev pub most_untold : ImportEnding → ℕ
most_untold endings.OutOfMemory = 1
most_untold _ = 0
