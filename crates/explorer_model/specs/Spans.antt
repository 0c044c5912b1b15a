-- Statement: spans of a journal: its batches in runs that stand one after another, and what covers
-- the whole.
use Rattle.std.specs.Prelude.{◌≡◌, ⊤, ℕ, ◌+◌, List, [], ◌∷◌, length}
use Rattle.std.specs.List.{flat_map}
use Rattle.explorer_model.specs.declared.archive.Batch.{Batch}

-- batches that stand one after another in a journal, behind `first` others
pub record Span : Type 0 where
  pub first : ℕ
  pub batches : List Batch

-- each span begins where the one before it ends
abbrev pub Adjoin : ℕ → List Span → Type 0
Adjoin first [] = ⊤
Adjoin first (span ∷ spans) = (span.first ≡ first) × Adjoin (first + length span.batches) spans

-- the batches of spans, in order
abbrev pub batches_of : List Span → List Batch
batches_of spans = flat_map (λ span. span.batches) spans

-- the spans stand one after another, and together they have the whole journal
pub record Covers (spans : List Span) (journal : List Batch) : Type 0 where
  pub adjoin : Adjoin 0 spans
  pub whole : batches_of spans ≡ journal
