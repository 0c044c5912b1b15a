-- What the answers of calls imply.
use Rattle.std.proofs.Common.{◌≡◌, List, refl, ap, ◌∙◌, Option, None, Some, Ok}
use Rattle.explorer_model.specs.declared.archive.Batch.{Batch}
use Rattle.published_index.specs.States.{Publishing}
use Rattle.published_index.specs.Changes.{Change}
use Rattle.published_index.specs.Calls.{Retries}

settled : (E : Type 0) (old new : Publishing) (held : Option Change) (told : Option (List Batch)) → old.held ≡ held → Retries {E = E} old new held (Ok told) → new.held ≡ None
settled E old new None told is retried = ap (λ (p : Publishing). p.held) retried.1 ∙ is
settled E old new (Some change) None is retried = absurd retried
settled E old new (Some change) (Some note) is retried = retried.none_held

-- after a `retry` that is not refused nothing is held
pub retry-settles : (E : Type 0) (old new : Publishing) (told : Option (List Batch)) → Retries {E = E} old new old.held (Ok told) → new.held ≡ None
retry-settles E old new told retried = settled E old new old.held told refl retried
