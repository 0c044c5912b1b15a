-- How long a list is while it is drained.
use Rattle.std.proofs.Common.{◌≡◌, ℕ, ◌+◌, ◌≤◌, List, [], ◌∷◌, length, take, drop, Option, None, Some, ap, ◌∙◌, arith, length-append, length-drop}
use Rattle.std.proofs.lemmas.List.{length-take}
use Rattle.segment_blocks.specs.Segment.{CountedSpan}
use Rattle.published_index.specs.Changes.{AddOf, Change, JoinAt, with_change}
use Rattle.published_index.specs.States.{IsPublishing, Publishing}
use Rattle.ingest_desk.specs.Installs.{caught_up, list_by}
use Rattle.ingest_desk.specs.Listing.{JoinsPicked}
use Rattle.ingest_desk.specs.Stored.{Stored}
use Rattle.ingest_desk.proofs.KeptLemmas.{not_behind}
use Rattle.import_run.specs.declared.draining.DrainEnd.{DrainEnd}
use Rattle.import_run.specs.declared.draining.DrainEnd.TheVariants.{Idle, Gone, OutOfMemory}
use Rattle.import_run.specs.declared.merging.Merging.TheVariants.{Left}
use Rattle.import_run.specs.Alone.{AnswersDrained}
use Rattle.import_run.specs.Upkeep.{Merges}
use Rattle.import_run.proofs.FollowedLists.{joins_length}

few_changed : (list : List CountedSpan) (change : Change) → length list ≤ 64 → length (with_change list change) ≤ 65
few_changed list (AddOf segment) few = omega (arith, few, length-append list (segment ∷ []))
few_changed list (JoinAt at segment) few =
    omega (arith, few, length-append (take at list) (segment ∷ drop (at + 2) list), length-take at list, length-drop (at + 2) list)

few_caught_up : (list : List CountedSpan) (held : Option Change) → length list ≤ 64 → length (caught_up list held) ≤ 65
few_caught_up list None few = omega (arith, few)
few_caught_up list (Some change) few = few_changed list change few

pub few_by : (index : Publishing) → IsPublishing index → length (list_by index) ≤ 65
few_by index is = few_caught_up index.list index.held is.list.few

-- a job makes the list one shorter
pub one_shorter : (old new : Publishing) → JoinsPicked (list_by old) new.list → new.held ≡ None → length (list_by new) + 1 ≡ length (list_by old)
one_shorter old new joins none = omega (arith, ap length (not_behind new none), joins_length (list_by old) new.list joins)

-- what is left behind so many jobs
pub drains_by : {D : Type 0} (end : DrainEnd) (jobs : ℕ) (first old new : Stored D) → jobs + length (list_by old.index) ≡ length (list_by first.index) → Merges (Left end) old.index new.index
    → AnswersDrained end jobs first new
drains_by Idle jobs first old new counted merges =
    let list : new.index.list ≡ list_by old.index = ap (λ (p : Publishing). p.list) merges.0 in
    (ap (λ (p : Publishing). p.held) merges.0, merges.1, ap (λ (l : List CountedSpan). jobs + length l) list ∙ counted)
drains_by Gone jobs first old new counted merges = merges
drains_by OutOfMemory jobs first old new counted merges = omega (arith, counted)
