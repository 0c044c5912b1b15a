-- What is published by the writer's operations.
use Rattle.std.proofs.Common.{◌≡◌, ℕ, ◌<◌, List, [], ◌∷◌, length, fold, sym, ap, ◌∙◌, subst, arith, ⊎_elim, Option, None, Some}
use Rattle.crossbeam_utils.specs.Register.{TurnsAt}
use Rattle.explorer_model.specs.declared.archive.Batch.{Batch}
use Rattle.explorer_model.specs.Timeline.{IsPrefix}
use Rattle.explorer_model.proofs.Timelines.{prefix-self, prefix-trans}
use Rattle.segment_blocks.specs.Segment.{CountedSpan}
use Rattle.published_index.specs.declared.held.Held.{Held}
use Rattle.published_index.specs.declared.published.Published.{Published}
use Rattle.published_index.specs.declared.published.Operation.{Operation}
use Rattle.published_index.specs.Cover.{journal_of}
use Rattle.published_index.specs.Changes.{Change, AddOf, JoinAt, with_change, with_held, with_put}
use Rattle.published_index.specs.History.{Reached}
use Rattle.published_index.specs.Operations.{change_made, applied}
use Rattle.published_index.specs.Rule.{Begins}
use Rattle.published_index.specs.Held.{held_change, waiting, IsQueued, IsWritten, Waits}
use Rattle.published_index.proofs.PrefixLemmas.{prefix-append}
use Rattle.published_index.proofs.CoverLemmas.{journal-changed}
use Rattle.published_index.proofs.RuleLemmas.{holds, sees, sees-turns, begins-self}

-- both sides of a pair
fst-same : {A B : Type 0} (p q : A × B) → p ≡ q → p.0 ≡ q.0
fst-same p q is = ap (λ x. x.0) is

snd-same : {A B : Type 0} (p q : A × B) → p ≡ q → p.1 ≡ q.1
snd-same p q is = ap (λ x. x.1) is

-- without an operation what is published stays
pub first-turns : (shown : Published) (operations : List Operation) → operations ≡ [] → (next : Published)
    → (next.list, next.front) ≡ fold applied (shown.list, shown.front) operations
    → (seat : ℕ) (seen : Option Reached) → TurnsAt holds seat seen shown next sees
first-turns shown (operation ∷ operations) none next is seat seen = absurd (cc (none))
first-turns shown [] none next is seat seen =
    let list : next.list ≡ shown.list = fst-same (next.list, next.front) (shown.list, shown.front) is in
    let front : next.front ≡ shown.front = snd-same (next.list, next.front) (shown.list, shown.front) is in
    sees-turns seat seen shown next
    (subst (λ (f : Reached). Begins shown.front f) (sym front) (begins-self shown.front))
    (λ tied. ap (λ (f : Reached). f.log) front ∙ tied ∙ ap journal_of (sym list))

prefix-put : (journal : List Batch) (change : Change) → IsPrefix journal (with_put journal change)
prefix-put journal (AddOf segment) = prefix-append journal segment.span.batches
prefix-put journal (JoinAt at segment) = prefix-self journal

-- what is published once an operation is made
pub record IsNext (list : List CountedSpan) (front history : Reached) (operation : Operation) (list' : List CountedSpan) (front' : Reached) : Type 0 where
  pub list_is : list' ≡ with_change list (change_made operation)
  pub front_is : front' ≡ history
  pub journal : journal_of list' ≡ with_put (journal_of list) (change_made operation)
  pub tied : front'.log ≡ journal_of list'

pub next-is : (list : List CountedSpan) (front history : Reached) (operation : Operation) (list' : List CountedSpan) (front' : Reached)
    → IsQueued list front history operation → (list', front') ≡ applied (list, front) operation → IsNext list front history operation list' front'
next-is list front history operation list' front' queued is =
    let list-is : list' ≡ with_change list (change_made operation) = fst-same (list', front') (applied (list, front) operation) is in
    let front-is : front' ≡ history = snd-same (list', front') (applied (list, front) operation) is ∙ queued.front_is in
    let journal : journal_of list' ≡ with_put (journal_of list) (change_made operation) =
    ap journal_of list-is ∙ journal-changed list (change_made operation) queued.may in
    record {
      list_is = list-is;
      front_is = front-is;
      journal = journal;
      tied = ap (λ (f : Reached). f.log) front-is ∙ queued.log ∙ sym journal;
    }

-- the change that waits is published
pub change-turns : (shown : Published) (history : Reached) (operations : List Operation) (seen : Option Reached)
    → IsWritten shown.list shown.front seen history None operations → 0 < length operations → (next : Published)
    → (next.list, next.front) ≡ fold applied (shown.list, shown.front) operations
    → (seat : ℕ) → TurnsAt holds seat seen shown next sees
change-turns shown history [] seen written some next is seat = absurd (omega arith)
change-turns shown history (operation ∷ _ ∷ operations) seen written some next is seat = absurd written.waits
change-turns shown history (operation ∷ []) seen written some next is seat =
    let queued = written.waits in
    let after = next-is shown.list shown.front history operation next.list next.front queued is in
    let log : IsPrefix shown.front.log history.log =
    subst (λ (l : List Batch). IsPrefix shown.front.log l) (sym queued.log)
    (subst (λ (l : List Batch). IsPrefix l (with_put (journal_of shown.list) (change_made operation))) (sym written.tied) (prefix-put (journal_of shown.list) (change_made operation))) in
    sees-turns seat seen shown next
    (subst (λ (f : Reached). Begins shown.front f) (sym after.front_is) (record { book = written.book; log = log }))
    (λ tied. after.tied)

-- ---- what the history has

as-prefix : (xs ys : List Batch) → xs ≡ ys → IsPrefix xs ys
as-prefix xs ys is = subst (λ (l : List Batch). IsPrefix xs l) is (prefix-self xs)

-- the history has what is published, and nothing more but what waits
pub within-journal : (list : List CountedSpan) (front history : Reached) (held : Option Held) (operations : List Operation)
    → Waits list front history held operations → IsPrefix history.log (with_held (journal_of list) (waiting held operations))
within-journal list front history None [] waits = as-prefix history.log (journal_of list) waits
within-journal list front history None (operation ∷ []) waits =
    as-prefix history.log (with_put (journal_of list) (change_made operation)) waits.log
within-journal list front history None (operation ∷ _ ∷ operations) waits = absurd waits
within-journal list front history (Some held) (operation ∷ operations) waits = absurd waits
within-journal list front history (Some held) [] waits =
    let journal = journal_of list in
    let whole = with_put journal (held_change held) in
    ⊎_elim (λ is. prefix-trans history.log journal whole (as-prefix history.log journal is) (prefix-put journal (held_change held)))
    (λ is. as-prefix history.log whole is) waits.log
