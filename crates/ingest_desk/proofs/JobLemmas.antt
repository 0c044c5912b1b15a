-- Where the batches of spans stand in a journal, and what jobs and installs are known by.
use Rattle.std.proofs.Common.{◌≡◌, ◌↔◌, Bool, IsTrue, nat_eq, true, false, true≢false, ◌<◌, ◌≤◌, ◌+◌, ◌-◌, ℕ, zero, suc, List, [], ◌∷◌, ◌++◌, length, take, drop, Option, None, Some, Result, Ok, Err, refl, sym, ap, ◌∙◌, subst, arith}
use Rattle.std.proofs.lemmas.Bool.Decides.{nat_tests}
use Rattle.std.proofs.lemmas.List.{length-take-le}
use Rattle.std.proofs.lemmas.Option.{same_Some, slice_get_within}
use Rattle.std.specs.Prelude.{IfOk, IfSome, MatchOption, slice_get}
use Rattle.plain_laws.specs.Lists.{get-behind, get-front, get-nil}
use Rattle.explorer_model.specs.declared.archive.Batch.{Batch}
use Rattle.explorer_model.specs.Journal.{IsSound}
use Rattle.explorer_model.specs.Spans.{Adjoin, Span}
use Rattle.explorer_model.specs.Timeline.{IsPrefix}
use Rattle.segment_blocks.specs.Segment.{CountedSpan}
use Rattle.published_index.specs.Changes.{JoinAt, with_change}
use Rattle.published_index.specs.Cover.{IsList, journal_of, spans_of}
use Rattle.published_index.specs.States.{IsPublishing, Publishing, journal_by}
use Rattle.ingest_desk.specs.Installs.{Installs, IsInstalled, list_by}
use Rattle.ingest_desk.specs.Jobs.{AreOfOneJournal, AreToJoin, Neighbours, StandsIn}
use Rattle.ingest_desk.specs.Picking.{AreAt, HasNoneDue, IsPicked}
use Rattle.ingest_desk.specs.declared.fault.InstallFault.{InstallFault}
use Rattle.ingest_desk.proofs.InstallLemmas.{begins_behind}
use Rattle.ingest_desk.proofs.KeptLemmas.{listed}
use Rattle.ingest_desk.proofs.PickingLemmas.{span_same}

-- ---- items of two lists one behind the other

get_some : {X : Type 0} (xs : List X) (k : ℕ) → k < length xs → (x : X) × (slice_get xs k ≡ Some x)
get_some [] k lt = absurd (omega (arith, lt))
get_some (x ∷ xs) zero lt = (x, refl)
get_some (x ∷ xs) (suc k) lt = get_some xs k (omega (arith, lt))

-- ---- the spans of a list

-- so many batches behind the first one of the list
stands_from : (list : List CountedSpan) (first at offset : ℕ) (segment : CountedSpan)
    → Adjoin first (spans_of list) → slice_get list at ≡ Some segment
    → segment.span.first ≡ first + offset → (k : ℕ) → k < length segment.span.batches
    → slice_get segment.span.batches k ≡ slice_get (journal_of list) (offset + k)
stands_from [] first at offset segment adjoin is place k lt = get-nil segment _ is
stands_from (x ∷ list) first zero offset segment adjoin is place k lt =
    let same = same_Some x segment is in
    let begins : x.span.first ≡ segment.span.first = ap (λ (s : CountedSpan). s.span.first) same in
    let batches : x.span.batches ≡ segment.span.batches = ap (λ (s : CountedSpan). s.span.batches) same in
    let here : k ≡ offset + k = omega (arith, begins, place, adjoin.0) in
    let inside : k < length x.span.batches = omega (arith, lt, ap length batches) in
    sym (ap (λ (l : List Batch). slice_get l k) batches)
    ∙ sym (get-front x.span.batches (journal_of list) k inside)
    ∙ ap (slice_get (x.span.batches ++ journal_of list)) here
stands_from (x ∷ list) first (suc at) offset segment adjoin is place k lt =
    let size = length x.span.batches in
    let behind = begins_behind list (first + size) at segment adjoin.1 is in
    let rest : segment.span.first ≡ first + size + (offset - size) = omega (arith, behind, place) in
    let next : offset + k ≡ size + (offset - size + k) = omega (arith, behind, place) in
    stands_from list (first + size) at (offset - size) segment adjoin.1 is rest k lt
    ∙ sym (get-behind x.span.batches (journal_of list) (offset - size + k) (offset + k) next)

stands_at : (list : List CountedSpan) (at : ℕ) (segment : CountedSpan) → IsList list
    → slice_get list at ≡ Some segment → StandsIn (journal_of list) segment.span
stands_at list at segment is here k lt =
    stands_from list 0 at segment.span.first segment is.covers.adjoin here (omega arith) k lt

-- the journal of a list has the batches of neighbours of the list
pub both_stand : (list : List CountedSpan) (at : ℕ) (left right : CountedSpan) → IsList list
    → AreAt list at left right
    → StandsIn (journal_of list) left.span × StandsIn (journal_of list) right.span
both_stand list at left right is stand = (
  stands_at list at left is stand.left_is,
  stands_at list (at + 1) right is stand.right_is,
)

-- ---- journals that grow

get_longer : (front whole : List Batch) (k : ℕ) → IsPrefix front whole → k < length front
    → slice_get front k ≡ slice_get whole k
get_longer front whole k begins lt =
    sym (get-front front begins.rest k lt) ∙ sym (ap (λ (l : List Batch). slice_get l k) begins.is)

within : (journal : List Batch) (batches : List Batch) (k at : ℕ) → k < length batches
    → slice_get batches k ≡ slice_get journal at → at < length journal
within journal batches k at lt same =
    let found = get_some batches k lt in
    slice_get_within journal at found.0 (sym same ∙ found.1)

pub stands_longer : (front whole : List Batch) (span : Span) → IsPrefix front whole
    → StandsIn front span → StandsIn whole span
stands_longer front whole span begins stands k lt =
    let same = stands k lt in
    same
    ∙ get_longer front whole (span.first + k) begins
    (within front span.batches k (span.first + k) lt same)

-- ---- spans of one journal

-- where they begin at one place and have as many batches, they are the same
pub one_of_journal : (a b : Span) → AreOfOneJournal a b → a.first ≡ b.first
    → length a.batches ≡ length b.batches → a ≡ b
one_of_journal a b of first long =
    span_same a b first long
    (λ k lt.
    of.one_stands k lt
    ∙ ap (λ (n : ℕ). slice_get of.journal (n + k)) first
    ∙ sym (of.other_stands k (omega (arith, lt, long))))

pub where_same_span : (a b : Span) (m n : ℕ) → AreOfOneJournal a b → a.first ≡ b.first
    → m ≡ length a.batches → n ≡ length b.batches → IsTrue (nat_eq m n) ↔ (a ≡ b)
where_same_span a b m n of first m_is n_is = (same (nat_eq m n) refl, is_one (nat_eq m n) refl)
  where
    same : (test : Bool) → nat_eq m n ≡ test → IsTrue test → a ≡ b
    same true is h =
        let counts : m ≡ n = grind (arith, nat_tests) in
        one_of_journal a b of first (omega (arith, counts, m_is, n_is))
    same false is h = absurd (true≢false (sym h))

    is_one : (test : Bool) → nat_eq m n ≡ test → a ≡ b → IsTrue test
    is_one true is h = refl
    is_one false is h =
        let counts : m ≡ n = m_is ∙ ap (λ (s : Span). length s.batches) h ∙ sym n_is in
        absurd (grind (arith, nat_tests))

-- ---- at a desk

to_join : (list : List CountedSpan) (found : Option Neighbours)
    → MatchOption found (HasNoneDue list) (λ job. IsPicked list job.left job.right)
    → IfSome found (λ job. AreToJoin job.left job.right)
to_join list None none = tt
to_join list (Some job) picked = record { due = picked.due; join = picked.join }

-- what was picked is to become one
pub found_to_join : {E : Type 0} (list : List CountedSpan) (result : Result (Option Neighbours) E)
    → IfOk result (λ found. MatchOption found (HasNoneDue list)
    (λ job. IsPicked list job.left job.right))
    → IfOk result (λ found. IfSome found (λ job. AreToJoin job.left job.right))
found_to_join list (Ok found) picks = to_join list found picks
found_to_join list (Err e) picks = tt

joined_there : (list : List CountedSpan) (at : ℕ) (segment : CountedSpan) → at ≤ length list
    → slice_get (with_change list (JoinAt at segment)) at ≡ Some segment
joined_there list at segment inside =
    get-behind (take at list) (segment ∷ drop (at + 2) list) 0 at
    (omega (arith, length-take-le at list inside))

module _ (left right : Span) (merged : CountedSpan) (old new : Publishing)
    (is : IsPublishing new) where
  note_stands : (note : List Batch) → IsInstalled left right merged (list_by old) new note
      → StandsIn note merged.span
  note_stands note installed =
      let list = list_by old in
      let stood = installed.stood in
      let behind = slice_get_within list (installed.at + 1) stood.second stood.stand.right_is in
      let there = joined_there list installed.at merged (omega (arith, behind)) in
      let here : slice_get new.list installed.at ≡ Some merged =
      ap (λ (l : List CountedSpan). slice_get l installed.at) installed.list_is ∙ there in
      subst (λ (j : List Batch). StandsIn j merged.span) (sym installed.told)
      (stands_at new.list installed.at merged is.list here)

  -- the note of an install has the segment's batches
  pub installed_stands : (result : Result (List Batch) InstallFault)
      → Installs left right merged old new result → IfOk result (λ note. StandsIn note merged.span)
  installed_stands (Ok note) installs = note_stands note installs
  installed_stands (Err fault) installs = tt

  -- it is the whole journal
  pub installed_sound : IsSound (journal_by new) → (result : Result (List Batch) InstallFault)
      → Installs left right merged old new result → IfOk result (λ note. IsSound note)
  installed_sound sound (Ok note) installs =
      subst IsSound (listed new installs.none_held ∙ sym installs.told) sound
  installed_sound sound (Err fault) installs = tt
