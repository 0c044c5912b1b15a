-- The calls of an index as events of a timeline.
use Rattle.std.proofs.Common.{◌≡◌, ℕ, zero, suc, ◌≤◌, List, [], ◌∷◌, ◌++◌, length, take, replicate, slice_get, slice_set, Some, refl, sym, ap, ◌∙◌, arith}
use Rattle.std.proofs.lemmas.List.{map-append, length-replicate}
use Rattle.std.proofs.lemmas.List.Elements.{All-replicate}
use Rattle.std.proofs.Math.Seq.{take-append_seam}
use Rattle.explorer_model.specs.declared.archive.Batch.{Batch}
use Rattle.explorer_model.specs.Spans.{Span}
use Rattle.explorer_model.specs.Timeline.{IsPrefix, IsStart, Put, Join, Enter, Learn, after, both, joined_at, longer, seen_by, span_behind}
use Rattle.segment_blocks.specs.Segment.{CountedSpan}
use Rattle.published_index.specs.Cover.{IsList, spans_of, journal_of}
use Rattle.published_index.specs.Changes.{AddOf, JoinAt, CanAdd, CanJoin}
use Rattle.published_index.specs.States.{Publishing, Watching}
use Rattle.published_index.specs.Calls.{Publishes, Sees, Learns}
use Rattle.published_index.specs.Events.{timeline}
use Rattle.published_index.proofs.CoverLemmas.{joined, joined-is, two-at, spans-at}

pub start-is : (list : List CountedSpan) (readers : ℕ) → IsList list → 1 ≤ readers → readers ≤ 64
    → IsStart (timeline list (replicate readers (journal_of list)))
start-is list readers is some few = record {
  covered = is.covers;
  seen = All-replicate (λ (seen : List Batch). seen ≡ journal_of list) readers (journal_of list) refl;
  some = omega (arith, length-replicate readers (journal_of list));
  few = omega (arith, length-replicate readers (journal_of list));
}

pub put-is : (old new : Publishing) (segment : CountedSpan) (note : List Batch) (batch : Batch) (passes : List (List Batch)) → CanAdd old.list segment
    → segment.span.batches ≡ batch ∷ [] → Publishes old new (AddOf segment) note
    → timeline new.list passes ≡ after (timeline old.list passes) (Put batch)
put-is old new segment note batch passes can one put =
    let journal : journal_of new.list ≡ journal_of old.list ++ (batch ∷ []) = put.journal ∙ ap (λ (batches : List Batch). journal_of old.list ++ batches) one in
    let span : segment.span ≡ span_behind (journal_of old.list) batch = λ i. record { first = can.starts i; batches = one i } in
    let cover : spans_of new.list ≡ spans_of old.list ++ (span_behind (journal_of old.list) batch ∷ []) =
    ap spans_of put.list ∙ map-append (λ (s : CountedSpan). s.span) old.list (segment ∷ []) ∙ ap (λ (s : Span). spans_of old.list ++ (s ∷ [])) span in
    λ i. record { journal = journal i; cover = cover i; passes = passes }

spans-joined : (list : List CountedSpan) (at : ℕ) (segment left right : CountedSpan) → slice_get list at ≡ Some left
    → slice_get list (suc at) ≡ Some right → segment.span ≡ both left.span right.span → spans_of (joined list at segment) ≡ joined_at (spans_of list) at
spans-joined [] at segment left right here next is = absurd cc
spans-joined (x ∷ []) zero segment left right here next is = absurd cc
spans-joined (x ∷ []) (suc at) segment left right here next is = absurd cc
spans-joined (x ∷ y ∷ list) zero segment left right here next is =
    let is-left : left ≡ x = cc in
    let is-right : right ≡ y = cc in
    let span : segment.span ≡ both x.span y.span =
    is ∙ ap (λ (s : CountedSpan). both s.span right.span) is-left ∙ ap (λ (s : CountedSpan). both x.span s.span) is-right in
    ap (λ (s : Span). s ∷ spans_of list) span
spans-joined (x ∷ y ∷ list) (suc at) segment left right here next is =
    ap (λ (spans : List Span). x.span ∷ spans) (spans-joined (y ∷ list) at segment left right here next is)

pub join-is : (old new : Publishing) (at : ℕ) (segment : CountedSpan) (note : List Batch) (passes : List (List Batch)) → CanJoin old.list at segment
    → Publishes old new (JoinAt at segment) note → timeline new.list passes ≡ after (timeline old.list passes) (Join at)
join-is old new at segment note passes can join =
    let two = two-at old.list at (omega (arith, can.pair)) in
    let span : segment.span ≡ both two.0.span two.1.span = spans-at old.list at segment two.0 two.1 can two.2 two.3 in
    let cover : spans_of new.list ≡ joined_at (spans_of old.list) at =
    ap spans_of (join.list ∙ sym (joined-is old.list at segment)) ∙ spans-joined old.list at segment two.0 two.1 two.2 two.3 span in
    λ i. record { journal = join.journal i; cover = cover i; passes = passes }

pub enter-is : (old new : Watching) (list : List CountedSpan) (passes : List (List Batch)) (pass : ℕ) → Sees old new list
    → timeline list (slice_set passes pass new.seen) ≡ after (timeline list passes) (Enter pass)
enter-is old new list passes pass sees = ap (λ (seen : List Batch). timeline list (slice_set passes pass seen)) sees.journal

pub learn-is : (old new : Watching) (note : List Batch) (list : List CountedSpan) (passes : List (List Batch)) (pass : ℕ) → IsPrefix note (journal_of list)
    → seen_by pass (timeline list passes) ≡ old.seen → Learns old new note
    → timeline list (slice_set passes pass new.seen) ≡ after (timeline list passes) (Learn pass (length note))
learn-is old new note list passes pass prefix had learns =
    let first : note ≡ take (length note) (journal_of list) =
    sym (take-append_seam note prefix.rest) ∙ ap (λ (journal : List Batch). take (length note) journal) (sym prefix.is) in
    let seen : new.seen ≡ longer (seen_by pass (timeline list passes)) (take (length note) (journal_of list)) =
    learns.seen ∙ ap (λ (s : List Batch). longer s note) (sym had) ∙ ap (λ (n : List Batch). longer (seen_by pass (timeline list passes)) n) first in
    ap (λ (s : List Batch). timeline list (slice_set passes pass s)) seen
