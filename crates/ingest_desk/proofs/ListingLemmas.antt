-- What a commit does to the published list.
use Rattle.std.proofs.Common.{◌≡◌, ◌≤◌, ◌<◌, ◌+◌, ℕ, Bool, true, false, List, ◌∷◌, ◌++◌, length, take, drop, Result, Ok, Err, refl, sym, ap, ◌∙◌, subst, arith}
use Rattle.std.proofs.lemmas.Bool.Decides.{nat_tests}
use Rattle.std.proofs.lemmas.List.{map-append}
use Rattle.std.specs.Prelude.{nat_lt}
use Rattle.explorer_model.specs.Spans.{Span}
use Rattle.explorer_model.specs.Timeline.{both}
use Rattle.segment_blocks.specs.Segment.{CountedSpan}
use Rattle.segment_merge.specs.Merging.{IsMergeOf}
use Rattle.published_index.specs.Changes.{JoinAt, with_change}
use Rattle.published_index.specs.Cover.{list_limit, spans_of}
use Rattle.ingest_desk.specs.Listing.{JoinsPicked, MakesRoom}
use Rattle.ingest_desk.specs.Picking.{IsLastDue, NoneDueFrom}
use Rattle.ingest_desk.proofs.PickingLemmas.{CanMerge, is_picked, one_picked, same_place}

-- a full list gets room by the join of the last neighbours that are to become one
pub room_by_join : (items list new : List CountedSpan) (at : ℕ) (left right joined : CountedSpan)
    → items ≡ list → IsLastDue items at → CanMerge list at left right → list_limit ≤ length list
    → IsMergeOf left right joined → new ≡ with_change list (JoinAt at joined)
    → MakesRoom list new
room_by_join items list new at left right joined are due can full merged list_is = record {
  has_room = λ few. absurd (omega (arith, few, full));
  is_full = λ _. record {
    left = left;
    right = right;
    picked = record {
      at = at;
      stand = can.stand;
      due = (is_picked items list at left right are due can).due;
      last = subst (NoneDueFrom (at + 1)) are due.last;
      join = can.join;
    };
    joined = joined;
    merged = merged;
    list_is = list_is;
  };
}

-- ---- a list gets room in one way

spans_joined : (list : List CountedSpan) (at : ℕ) (joined : CountedSpan)
    → spans_of (with_change list (JoinAt at joined))
    ≡ spans_of (take at list) ++ joined.span ∷ spans_of (drop (at + 2) list)
spans_joined list at joined =
    map-append (λ (s : CountedSpan). s.span) (take at list) (joined ∷ drop (at + 2) list)

one_join : (list first second : List CountedSpan) → JoinsPicked list first
    → JoinsPicked list second → spans_of first ≡ spans_of second
one_join list first second a b =
    let one = one_picked list a.left a.right b.left b.right a.picked b.picked in
    let place = same_place list a.left a.right b.left b.right a.picked b.picked in
    let span : a.joined.span ≡ b.joined.span =
    a.merged.span
    ∙ ap (λ (s : CountedSpan). both s.span a.right.span) one.0
    ∙ ap (λ (s : CountedSpan). both b.left.span s.span) one.1
    ∙ sym b.merged.span in
    ap spans_of a.list_is
    ∙ spans_joined list a.picked.at a.joined
    ∙ ap (λ (s : Span). spans_of (take a.picked.at list) ++ s ∷ spans_of (drop (a.picked.at + 2) list)) span
    ∙ ap (λ (n : ℕ). spans_of (take n list) ++ b.joined.span ∷ spans_of (drop (n + 2) list)) place
    ∙ sym (spans_joined list b.picked.at b.joined)
    ∙ sym (ap spans_of b.list_is)

pub one_room : (list first second : List CountedSpan) → MakesRoom list first
    → MakesRoom list second → spans_of first ≡ spans_of second
one_room list first second a b = by (nat_lt (length list) list_limit) refl
  where
    by : (few : Bool) → nat_lt (length list) list_limit ≡ few → spans_of first ≡ spans_of second
    by true is =
        let few : length list < list_limit = grind (arith, nat_tests) in
        ap spans_of (a.has_room few ∙ sym (b.has_room few))
    by false is =
        let full : list_limit ≤ length list = grind (arith, nat_tests) in
        one_join list first second (a.is_full full) (b.is_full full)
