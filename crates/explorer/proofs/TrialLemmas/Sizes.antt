-- How many games segments have, as neighbours become one and batches come behind them.
use Rattle.std.proofs.Common.{◌≡◌, inl, inr, ◌+◌, ◌*◌, ◌≤◌, ℕ, zero, suc, List, [], ◌∷◌, ◌++◌, length, take, drop, Option, None, Some, refl, sym, ap, subst, ◌∙◌, arith, length-append, append-nil}
use Rattle.std.specs.Prelude.{slice_get}
use Rattle.std.proofs.lemmas.List.{length-map, map-append}
use Rattle.std.proofs.lemmas.Option.{same_Some}
use Rattle.explorer_model.specs.declared.archive.Batch.{Batch}
use Rattle.explorer_model.specs.Visits.{texts_of}
use Rattle.segment_blocks.specs.Segment.{CountedSpan}
use Rattle.ingest_desk.specs.Listing.{JoinsPicked, MakesRoom, PutsBehind}
use Rattle.ingest_desk.specs.Picking.{AreAt, HasNoneDue, NoneDueFrom}
use Rattle.ingest_desk.proofs.PickingLemmas.{at_cons, at_tail, games_of}
use Rattle.import_run.specs.Upkeep.{FollowsAll, IsMerged}
use Rattle.explorer.specs.Trial.Segments.{AreApart, GetsRoom, GoAllBehind, IsApart, JoinsIfDue, JoinsLast}
use Rattle.explorer.specs.Trial.{batch_sizes, segment_sizes}

-- ---- neighbours

none_some : (segment : CountedSpan) → Path (Option CountedSpan) None (Some segment) → ⊥
none_some segment e = cc

-- the list, cut before neighbours and behind them
split_at : (list : List CountedSpan) (at : ℕ) (left right : CountedSpan) → AreAt list at left right
    → list ≡ take at list ++ left ∷ right ∷ drop (suc (suc at)) list
split_at [] at left right stand = absurd (none_some left stand.left_is)
split_at (first ∷ []) zero left right stand = absurd (none_some right stand.right_is)
split_at (first ∷ second ∷ list) zero left right stand =
    let l = same_Some first left stand.left_is in
    let r = same_Some second right stand.right_is in
    λ i. l i ∷ r i ∷ list
split_at (first ∷ list) (suc at) left right stand =
    ap (λ (l : List CountedSpan). first ∷ l) (split_at list at left right (at_tail first list at left right stand))

-- what stands from a place on begins with what stands there
drop_at : (list : List CountedSpan) (at : ℕ) (segment : CountedSpan) → slice_get list at ≡ Some segment
    → drop at list ≡ segment ∷ drop (suc at) list
drop_at [] at segment is = absurd (none_some segment is)
drop_at (first ∷ list) zero segment is = ap (λ (s : CountedSpan). s ∷ list) (same_Some first segment is)
drop_at (first ∷ list) (suc at) segment is = drop_at list at segment is

tail_none : (first : CountedSpan) (list : List CountedSpan) (from : ℕ) → NoneDueFrom (suc from) (first ∷ list) → NoneDueFrom from list
tail_none first list from none = λ at left right least stand.
    none (suc at) left right (omega (arith, least)) (at_cons first list at left right stand)

all_none : (first : CountedSpan) (list : List CountedSpan) → NoneDueFrom 0 (first ∷ list) → NoneDueFrom 0 list
all_none first list none = λ at left right least stand.
    none (suc at) left right (omega arith) (at_cons first list at left right stand)

first_apart : (first : CountedSpan) (list : List CountedSpan) → NoneDueFrom 0 (first ∷ list) → IsApart (length first.classes) (segment_sizes list)
first_apart first [] none = tt
first_apart first (next ∷ list) none =
    let not_due : length first.classes ≤ 2 * length next.classes → ⊥ =
    none 0 first next (omega arith) (record { left_is = refl; right_is = refl }) in
    omega (arith, not_due)

apart_all : (list : List CountedSpan) → NoneDueFrom 0 list → AreApart (segment_sizes list)
apart_all [] none = tt
apart_all (first ∷ list) none = (first_apart first list none, apart_all list (all_none first list none))

apart_from : (from : ℕ) (list : List CountedSpan) → NoneDueFrom from list → AreApart (segment_sizes (drop from list))
apart_from zero list none = apart_all list none
apart_from (suc from) [] none = tt
apart_from (suc from) (first ∷ list) none = apart_from from list (tail_none first list from none)

pub sizes_apart : (list : List CountedSpan) → HasNoneDue list → AreApart (segment_sizes list)
sizes_apart list due = apart_all list due.none

-- ---- joins

sizes_append : (list more : List CountedSpan) → segment_sizes (list ++ more) ≡ segment_sizes list ++ segment_sizes more
sizes_append list more = map-append (λ (s : CountedSpan). length s.classes) list more

pub sizes_join : (list new : List CountedSpan) → JoinsPicked list new → JoinsLast (segment_sizes list) (segment_sizes new)
sizes_join list new joins =
    let at = joins.picked.at in
    let right_place : at + 1 ≡ suc at = omega arith in
    let place : at + 2 ≡ suc (suc at) = omega arith in
    let later = drop (suc (suc at)) list in
    let games : length joins.joined.classes ≡ length joins.left.classes + length joins.right.classes =
    ap length joins.merged.classes ∙ length-append joins.left.classes joins.right.classes in
    let there : slice_get list (suc at) ≡ Some joins.right = ap (slice_get list) (sym right_place) ∙ joins.picked.stand.right_is in
    let none : NoneDueFrom (suc at) list = subst (λ (n : ℕ). NoneDueFrom n list) right_place joins.picked.last in
    record {
      earlier = segment_sizes (take at list);
      left = length joins.left.classes;
      right = length joins.right.classes;
      later = segment_sizes later;
      sizes_are = ap segment_sizes (split_at list at joins.left joins.right joins.picked.stand)
          ∙ sizes_append (take at list) (joins.left ∷ joins.right ∷ later);
      due = joins.picked.due;
      last = subst (λ (l : List CountedSpan). AreApart (segment_sizes l)) (drop_at list (suc at) joins.right there) (apart_from (suc at) list none);
      new_are = ap segment_sizes joins.list_is
          ∙ sizes_append (take at list) (joins.joined ∷ drop (at + 2) list)
          ∙ (λ i. segment_sizes (take at list) ++ games i ∷ segment_sizes (drop (place i) list));
    }

sizes_merge : (list new : List CountedSpan) → IsMerged list new → JoinsIfDue (segment_sizes list) (segment_sizes new)
sizes_merge list new (inl none) = inl (sizes_apart list none.0, ap segment_sizes none.1)
sizes_merge list new (inr joins) = inr (sizes_join list new joins)

-- ---- batches

sizes_room : (list new : List CountedSpan) → MakesRoom list new → GetsRoom (segment_sizes list) (segment_sizes new)
sizes_room list new room =
    let long : length (segment_sizes list) ≡ length list = length-map list (λ (s : CountedSpan). length s.classes) in
    record {
      has_room = λ few. ap segment_sizes (room.has_room (omega (arith, few, long)));
      is_full = λ full. sizes_join list new (room.is_full (omega (arith, full, long)));
    }

sizes_put : (batch : Batch) (list new : List CountedSpan) → PutsBehind batch list new → segment_sizes new ≡ segment_sizes list ++ length batch.texts ∷ []
sizes_put batch list new puts =
    let games : length puts.segment.classes ≡ length batch.texts =
    games_of puts.segment puts.counts ∙ ap (λ (bs : List Batch). length (texts_of bs)) puts.batch_is ∙ ap length (append-nil batch.texts) in
    ap segment_sizes puts.list_is ∙ sizes_append list (puts.segment ∷ []) ∙ ap (λ (n : ℕ). segment_sizes list ++ n ∷ []) games

pub sizes_behind : (batches : List Batch) (list new : List CountedSpan) → FollowsAll batches list new → GoAllBehind (batch_sizes batches) (segment_sizes list) (segment_sizes new)
sizes_behind [] list new same = ap segment_sizes same
sizes_behind (batch ∷ batches) list new (next, follows, rest) = (
  segment_sizes next,
  record {
    roomy = segment_sizes follows.roomy;
    room = sizes_room list follows.roomy follows.room;
    joins = subst (λ (l : List ℕ). JoinsIfDue l (segment_sizes next)) (sizes_put batch follows.roomy follows.longer follows.puts) (sizes_merge follows.longer next follows.merged);
  },
  sizes_behind batches next new rest,
)
