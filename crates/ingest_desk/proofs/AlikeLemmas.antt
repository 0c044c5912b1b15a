-- Lists that stand alike come to lists that stand alike.
use Rattle.std.proofs.Common.{◌≡◌, ◌≤◌, ◌<◌, ◌+◌, ℕ, zero, suc, Bool, true, false, List, [], ◌∷◌, ◌++◌, length, map, take, drop, Some, Result, Ok, Err, refl, sym, ap, ◌∙◌, subst, arith}
use Rattle.std.proofs.lemmas.Bool.Decides.{nat_tests}
use Rattle.std.proofs.lemmas.List.Elements.{length_all_zip}
use Rattle.std.specs.Prelude.{nat_lt, slice_get}
use Rattle.std.proofs.lemmas.Option.{same_Some}
use Rattle.plain_laws.specs.Lists.{get-nil}
use Rattle.explorer_model.specs.declared.archive.Batch.{Batch}
use Rattle.explorer_model.specs.declared.archive.Classes.{Classes}
use Rattle.explorer_model.specs.Spans.{Span, batches_of}
use Rattle.explorer_model.specs.Visits.{texts_of}
use Rattle.explorer_model.proofs.Lists.{zip-append}
use Rattle.tally_rows.specs.declared.row.Row.{Row}
use Rattle.tally_rows.specs.Row.{shifted_row}
use Rattle.tally_rows.specs.Tally.{IsTallyOf}
use Rattle.segment_blocks.specs.Segment.{CountedSpan, span_of_both}
use Rattle.segment_merge.specs.Merged.{merged}
use Rattle.segment_merge.specs.Merging.{IsMergeOf}
use Rattle.published_index.specs.Changes.{JoinAt, with_change}
use Rattle.published_index.specs.Cover.{list_limit, spans_of}
use Rattle.published_index.specs.States.{Publishing}
use Rattle.ingest_desk.specs.Alike.{CountAlike, StandAlike}
use Rattle.ingest_desk.specs.Answers.{HadMemory}
use Rattle.ingest_desk.specs.Installs.{list_by}
use Rattle.ingest_desk.specs.Listing.{JoinsPicked, Lists, MakesRoom, PutsBehind}
use Rattle.ingest_desk.specs.Picking.{AreDue, HasNoneDue, IsPicked, NoneDueFrom}
use Rattle.ingest_desk.specs.declared.fault.CommitFault.{CommitFault}
use Rattle.ingest_desk.specs.declared.fault.CommitFault.TheVariants as faults
use Rattle.ingest_desk.specs.declared.receipt.Receipt.{Receipt}
use Rattle.ingest_desk.proofs.PickingLemmas.{one_picked, picked_or_none, same_place}

-- ---- segments

count_back : (segment other : CountedSpan) → CountAlike segment other → CountAlike other segment
count_back segment other alike = record {
  span = sym alike.span;
  classes = sym alike.classes;
  rows = sym alike.rows;
}

-- what is merged of segments that count alike counts alike
merges_alike : (left right joined first second other : CountedSpan) → CountAlike left first
    → CountAlike right second → IsMergeOf left right joined → IsMergeOf first second other
    → CountAlike joined other
merges_alike left right joined first second other l r a b = record {
  span = a.span
      ∙ ap (λ (s : Span). span_of_both s right.span) l.span
      ∙ ap (λ (s : Span). span_of_both first.span s) r.span
      ∙ sym b.span;
  classes = a.classes
      ∙ ap (λ (c : List Classes). c ++ right.classes) l.classes
      ∙ ap (λ (c : List Classes). first.classes ++ c) r.classes
      ∙ sym b.classes;
  rows = a.rows
      ∙ ap (λ (x : List Row). merged x (map (shifted_row (length left.classes)) right.rows)) l.rows
      ∙ ap (λ (c : List Classes). merged first.rows (map (shifted_row (length c)) right.rows)) l.classes
      ∙ ap (λ (x : List Row). merged first.rows (map (shifted_row (length first.classes)) x)) r.rows
      ∙ sym b.rows;
}

-- ---- lists

pub alike_self : (list : List CountedSpan) → StandAlike list list
alike_self [] = tt
alike_self (segment ∷ list) =
    (record { span = refl; classes = refl; rows = refl }, alike_self list)

pub alike_back : (list other : List CountedSpan) → StandAlike list other → StandAlike other list
alike_back [] [] alike = tt
alike_back [] (y ∷ other) alike = absurd alike
alike_back (x ∷ list) [] alike = absurd alike
alike_back (x ∷ list) (y ∷ other) alike =
    (count_back x y alike.0, alike_back list other alike.1)

pub spans_alike : (list other : List CountedSpan) → StandAlike list other
    → spans_of list ≡ spans_of other
spans_alike [] [] alike = refl
spans_alike [] (y ∷ other) alike = absurd alike
spans_alike (x ∷ list) [] alike = absurd alike
spans_alike (x ∷ list) (y ∷ other) alike =
    let span = alike.0.span in
    let spans = spans_alike list other alike.1 in
    λ i. span i ∷ spans i

take_alike : (n : ℕ) (list other : List CountedSpan) → StandAlike list other
    → StandAlike (take n list) (take n other)
take_alike zero list other alike = tt
take_alike (suc n) [] [] alike = tt
take_alike (suc n) [] (y ∷ other) alike = absurd alike
take_alike (suc n) (x ∷ list) [] alike = absurd alike
take_alike (suc n) (x ∷ list) (y ∷ other) alike = (alike.0, take_alike n list other alike.1)

drop_alike : (n : ℕ) (list other : List CountedSpan) → StandAlike list other
    → StandAlike (drop n list) (drop n other)
drop_alike zero list other alike = alike
drop_alike (suc n) [] [] alike = tt
drop_alike (suc n) [] (y ∷ other) alike = absurd alike
drop_alike (suc n) (x ∷ list) [] alike = absurd alike
drop_alike (suc n) (x ∷ list) (y ∷ other) alike = drop_alike n list other alike.1

-- a segment of the other list, at the same place, which counts alike
record FindsAlike (other : List CountedSpan) (at : ℕ) (segment : CountedSpan) : Type 0 where
  pub there : CountedSpan
  pub is : slice_get other at ≡ Some there
  pub alike : CountAlike segment there

find : (list other : List CountedSpan) (at : ℕ) (segment : CountedSpan) → StandAlike list other
    → slice_get list at ≡ Some segment → FindsAlike other at segment
find [] other at segment alike is = get-nil segment _ is
find (x ∷ list) [] at segment alike is = absurd alike
find (x ∷ list) (y ∷ other) zero segment alike is = record {
  there = y;
  is = refl;
  alike = subst (λ (s : CountedSpan). CountAlike s y) (same_Some x segment is) alike.0;
}
find (x ∷ list) (y ∷ other) (suc at) segment alike is =
    let found = find list other at segment alike.1 is in
    record { there = found.there; is = found.is; alike = found.alike }

-- ---- neighbours

due_alike : (left right first second : CountedSpan) → CountAlike left first
    → CountAlike right second → AreDue left right → AreDue first second
due_alike left right first second l r due =
    omega (arith, ap length l.classes, ap length r.classes, due)

none_due_alike : (n : ℕ) (list other : List CountedSpan) → StandAlike list other
    → NoneDueFrom n list → NoneDueFrom n other
none_due_alike n list other alike none at left right least stand due =
    let back = alike_back list other alike in
    let l = find other list at left back stand.left_is in
    let r = find other list (at + 1) right back stand.right_is in
    none at l.there r.there least (record { left_is = l.is; right_is = r.is })
    (due_alike left right l.there r.there l.alike r.alike due)

-- the neighbours that are picked in the other list
record PicksAlike (other : List CountedSpan) (at : ℕ) (left right : CountedSpan) : Type 0 where
  pub first : CountedSpan
  pub second : CountedSpan
  pub picked : IsPicked other first second
  pub same : picked.at ≡ at
  pub left_alike : CountAlike left first
  pub right_alike : CountAlike right second

pick : (list other : List CountedSpan) (left right : CountedSpan) → StandAlike list other
    → (p : IsPicked list left right) → PicksAlike other p.at left right
pick list other left right alike p =
    let l = find list other p.at left alike p.stand.left_is in
    let r = find list other (p.at + 1) right alike p.stand.right_is in
    record {
      first = l.there;
      second = r.there;
      picked = record {
        at = p.at;
        stand = record { left_is = l.is; right_is = r.is };
        due = due_alike left right l.there r.there l.alike r.alike p.due;
        last = none_due_alike (p.at + 1) list other alike p.last;
        join = record {
          adjoin = ap (λ (s : Span). s.first) (sym r.alike.span)
              ∙ p.join.adjoin
              ∙ ap (λ (s : Span). s.first + length s.batches) l.alike.span;
          few = omega (
            arith,
            ap length l.alike.classes,
            ap length r.alike.classes,
            p.join.few,
          );
        };
      };
      same = refl;
      left_alike = l.alike;
      right_alike = r.alike;
    }

-- ---- joins

pub joins_alike : (list other first second : List CountedSpan) → StandAlike list other
    → JoinsPicked list first → JoinsPicked other second → StandAlike first second
joins_alike list other first second alike a b =
    let p = pick list other a.left a.right alike a.picked in
    let one = one_picked other p.first p.second b.left b.right p.picked b.picked in
    let place : a.picked.at ≡ b.picked.at =
    sym p.same ∙ same_place other p.first p.second b.left b.right p.picked b.picked in
    let left = subst (λ (s : CountedSpan). CountAlike a.left s) one.0 p.left_alike in
    let right = subst (λ (s : CountedSpan). CountAlike a.right s) one.1 p.right_alike in
    let joined = merges_alike a.left a.right a.joined b.left b.right b.joined left right a.merged b.merged in
    let at = a.picked.at in
    let whole : StandAlike (with_change list (JoinAt at a.joined)) (with_change other (JoinAt at b.joined)) =
    zip-append CountAlike (take at list) (a.joined ∷ drop (at + 2) list) (take at other)
    (b.joined ∷ drop (at + 2) other) (take_alike at list other alike)
    (joined, drop_alike (at + 2) list other alike) in
    let second_is : with_change other (JoinAt at b.joined) ≡ second =
    ap (λ (n : ℕ). with_change other (JoinAt n b.joined)) place ∙ sym b.list_is in
    subst (λ (l : List CountedSpan). StandAlike l second) (sym a.list_is)
    (subst (λ (l : List CountedSpan). StandAlike (with_change list (JoinAt at a.joined)) l) second_is whole)

pub joins_or_none : (list other new : List CountedSpan) → StandAlike list other → HasNoneDue list
    → JoinsPicked other new → ⊥
joins_or_none list other new alike none joins =
    let p = pick other list joins.left joins.right (alike_back list other alike) joins.picked in
    picked_or_none list p.first p.second none p.picked

-- ---- room

pub rooms_alike : (list other first second : List CountedSpan) → StandAlike list other
    → MakesRoom list first → MakesRoom other second → StandAlike first second
rooms_alike list other first second alike a b = by (nat_lt (length list) list_limit) refl
  where
    long : length list ≡ length other
    long = length_all_zip CountAlike list other alike

    by : (few : Bool) → nat_lt (length list) list_limit ≡ few → StandAlike first second
    by true is =
        let few : length list < list_limit = grind (arith, nat_tests) in
        let also : length other < list_limit = omega (arith, few, long) in
        subst (λ (l : List CountedSpan). StandAlike l second) (sym (a.has_room few))
        (subst (λ (l : List CountedSpan). StandAlike list l) (sym (b.has_room also)) alike)
    by false is =
        let full : list_limit ≤ length list = grind (arith, nat_tests) in
        let also : list_limit ≤ length other = omega (arith, full, long) in
        joins_alike list other first second alike (a.is_full full) (b.is_full also)

-- ---- batches

-- what the lower crates say: texts have one tally
pub record HasOneTally : Type 0 where
  pub classes : (texts : List (List ℕ)) (classes others : List Classes) (rows other_rows : List Row)
      → IsTallyOf texts classes rows → IsTallyOf texts others other_rows → classes ≡ others
  pub rows : (texts : List (List ℕ)) (classes others : List Classes) (rows other_rows : List Row)
      → IsTallyOf texts classes rows → IsTallyOf texts others other_rows → rows ≡ other_rows

pub puts_alike : HasOneTally → (batch : Batch) (list other first second : List CountedSpan)
    → StandAlike list other → PutsBehind batch list first → PutsBehind batch other second
    → StandAlike first second
puts_alike one batch list other first second alike a b =
    let s = a.segment in
    let t = b.segment in
    let place : s.span.first ≡ t.span.first =
    a.starts
    ∙ ap (λ (spans : List Span). length (batches_of spans)) (spans_alike list other alike)
    ∙ sym b.starts in
    let batches : s.span.batches ≡ t.span.batches = a.batch_is ∙ sym b.batch_is in
    let tally : IsTallyOf (texts_of t.span.batches) s.classes s.rows =
    subst (λ (bs : List Batch). IsTallyOf (texts_of bs) s.classes s.rows) batches a.counts.tally in
    let texts = texts_of t.span.batches in
    let segments : CountAlike s t = record {
      span = λ i. record { first = place i; batches = batches i };
      classes = one.classes texts s.classes t.classes s.rows t.rows tally b.counts.tally;
      rows = one.rows texts s.classes t.classes s.rows t.rows tally b.counts.tally;
    } in
    subst (λ (l : List CountedSpan). StandAlike l second) (sym a.list_is)
    (subst (λ (l : List CountedSpan). StandAlike (list ++ s ∷ []) l) (sym b.list_is)
    (zip-append CountAlike list (s ∷ []) other (t ∷ []) alike (segments, tt)))

-- ---- commits

same_alike : (list first second : List CountedSpan) → first ≡ list → second ≡ list
    → StandAlike first second
same_alike list first second is also =
    subst (λ (l : List CountedSpan). StandAlike first l) (is ∙ sym also) (alike_self first)

pub lists_alike : {J : Type 0} → HasOneTally → (answer : Result (Receipt J) (CommitFault J))
    (batch : Batch) (old : Publishing) (first second : List CountedSpan) → HadMemory answer
    → Lists answer batch old first → Lists answer batch old second → StandAlike first second
lists_alike one (Ok receipt) batch old first second had a b =
    let list = list_by old in
    puts_alike one batch a.roomy b.roomy first second
    (rooms_alike list list a.roomy b.roomy (alike_self list) a.room b.room) a.puts b.puts
lists_alike one (Err (faults.Closed before after mark)) batch old first second had a b =
    same_alike old.list first second a b
lists_alike one (Err (faults.Clash handed pairs note)) batch old first second had a b =
    same_alike (list_by old) first second a b
lists_alike one (Err (faults.Full games bytes note)) batch old first second had a b =
    same_alike (list_by old) first second a b
lists_alike one (Err (faults.DiskFault before after mark)) batch old first second had a b =
    let list = list_by old in
    rooms_alike list list first second (alike_self list) a b
lists_alike one (Err (faults.OutOfMemory stored)) batch old first second had a b = absurd had
