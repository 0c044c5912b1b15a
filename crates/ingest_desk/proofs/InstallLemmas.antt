-- Two neighbours stand at one place of a list, and one thing becomes of them.
use Rattle.std.proofs.Common.{◌≡◌, ◌≤◌, ◌<◌, ◌+◌, ℕ, zero, suc, List, [], ◌∷◌, length, take, drop, Option, None, Some, Result, Ok, Err, refl, sym, ap, ◌∙◌, subst, arith}
use Rattle.std.specs.Prelude.{IfSome, slice_get}
use Rattle.std.proofs.lemmas.Option.{same_Some}
use Rattle.plain_laws.specs.Lists.{get-nil}
use Rattle.explorer_model.specs.declared.archive.Batch.{Batch}
use Rattle.explorer_model.specs.Spans.{Adjoin, Span, batches_of}
use Rattle.explorer_model.proofs.Lists.{zip-append}
use Rattle.segment_blocks.specs.Segment.{CountedSpan}
use Rattle.published_index.proofs.CoverLemmas.{list-changed}
use Rattle.published_index.specs.Changes.{Change, JoinAt, MayMake, with_change}
use Rattle.published_index.specs.Cover.{IsList, spans_of}
use Rattle.published_index.specs.States.{IsPublishing, Publishing}
use Rattle.ingest_desk.specs.Alike.{CountAlike, StandAlike}
use Rattle.ingest_desk.specs.Installs.{Installs, IsDecided, IsInstalled, StandAt, caught_up, list_by}
use Rattle.ingest_desk.specs.declared.fault.InstallFault.{InstallFault}
use Rattle.ingest_desk.specs.declared.fault.InstallFault.TheVariants as faults
use Rattle.ingest_desk.proofs.AlikeLemmas.{alike_self, spans_alike}

-- ---- one place

-- a segment begins where its list does, or behind
pub begins_behind : (list : List CountedSpan) (first at : ℕ) (segment : CountedSpan)
    → Adjoin first (spans_of list) → slice_get list at ≡ Some segment → first ≤ segment.span.first
begins_behind [] first at segment adjoin is = get-nil segment _ is
begins_behind (x ∷ list) first zero segment adjoin is =
    let same = same_Some x segment is in
    let begins : x.span.first ≡ segment.span.first = ap (λ (s : CountedSpan). s.span.first) same in
    omega (arith, begins, adjoin.0)
begins_behind (x ∷ list) first (suc at) segment adjoin is =
    omega (arith, begins_behind list (first + length x.span.batches) at segment adjoin.1 is)

-- so a span that has a batch stands once
pub one_span : (list : List CountedSpan) (first at other : ℕ) (x y : CountedSpan)
    → Adjoin first (spans_of list) → slice_get list at ≡ Some x → slice_get list other ≡ Some y
    → x.span ≡ y.span → 0 < length x.span.batches → at ≡ other
one_span [] first at other x y adjoin here there same some = get-nil x _ here
one_span (z ∷ list) first zero zero x y adjoin here there same some = refl
one_span (z ∷ list) first zero (suc other) x y adjoin here there same some =
    let is = same_Some z x here in
    let begins : z.span.first ≡ x.span.first = ap (λ (s : CountedSpan). s.span.first) is in
    let count : length z.span.batches ≡ length x.span.batches = ap (λ (s : CountedSpan). length s.span.batches) is in
    let also : x.span.first ≡ y.span.first = ap (λ (s : Span). s.first) same in
    let behind = begins_behind list (first + length z.span.batches) other y adjoin.1 there in
    absurd (omega (arith, adjoin.0, begins, count, also, behind, some))
one_span (z ∷ list) first (suc at) zero x y adjoin here there same some =
    let is = same_Some z y there in
    let begins : z.span.first ≡ y.span.first = ap (λ (s : CountedSpan). s.span.first) is in
    let count : length z.span.batches ≡ length y.span.batches = ap (λ (s : CountedSpan). length s.span.batches) is in
    let also : x.span.first ≡ y.span.first = ap (λ (s : Span). s.first) same in
    let as_many : length x.span.batches ≡ length y.span.batches = ap (λ (s : Span). length s.batches) same in
    let behind = begins_behind list (first + length z.span.batches) at x adjoin.1 here in
    absurd (omega (arith, adjoin.0, begins, count, also, as_many, behind, some))
one_span (z ∷ list) first (suc at) (suc other) x y adjoin here there same some =
    let before = one_span list (first + length z.span.batches) at other x y adjoin.1 here there same some in
    omega (arith, before)

one_place : (list : List CountedSpan) (left right : Span) (at other : ℕ) → IsList list
    → 0 < length left.batches → StandAt list at left right → StandAt list other left right
    → at ≡ other
one_place list left right at other is some a b =
    one_span list 0 at other a.first b.first is.covers.adjoin a.stand.left_is b.stand.left_is
    (a.left_is ∙ sym b.left_is) (subst (λ (s : Span). 0 < length s.batches) (sym a.left_is) some)

-- ---- one list

list_caught : (list : List CountedSpan) (held : Option Change) → IsList list
    → IfSome held (λ change. MayMake list change) → IsList (caught_up list held)
list_caught list None is may = is
list_caught list (Some change) is may = list-changed list change may is

joined_alike : (list : List CountedSpan) (at : ℕ) (merged joined : CountedSpan)
    → CountAlike merged joined
    → StandAlike (with_change list (JoinAt at merged)) (with_change list (JoinAt at joined))
joined_alike list at merged joined alike =
    zip-append CountAlike (take at list) (merged ∷ drop (at + 2) list) (take at list)
    (joined ∷ drop (at + 2) list) (alike_self (take at list)) (alike, alike_self (drop (at + 2) list))

module _ (left right : Span) (old new after : Publishing) (is : IsPublishing old)
    (some : 0 < length left.batches) where
  sound : IsList (list_by old)
  sound = list_caught old.list old.held is.list is.held

  lists_alike : (merged joined : CountedSpan) (note other : List Batch) → CountAlike merged joined
      → IsInstalled left right merged (list_by old) new note
      → IsInstalled left right joined (list_by old) after other → StandAlike new.list after.list
  lists_alike merged joined note other alike a b =
      let list = list_by old in
      let place = one_place list left right a.at b.at sound some a.stood b.stood in
      let second : with_change list (JoinAt a.at joined) ≡ after.list =
      ap (λ (n : ℕ). with_change list (JoinAt n joined)) place ∙ sym b.list_is in
      subst (λ (l : List CountedSpan). StandAlike l after.list) (sym a.list_is)
      (subst (λ (l : List CountedSpan). StandAlike (with_change list (JoinAt a.at merged)) l) second
      (joined_alike list a.at merged joined alike))

  pub answers_alike : (merged joined : CountedSpan)
      (answer other : Result (List Batch) InstallFault) → CountAlike merged joined
      → Installs left right merged old new answer → Installs left right joined old after other
      → IsDecided answer → IsDecided other → (answer ≡ other) × StandAlike new.list after.list
  answers_alike merged joined (Ok note) (Ok other) alike a b decided also =
      let lists = lists_alike merged joined note other alike a b in
      let notes : note ≡ other =
      a.told ∙ ap batches_of (spans_alike new.list after.list lists) ∙ sym b.told in
      ((λ i. Ok (notes i)), lists)
  answers_alike merged joined (Ok note) (Err (faults.Gone spans)) alike a b decided also =
      absurd (b.gone a.at a.stood)
  answers_alike merged joined (Ok note) (Err faults.OutOfMemory) alike a b decided also =
      absurd also
  answers_alike merged joined (Err (faults.Gone spans)) (Ok other) alike a b decided also =
      absurd (a.gone b.at b.stood)
  answers_alike merged joined (Err (faults.Gone spans)) (Err (faults.Gone others)) alike a b decided also =
      let places : spans.items ≡ others.items = a.spans_are ∙ sym b.spans_are in
      let lists : new.list ≡ after.list = a.same ∙ sym b.same in (
        (λ i. Err (faults.Gone (record { items = places i }))),
        subst (λ (l : List CountedSpan). StandAlike new.list l) lists (alike_self new.list),
      )
  answers_alike merged joined (Err (faults.Gone spans)) (Err faults.OutOfMemory) alike a b decided also =
      absurd also
  answers_alike merged joined (Err faults.OutOfMemory) other alike a b decided also = absurd decided

  states_same : (merged : CountedSpan) (answer other : Result (List Batch) InstallFault)
      → Installs left right merged old new answer → Installs left right merged old after other
      → IsDecided answer → IsDecided other → new ≡ after
  states_same merged (Ok note) (Ok other) a b decided also =
      let list = list_by old in
      let place = one_place list left right a.at b.at sound some a.stood b.stood in
      let lists : new.list ≡ after.list =
      a.list_is ∙ ap (λ (n : ℕ). with_change list (JoinAt n merged)) place ∙ sym b.list_is in
      let none = a.none_held ∙ sym b.none_held in
      λ i. record { list = lists i; held = none i }
  states_same merged (Ok note) (Err (faults.Gone spans)) a b decided also =
      absurd (b.gone a.at a.stood)
  states_same merged (Ok note) (Err faults.OutOfMemory) a b decided also = absurd also
  states_same merged (Err (faults.Gone spans)) (Ok other) a b decided also =
      absurd (a.gone b.at b.stood)
  states_same merged (Err (faults.Gone spans)) (Err (faults.Gone others)) a b decided also =
      let lists : new.list ≡ after.list = a.same ∙ sym b.same in
      let none = a.none_held ∙ sym b.none_held in
      λ i. record { list = lists i; held = none i }
  states_same merged (Err (faults.Gone spans)) (Err faults.OutOfMemory) a b decided also = absurd also
  states_same merged (Err faults.OutOfMemory) other a b decided also = absurd decided

  pub answers_same : (merged : CountedSpan) (answer other : Result (List Batch) InstallFault)
      → Installs left right merged old new answer → Installs left right merged old after other
      → IsDecided answer → IsDecided other → (answer ≡ other) × (new ≡ after)
  answers_same merged answer other a b decided also =
      let self : CountAlike merged merged = record { span = refl; classes = refl; rows = refl } in (
        (answers_alike merged merged answer other self a b decided also).0,
        states_same merged answer other a b decided also,
      )
