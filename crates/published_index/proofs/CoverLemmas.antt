-- Where the segments of a list stand.
use Rattle.std.proofs.Common.{◌≡◌, ℕ, zero, suc, ◌+◌, ◌<◌, ◌≤◌, List, [], ◌∷◌, ◌++◌, length, map, take, drop, set, get_or, slice_get, Some, ◌-◌, refl, ap, sym, ◌∙◌, subst, arith, length-append, append_assoc, append-nil, take-append-drop}
use Rattle.std.proofs.lemmas.List.Concat.{flat_map-append}
use Rattle.explorer_model.specs.declared.archive.Batch.{Batch}
use Rattle.explorer_model.specs.Spans.{Span, Adjoin, batches_of}
use Rattle.segment_blocks.specs.Segment.{CountedSpan}
use Rattle.explorer_model.specs.Timeline.{both}
use Rattle.std.proofs.lemmas.List.{map-append, take_more, take-map}
use Rattle.published_index.specs.Cover.{spans_of, journal_of, IsList, list_limit}
use Rattle.published_index.specs.Changes.{Change, AddOf, JoinAt, CanJoin, MayMake, with_change, with_put}

pub length-batches : (span : Span) (spans : List Span) → length (batches_of (span ∷ spans)) ≡ length span.batches + length (batches_of spans)
length-batches span spans = length-append span.batches (batches_of spans)

ends-at : {A : Type 0} (value : A → CountedSpan) (xs : List A) (first k : ℕ) (last : A) → Adjoin first (spans_of (map value xs))
    → k + 1 ≡ length xs → slice_get xs k ≡ Some last
    → (value last).span.first + length (value last).span.batches ≡ first + length (journal_of (map value xs))
ends-at value [] first k last adjoin is at = absurd (omega arith)
ends-at value (x ∷ []) first (suc k) last adjoin is at = absurd (omega arith)
ends-at value (x ∷ []) first zero last adjoin is at =
    let same : x ≡ last = cc in
    subst (λ y. (value y).span.first + length (value y).span.batches ≡ first + length (journal_of (map value (x ∷ [])))) same
    (omega (arith, adjoin.0, length-batches (value x).span []))
ends-at value (x ∷ y ∷ xs) first zero last adjoin is at = absurd (omega arith)
ends-at value (x ∷ y ∷ xs) first (suc k) last adjoin is at =
    omega (arith, ends-at value (y ∷ xs) (first + length (value x).span.batches) k last adjoin.1 (omega arith) at, length-batches (value x).span (spans_of (map value (y ∷ xs))))

-- the last segment ends where all of them end
pub last-end : {A : Type 0} (value : A → CountedSpan) (xs : List A) (first : ℕ) (last : A) → Adjoin first (spans_of (map value xs))
    → slice_get xs (length xs - 1) ≡ Some last
    → (value last).span.first + length (value last).span.batches ≡ first + length (journal_of (map value xs))
last-end value [] first last adjoin at = absurd cc
last-end value (x ∷ xs) first last adjoin at =
    let k : length (x ∷ xs) - 1 ≡ length xs = omega arith in
    ends-at value (x ∷ xs) first (length xs) last adjoin (omega arith) (subst (λ (k : ℕ). slice_get (x ∷ xs) k ≡ Some last) k at)

-- ---- one segment more

pub journal-append : (list more : List CountedSpan) → journal_of (list ++ more) ≡ journal_of list ++ journal_of more
journal-append list more =
    ap batches_of (map-append (λ (segment : CountedSpan). segment.span) list more) ∙ flat_map-append (λ (span : Span). span.batches) (spans_of list) (spans_of more)

pub journal-one : (list : List CountedSpan) (segment : CountedSpan) → journal_of (list ++ (segment ∷ [])) ≡ journal_of list ++ segment.span.batches
journal-one list segment =
    journal-append list (segment ∷ []) ∙ ap (λ batches. journal_of list ++ batches) (append-nil segment.span.batches)

adjoin-behind : (first : ℕ) (spans : List Span) (span : Span) → Adjoin first spans
    → span.first ≡ first + length (batches_of spans) → Adjoin first (spans ++ (span ∷ []))
adjoin-behind first [] span adjoin is = (omega (arith, is), tt)
adjoin-behind first (x ∷ spans) span adjoin is =
    (adjoin.0, adjoin-behind (first + length x.batches) spans span adjoin.1 (omega (arith, is, length-batches x spans)))

pub list-one : (list : List CountedSpan) (segment : CountedSpan) → IsList list → length list < list_limit
    → segment.span.first ≡ length (journal_of list) → IsList (list ++ (segment ∷ []))
list-one list segment is room starts = record {
  few = omega (arith, length-append list (segment ∷ []));
  covers = record {
    adjoin = subst (Adjoin 0) (sym (map-append (λ (segment : CountedSpan). segment.span) list (segment ∷ [])))
        (adjoin-behind 0 (spans_of list) segment.span is.covers.adjoin (omega (arith, starts)));
    whole = refl;
  };
}

-- ---- one segment for two

-- the list with the segment, by successors
abbrev pub joined : List CountedSpan → ℕ → CountedSpan → List CountedSpan
joined list at segment = take at list ++ segment ∷ drop (suc (suc at)) list

pub joined-is : (list : List CountedSpan) (at : ℕ) (segment : CountedSpan) → joined list at segment ≡ with_change list (JoinAt at segment)
joined-is list at segment =
    let two : suc (suc at) ≡ at + 2 = omega arith in ap (λ (n : ℕ). take at list ++ segment ∷ drop n list) two

pub length-joined : (list : List CountedSpan) (at : ℕ) (segment : CountedSpan) → suc at < length list → length (joined list at segment) + 1 ≡ length list
length-joined [] at segment lt = absurd (omega arith)
length-joined (x ∷ []) at segment lt = absurd (omega arith)
length-joined (x ∷ y ∷ list) zero segment lt = omega arith
length-joined (x ∷ y ∷ list) (suc at) segment lt = omega (arith, length-joined (y ∷ list) at segment (omega arith))

-- the segment starts where the left one starts, and has as many batches as both
pub record IsBoth (left right segment : CountedSpan) : Type 0 where
  pub first : segment.span.first ≡ left.span.first
  pub count : length segment.span.batches ≡ length left.span.batches + length right.span.batches

adjoin-joined : (list : List CountedSpan) (first at : ℕ) (segment left right : CountedSpan) → slice_get list at ≡ Some left
    → slice_get list (suc at) ≡ Some right → IsBoth left right segment → Adjoin first (spans_of list) → Adjoin first (spans_of (joined list at segment))
adjoin-joined [] first at segment left right here next both adjoin = absurd cc
adjoin-joined (x ∷ []) first zero segment left right here next both adjoin = absurd cc
adjoin-joined (x ∷ []) first (suc at) segment left right here next both adjoin = absurd cc
adjoin-joined (x ∷ y ∷ list) first zero segment left right here next both adjoin =
    let is-left : x ≡ left = cc in
    let is-right : y ≡ right = cc in
    let starts : x.span.first ≡ left.span.first = ap (λ (s : CountedSpan). s.span.first) is-left in
    let left-count : length x.span.batches ≡ length left.span.batches = ap (λ (s : CountedSpan). length s.span.batches) is-left in
    let right-count : length y.span.batches ≡ length right.span.batches = ap (λ (s : CountedSpan). length s.span.batches) is-right in
    let end : (first + length x.span.batches) + length y.span.batches ≡ first + length segment.span.batches =
    omega (arith, both.count, left-count, right-count) in
    (omega (arith, both.first, starts, adjoin.0), subst (λ (end : ℕ). Adjoin end (spans_of list)) end adjoin.1.1)
adjoin-joined (x ∷ y ∷ list) first (suc at) segment left right here next both adjoin =
    (adjoin.0, adjoin-joined (y ∷ list) (first + length x.span.batches) at segment left right here next both adjoin.1)

pub count-joined : (list : List CountedSpan) (at : ℕ) (segment left right : CountedSpan) → slice_get list at ≡ Some left
    → slice_get list (suc at) ≡ Some right → IsBoth left right segment → length (journal_of (joined list at segment)) ≡ length (journal_of list)
count-joined [] at segment left right here next both = absurd cc
count-joined (x ∷ []) zero segment left right here next both = absurd cc
count-joined (x ∷ []) (suc at) segment left right here next both = absurd cc
count-joined (x ∷ y ∷ list) zero segment left right here next both =
    let is-left : x ≡ left = cc in
    let is-right : y ≡ right = cc in
    let left-count : length x.span.batches ≡ length left.span.batches = ap (λ (s : CountedSpan). length s.span.batches) is-left in
    let right-count : length y.span.batches ≡ length right.span.batches = ap (λ (s : CountedSpan). length s.span.batches) is-right in
    omega (
      arith,
      both.count,
      left-count,
      right-count,
      length-batches segment.span (spans_of list),
      length-batches x.span (spans_of (y ∷ list)),
      length-batches y.span (spans_of list),
    )
count-joined (x ∷ y ∷ list) (suc at) segment left right here next both =
    omega (
      arith,
      count-joined (y ∷ list) at segment left right here next both,
      length-batches x.span (spans_of (y ∷ list)),
      length-batches x.span (spans_of (joined (y ∷ list) at segment)),
    )

pub journal-joined : (list : List CountedSpan) (at : ℕ) (segment left right : CountedSpan) → slice_get list at ≡ Some left
    → slice_get list (suc at) ≡ Some right → segment.span.batches ≡ left.span.batches ++ right.span.batches
    → journal_of (joined list at segment) ≡ journal_of list
journal-joined [] at segment left right here next both = absurd cc
journal-joined (x ∷ []) zero segment left right here next both = absurd cc
journal-joined (x ∷ []) (suc at) segment left right here next both = absurd cc
journal-joined (x ∷ y ∷ list) zero segment left right here next both =
    let is-left : left ≡ x = cc in
    let is-right : right ≡ y = cc in
    let batches : segment.span.batches ≡ x.span.batches ++ y.span.batches =
    both ∙ ap (λ (s : CountedSpan). s.span.batches ++ right.span.batches) is-left ∙ ap (λ (s : CountedSpan). x.span.batches ++ s.span.batches) is-right in
    ap (λ (front : List Batch). front ++ journal_of list) batches ∙ append_assoc x.span.batches y.span.batches (journal_of list)
journal-joined (x ∷ y ∷ list) (suc at) segment left right here next both =
    ap (λ (rest : List Batch). x.span.batches ++ rest) (journal-joined (y ∷ list) at segment left right here next both)

-- the two are there
pub two-at : (list : List CountedSpan) (at : ℕ) → suc at < length list
    → (left : CountedSpan) × (right : CountedSpan) × (slice_get list at ≡ Some left) × (slice_get list (suc at) ≡ Some right)
two-at [] at lt = absurd (omega arith)
two-at (x ∷ []) at lt = absurd (omega arith)
two-at (x ∷ y ∷ list) zero lt = (x, y, refl, refl)
two-at (x ∷ y ∷ list) (suc at) lt = two-at (y ∷ list) at (omega arith)

pub list-joined : (list : List CountedSpan) (at : ℕ) (segment left right : CountedSpan) → suc at < length list → slice_get list at ≡ Some left
    → slice_get list (suc at) ≡ Some right → IsBoth left right segment → IsList list → IsList (joined list at segment)
list-joined list at segment left right lt here next both is = record {
  few = omega (arith, is.few, length-joined list at segment lt);
  covers = record {
    adjoin = adjoin-joined list 0 at segment left right here next both is.covers.adjoin;
    whole = refl;
  };
}

-- where the first of two is taken out and the second overwritten, there is one for both
overwritten : {A : Type 0} (value : A → CountedSpan) (xs : List A) (at : ℕ) (y : A) → suc at < length xs
    → map value (set (take at xs ++ drop (suc at) xs) at y) ≡ joined (map value xs) at (value y)
overwritten value [] at y lt = absurd (omega arith)
overwritten value (x ∷ []) at y lt = absurd (omega arith)
overwritten value (x ∷ x' ∷ xs) zero y lt = refl
overwritten value (x ∷ x' ∷ xs) (suc at) y lt = ap (λ (rest : List CountedSpan). value x ∷ rest) (overwritten value (x' ∷ xs) at y (omega arith))

pub map-joined : {A : Type 0} (value : A → CountedSpan) (xs removed : List A) (at : ℕ) (y : A) → at + 1 < length xs
    → removed ≡ take at xs ++ drop (at + 1) xs → map value (set removed at y) ≡ joined (map value xs) at (value y)
map-joined {A} value xs removed at y lt is =
    let one : at + 1 ≡ suc at = omega arith in
    ap (λ (ys : List A). map value (set ys at y)) (is ∙ ap (λ (n : ℕ). take at xs ++ drop n xs) one) ∙ overwritten value xs at y (omega arith)

pub read-map : {A : Type 0} (value : A → CountedSpan) (xs : List A) (at : ℕ) (x : A) → at < length xs → x ≡ get_or xs at x
    → slice_get (map value xs) at ≡ Some (value x)
read-map value [] at x lt is = absurd (omega arith)
read-map {A} value (y ∷ xs) zero x lt is = ap (λ (z : A). Some (value z)) (sym is)
read-map value (y ∷ xs) (suc at) x lt is = read-map value xs at x (omega arith) is

-- the second of two starts where the first ends
pub adjoin-next : (list : List CountedSpan) (first at : ℕ) (left right : CountedSpan) → Adjoin first (spans_of list) → slice_get list at ≡ Some left
    → slice_get list (suc at) ≡ Some right → right.span.first ≡ left.span.first + length left.span.batches
adjoin-next [] first at left right adjoin here next = absurd cc
adjoin-next (x ∷ []) first zero left right adjoin here next = absurd cc
adjoin-next (x ∷ []) first (suc at) left right adjoin here next = absurd cc
adjoin-next (x ∷ y ∷ list) first zero left right adjoin here next =
    let is-left : x ≡ left = cc in
    let is-right : y ≡ right = cc in
    let starts : x.span.first ≡ left.span.first = ap (λ (s : CountedSpan). s.span.first) is-left in
    let left-count : length x.span.batches ≡ length left.span.batches = ap (λ (s : CountedSpan). length s.span.batches) is-left in
    let right-starts : y.span.first ≡ right.span.first = ap (λ (s : CountedSpan). s.span.first) is-right in
    omega (arith, starts, left-count, right-starts, adjoin.0, adjoin.1.0)
adjoin-next (x ∷ y ∷ list) first (suc at) left right adjoin here next =
    adjoin-next (y ∷ list) (first + length x.span.batches) at left right adjoin.1 here next

-- ---- changes

both-of : (left right segment : CountedSpan) → segment.span ≡ both left.span right.span → IsBoth left right segment
both-of left right segment is = record {
  first = ap (λ (span : Span). span.first) is;
  count = ap (λ (span : Span). length span.batches) is ∙ length-append left.span.batches right.span.batches;
}

pub spans-at : (list : List CountedSpan) (at : ℕ) (segment left right : CountedSpan) → CanJoin list at segment → slice_get list at ≡ Some left
    → slice_get list (suc at) ≡ Some right → segment.span ≡ both left.span right.span
spans-at list at segment left right can here next =
    let one : suc at ≡ at + 1 = omega arith in
    can.spans left right here (subst (λ (n : ℕ). slice_get list n ≡ Some right) one next)

-- the journal once a change is made
pub journal-changed : (list : List CountedSpan) (change : Change) → MayMake list change
    → journal_of (with_change list change) ≡ with_put (journal_of list) change
journal-changed list (AddOf segment) can = journal-one list segment
journal-changed list (JoinAt at segment) can =
    let two = two-at list at (omega (arith, can.pair)) in
    let is : segment.span ≡ both two.0.span two.1.span = spans-at list at segment two.0 two.1 can two.2 two.3 in
    ap journal_of (sym (joined-is list at segment))
    ∙ journal-joined list at segment two.0 two.1 two.2 two.3 (ap (λ (span : Span). span.batches) is)

pub list-changed : (list : List CountedSpan) (change : Change) → MayMake list change → IsList list → IsList (with_change list change)
list-changed list (AddOf segment) can is = list-one list segment is can.room can.starts
list-changed list (JoinAt at segment) can is =
    let two = two-at list at (omega (arith, can.pair)) in
    let spans : segment.span ≡ both two.0.span two.1.span = spans-at list at segment two.0 two.1 can two.2 two.3 in
    subst IsList (joined-is list at segment)
    (list-joined list at segment two.0 two.1 (omega (arith, can.pair)) two.2 two.3 (both-of two.0 two.1 segment spans) is)

-- ---- the journal up to a segment

pub journal-within : (list : List CountedSpan) (n : ℕ) → length (journal_of (take n list)) ≤ length (journal_of list)
journal-within list n =
    omega (
      arith,
      ap length (ap journal_of (sym (take-append-drop n list)) ∙ journal-append (take n list) (drop n list)),
      length-append (journal_of (take n list)) (journal_of (drop n list)),
    )

pub journal-next : {A : Type 0} (value : A → CountedSpan) (xs : List A) (list : List CountedSpan) (i : ℕ) (x : A) → map value xs ≡ list
    → i < length xs → x ≡ get_or xs i x → journal_of (take (i + 1) list) ≡ journal_of (take i list) ++ (value x).span.batches
journal-next {A} value xs list i x is lt at =
    let taken : take (i + 1) xs ≡ take i xs ++ x ∷ [] = take_more xs i x lt ∙ ap (λ (y : A). take i xs ++ y ∷ []) (sym at) in
    let mapped : map value (take (i + 1) xs) ≡ map value (take i xs) ++ value x ∷ [] =
    ap (λ (ys : List A). map value ys) taken ∙ map-append value (take i xs) (x ∷ []) in
    let there : (n : ℕ) → take n list ≡ map value (take n xs) = λ n. ap (λ (ys : List CountedSpan). take n ys) (sym is) ∙ take-map value n xs in
    ap journal_of (there (i + 1)) ∙ ap journal_of mapped ∙ journal-one (map value (take i xs)) (value x)
    ∙ ap (λ (ys : List CountedSpan). journal_of ys ++ (value x).span.batches) (sym (there i))
