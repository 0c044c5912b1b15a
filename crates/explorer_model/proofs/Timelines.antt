-- What each event of a timeline keeps.
use Rattle.std.proofs.Common.{◌≡◌, ℕ, zero, suc, ◌+◌, ◌<◌, ◌≤◌, Bool, true, false, List, [], ◌∷◌, ◌++◌, length, take, drop, nat_lt, if◌then◌else◌, slice_index_or, slice_set, All, refl, sym, ap, ◌∙◌, subst, arith, append-nil, append_assoc, take-append-drop, length-append, zero-le, suc-le-suc, le_of_suc-le-suc, not-suc-le-zero}
use Rattle.std.proofs.lemmas.Bool.Decides.{nat_tests}
use Rattle.std.proofs.lemmas.List.Concat.{flat_map-append}
use Rattle.explorer_model.specs.declared.archive.Batch.{Batch}
use Rattle.explorer_model.specs.Spans.{Span, Adjoin, Covers, batches_of}
use Rattle.explorer_model.specs.Timeline.{IsPrefix, Timeline, Event, Put, Join, Enter, Learn, IsStart, IsSound, after, run, seen_by, joined_at, longer, span_behind}

-- ---- prefixes

pub prefix-self : {A : Type 0} (xs : List A) → IsPrefix xs xs
prefix-self xs = record { rest = []; is = sym (append-nil xs) }

prefix-nil : {A : Type 0} (xs : List A) → IsPrefix [] xs
prefix-nil xs = record { rest = xs; is = refl }

prefix-cons : {A : Type 0} (x : A) (xs ys : List A) → IsPrefix xs ys → IsPrefix (x ∷ xs) (x ∷ ys)
prefix-cons {A} x xs ys h = let onto : List A → List A = λ zs. x ∷ zs in record { rest = h.rest; is = ap onto h.is }

pub prefix-trans : {A : Type 0} (xs ys zs : List A) → IsPrefix xs ys → IsPrefix ys zs → IsPrefix xs zs
prefix-trans {A} xs ys zs h k =
    let behind : List A → List A = λ front. front ++ k.rest in
    record { rest = h.rest ++ k.rest; is = k.is ∙ ap behind h.is ∙ append_assoc xs h.rest k.rest }

prefix-append : {A : Type 0} (xs more : List A) → IsPrefix xs (xs ++ more)
prefix-append xs more = record { rest = more; is = refl }

prefix-take : {A : Type 0} (count : ℕ) (xs : List A) → IsPrefix (take count xs) xs
prefix-take count xs = record { rest = drop count xs; is = sym (take-append-drop count xs) }

-- what is no longer than the first so many items is a prefix of them
prefix-of-longer : (xs rest : List Batch) (count : ℕ) → length xs ≤ length (take count (xs ++ rest))
    → IsPrefix xs (take count (xs ++ rest))
prefix-of-longer [] rest count le = prefix-nil (take count rest)
prefix-of-longer (x ∷ xs) rest zero le = absurd (not-suc-le-zero le)
prefix-of-longer (x ∷ xs) rest (suc count) le =
    prefix-cons x xs (take count (xs ++ rest)) (prefix-of-longer xs rest count (le_of_suc-le-suc le))

prefix-told : (seen journal : List Batch) (count : ℕ) → length seen < length (take count journal) → IsPrefix seen journal
    → IsPrefix seen (take count journal)
prefix-told seen journal count lt h =
    let P : List Batch → Type 0 = λ whole. length seen < length (take count whole) → IsPrefix seen (take count whole) in
    subst P (sym h.is) (λ lt. prefix-of-longer seen h.rest count (omega arith)) lt

-- what a pass has seen after it hears of the first so many batches
longer-grows : (seen journal : List Batch) (count : ℕ) → IsPrefix seen journal → IsPrefix seen (longer seen (take count journal))
longer-grows seen journal count h = by (nat_lt (length seen) (length (take count journal))) refl
  where
    by : (is_longer : Bool) → nat_lt (length seen) (length (take count journal)) ≡ is_longer
        → IsPrefix seen (if is_longer then take count journal else seen)
    by true is = prefix-told seen journal count (grind (arith, nat_tests)) h
    by false is = prefix-self seen

longer-prefix : (seen journal : List Batch) (count : ℕ) → IsPrefix seen journal → IsPrefix (longer seen (take count journal)) journal
longer-prefix seen journal count h = by (nat_lt (length seen) (length (take count journal)))
  where
    by : (is_longer : Bool) → IsPrefix (if is_longer then take count journal else seen) journal
    by true = prefix-take count journal
    by false = h

-- ---- passes

-- what holds of the list set and of the list there before holds of the list there after
set-keeps : (P : List Batch → Type 0) (passes : List (List Batch)) (pass other : ℕ) (seen : List Batch)
    → P seen → P (slice_index_or passes other []) → P (slice_index_or (slice_set passes pass seen) other [])
set-keeps P [] pass other seen new old = old
set-keeps P (x ∷ passes) zero zero seen new old = new
set-keeps P (x ∷ passes) zero (suc other) seen new old = old
set-keeps P (x ∷ passes) (suc pass) zero seen new old = old
set-keeps P (x ∷ passes) (suc pass) (suc other) seen new old = set-keeps P passes pass other seen new old

set-grows : (passes : List (List Batch)) (pass other : ℕ) (seen : List Batch) → IsPrefix (slice_index_or passes pass []) seen
    → IsPrefix (slice_index_or passes other []) (slice_index_or (slice_set passes pass seen) other [])
set-grows [] pass other seen h = prefix-self []
set-grows (x ∷ passes) zero zero seen h = h
set-grows (x ∷ passes) zero (suc other) seen h = prefix-self (slice_index_or passes other [])
set-grows (x ∷ passes) (suc pass) zero seen h = prefix-self x
set-grows (x ∷ passes) (suc pass) (suc other) seen h = set-grows passes pass other seen h

prefixes-at-start : (journal : List Batch) (passes : List (List Batch)) (pass : ℕ) → All (λ seen. seen ≡ journal) passes
    → IsPrefix (slice_index_or passes pass []) journal
prefixes-at-start journal [] pass seen = prefix-nil journal
prefixes-at-start journal (x ∷ passes) zero seen =
    let P : List Batch → Type 0 = λ front. IsPrefix front journal in
    subst P (sym (seen 0 [] (suc-le-suc zero-le))) (prefix-self journal)
prefixes-at-start journal (x ∷ passes) (suc pass) seen =
    prefixes-at-start journal passes pass (λ k d lt. seen (suc k) d (suc-le-suc lt))

-- ---- covers

length-batches : (span : Span) (spans : List Span) → length (batches_of (span ∷ spans)) ≡ length span.batches + length (batches_of spans)
length-batches span spans = length-append span.batches (batches_of spans)

adjoin-behind : (first : ℕ) (spans : List Span) (span : Span) → Adjoin first spans
    → span.first ≡ first + length (batches_of spans) → Adjoin first (spans ++ (span ∷ []))
adjoin-behind first [] span adjoin is = (omega (arith, is), tt)
adjoin-behind first (x ∷ spans) span adjoin is =
    (adjoin.0, adjoin-behind (first + length x.batches) spans span adjoin.1 (omega (arith, is, length-batches x spans)))

adjoin-joined : (first : ℕ) (spans : List Span) (number : ℕ) → Adjoin first spans → Adjoin first (joined_at spans number)
adjoin-joined first [] number adjoin = adjoin
adjoin-joined first (span ∷ []) zero adjoin = adjoin
adjoin-joined first (span ∷ next ∷ spans) zero adjoin =
    let P : ℕ → Type 0 = λ end. Adjoin end spans in
    let end : (first + length span.batches) + length next.batches ≡ first + length (span.batches ++ next.batches) =
    omega (arith, length-append span.batches next.batches) in
    (adjoin.0, subst P end adjoin.1.1)
adjoin-joined first (span ∷ spans) (suc number) adjoin = (adjoin.0, adjoin-joined (first + length span.batches) spans number adjoin.1)

batches-joined : (spans : List Span) (number : ℕ) → batches_of (joined_at spans number) ≡ batches_of spans
batches-joined [] number = refl
batches-joined (span ∷ []) zero = refl
batches-joined (span ∷ next ∷ spans) zero = append_assoc span.batches next.batches (batches_of spans)
batches-joined (span ∷ spans) (suc number) =
    let onto : List Batch → List Batch = λ batches. span.batches ++ batches in ap onto (batches-joined spans number)

covers-behind : (spans : List Span) (journal : List Batch) (batch : Batch) → Covers spans journal
    → Covers (spans ++ (span_behind journal batch ∷ [])) (journal ++ (batch ∷ []))
covers-behind spans journal batch covered =
    let count : List Batch → ℕ = λ batches. length batches in
    let behind : List Batch → List Batch = λ batches. batches ++ (batch ∷ []) in
    record {
      adjoin = adjoin-behind 0 spans (span_behind journal batch) covered.adjoin (omega (arith, ap count covered.whole));
      whole = flat_map-append (λ span. span.batches) spans (span_behind journal batch ∷ []) ∙ ap behind covered.whole;
    }

covers-joined : (spans : List Span) (journal : List Batch) (number : ℕ) → Covers spans journal → Covers (joined_at spans number) journal
covers-joined spans journal number covered = record {
  adjoin = adjoin-joined 0 spans number covered.adjoin;
  whole = batches-joined spans number ∙ covered.whole;
}

-- ---- events and runs

pub start-is-sound : (timeline : Timeline) → IsStart timeline → IsSound timeline
start-is-sound timeline start = record {
  covered = start.covered;
  prefixes = λ pass. prefixes-at-start timeline.journal timeline.passes pass start.seen;
}

event-keeps : (timeline : Timeline) (event : Event) → IsSound timeline → IsSound (after timeline event)
event-keeps timeline (Put batch) sound = record {
  covered = covers-behind timeline.cover timeline.journal batch sound.covered;
  prefixes = λ pass.
      prefix-trans (seen_by pass timeline) timeline.journal (timeline.journal ++ (batch ∷ [])) (sound.prefixes pass)
      (prefix-append timeline.journal (batch ∷ []));
}
event-keeps timeline (Join span) sound = record {
  covered = covers-joined timeline.cover timeline.journal span sound.covered;
  prefixes = sound.prefixes;
}
event-keeps timeline (Enter pass) sound =
    let P : List Batch → Type 0 = λ seen. IsPrefix seen timeline.journal in
    record {
      covered = sound.covered;
      prefixes = λ other. set-keeps P timeline.passes pass other timeline.journal (prefix-self timeline.journal) (sound.prefixes other);
    }
event-keeps timeline (Learn pass count) sound =
    let P : List Batch → Type 0 = λ seen. IsPrefix seen timeline.journal in
    let told = take count timeline.journal in
    record {
      covered = sound.covered;
      prefixes = λ other.
          set-keeps P timeline.passes pass other (longer (seen_by pass timeline) told)
          (longer-prefix (seen_by pass timeline) timeline.journal count (sound.prefixes pass)) (sound.prefixes other);
    }

event-grows : (timeline : Timeline) (event : Event) (pass : ℕ) → IsSound timeline
    → IsPrefix (seen_by pass timeline) (seen_by pass (after timeline event))
event-grows timeline (Put batch) pass sound = prefix-self (seen_by pass timeline)
event-grows timeline (Join span) pass sound = prefix-self (seen_by pass timeline)
event-grows timeline (Enter entering) pass sound = set-grows timeline.passes entering pass timeline.journal (sound.prefixes entering)
event-grows timeline (Learn learning count) pass sound =
    set-grows timeline.passes learning pass (longer (seen_by learning timeline) (take count timeline.journal))
    (longer-grows (seen_by learning timeline) timeline.journal count (sound.prefixes learning))

pub run-keeps : (timeline : Timeline) (events : List Event) → IsSound timeline → IsSound (run timeline events)
run-keeps timeline [] sound = sound
run-keeps timeline (event ∷ events) sound = run-keeps (after timeline event) events (event-keeps timeline event sound)

run-grows : (timeline : Timeline) (events : List Event) (pass : ℕ) → IsSound timeline
    → IsPrefix (seen_by pass timeline) (seen_by pass (run timeline events))
run-grows timeline [] pass sound = prefix-self (seen_by pass timeline)
run-grows timeline (event ∷ events) pass sound =
    prefix-trans (seen_by pass timeline) (seen_by pass (after timeline event)) (seen_by pass (run (after timeline event) events))
    (event-grows timeline event pass sound)
    (run-grows (after timeline event) events pass (event-keeps timeline event sound))

pub more-grows : (timeline : Timeline) (events more : List Event) (pass : ℕ) → IsSound timeline
    → IsPrefix (seen_by pass (run timeline events)) (seen_by pass (run timeline (events ++ more)))
more-grows timeline [] more pass sound = run-grows timeline more pass sound
more-grows timeline (event ∷ events) more pass sound =
    more-grows (after timeline event) events more pass (event-keeps timeline event sound)
