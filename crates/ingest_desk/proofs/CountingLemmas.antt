-- Batches that are counted each by itself.
use Rattle.std.proofs.Common.{rules, ◌≡◌, ◌<◌, ◌≤◌, ◌+◌, ◌^◌, ℕ, List, [], ◌∷◌, ◌++◌, length, map, Option, None, Some, refl, sym, ap, ◌∙◌, subst, arith, length-append}
use Rattle.std.specs.Arc.{arc_value}
use Rattle.std.specs.List.{All, AllZip}
use Rattle.std.specs.Prelude.{IfSome, MatchOption}
use Rattle.std.proofs.lemmas.List.{append_assoc, append-nil, nil_from_length}
use Rattle.std.proofs.lemmas.List.Elements.{All-cons, All-head, All-nil, All-tail}
use Rattle.explorer_model.specs.declared.archive.Batch.{Batch}
use Rattle.explorer_model.specs.Journal.{IsSound}
use Rattle.explorer_model.specs.StoreFile.{IsStorable, gate_limit, payload_of, store_of}
use Rattle.published_index.specs.Cover.{IsList, journal_of}
use Rattle.segment_blocks.specs.Segment.{CountedSpan}
use Rattle.ingest_desk.specs.declared.counting.BatchAt.{BatchAt}
use Rattle.ingest_desk.specs.declared.counting.CountedBatch.{CountedBatch}
use Rattle.ingest_desk.specs.declared.register.Register.{Register}
use Rattle.ingest_desk.specs.Registers.{IsRegisterOf}
use Rattle.ingest_desk.specs.declared.recount.Recounted.{Recounted}
use Rattle.ingest_desk.specs.Recounts.{AllFrom, HasOneMore, IsAloneAt, IsAt, IsCountedAt, IsNeverSound, IsRecountOf, IsUnsoundAt}
use Rattle.ingest_desk.proofs.RecountLemmas.{IsCountedUpTo, counted_more, journal_more, list_more, next_low, unsound_at}

-- ---- what stands for batches, one after another

-- so far, behind which what is left follows
abbrev pub LeadFrom : {X : Type 0} → (ℕ → Batch → X → Type 0) → List Batch → List X → ℕ → List Batch → Type 0
LeadFrom {X} R all xs place left = (others : List X) → AllFrom R place left others → AllFrom R 0 all (xs ++ others)

pub one-from : {X : Type 0} (R : ℕ → Batch → X → Type 0) (all left rest : List Batch) (xs more : List X) (place : ℕ) (batch : Batch) (x : X)
    → left ≡ batch ∷ rest → more ≡ xs ++ x ∷ [] → R place batch x → LeadFrom R all xs place left → LeadFrom R all more (place + 1) rest
one-from {X} R all left rest xs more place batch x first pushed is lead others each =
    subst (AllFrom R 0 all) (sym (ap (λ l. l ++ others) pushed ∙ append_assoc xs (x ∷ []) others))
    (lead (x ∷ others) (subst (λ (l : List Batch). AllFrom R place l (x ∷ others)) (sym first) (is, each)))

pub all-from : {X : Type 0} (R : ℕ → Batch → X → Type 0) (all left : List Batch) (xs : List X) (place : ℕ) → length left ≡ 0
    → LeadFrom R all xs place left → AllFrom R 0 all xs
all-from {X} R all left xs place none lead =
    subst (AllFrom R 0 all) (append-nil xs)
    (lead [] (subst (λ (l : List Batch). AllFrom R place l []) (sym (nil_from_length left none)) tt))

-- ---- batches at their places

-- what a leaf asks of a batch
abbrev pub CanCount : BatchAt → Type 0
CanCount at = IsStorable at.batch × (at.place + 1 < 2 ^ 32)

pub can-count : (batches : List Batch) (ats : List BatchAt) (place : ℕ) → AllFrom IsAt place batches ats → All IsStorable batches
    → All CanCount ats
can-count [] [] place each all = All-nil CanCount
can-count [] (at ∷ ats) place each all = absurd each
can-count (batch ∷ batches) [] place each all = absurd each
can-count (batch ∷ batches) (at ∷ ats) place each all =
    All-cons CanCount at ats
    (subst IsStorable (sym each.0.batch_is) (All-head IsStorable batch batches all), each.0.fits)
    (can-count batches ats (place + 1) each.1 (All-tail IsStorable batch batches all))

alone-at : {S : Type 0} (span : S → CountedSpan) (place : ℕ) (batch : Batch) (at : BatchAt) (found : Option S) → IsAt place batch at
    → MatchOption found (IsNeverSound at.batch) (λ segment. IsAloneAt at.place at.batch (span segment))
    → MatchOption found (IsNeverSound batch) (λ segment. IsAloneAt place batch (span segment))
alone-at span place batch at None is never = subst IsNeverSound is.batch_is never
alone-at span place batch at (Some segment) is alone = record {
  tally = alone.tally;
  counted = alone.counted;
  batch_is = alone.batch_is ∙ is.batch_is;
  made_of = alone.made_of;
  first = λ below. alone.first is.fits ∙ is.place_is below;
}

-- a batch that is counted at the place that stands for its own
abbrev pub IsCountedThere : BatchAt → CountedBatch → Type 0
IsCountedThere at counted = IsCountedAt at.place at.batch counted

counted-at : (place : ℕ) (batch : Batch) (at : BatchAt) (counted : CountedBatch) → IsAt place batch at → IsCountedThere at counted
    → IsCountedAt place batch counted
counted-at place batch at counted is there = record {
  size = there.size ∙ ap (λ (b : Batch). length (payload_of b)) is.batch_is;
  segment = alone-at arc_value place batch at counted.segment is there.segment;
}

pub all-counted : (batches : List Batch) (ats : List BatchAt) (counted : List CountedBatch) (place : ℕ) → AllFrom IsAt place batches ats
    → AllZip IsCountedThere ats counted → AllFrom IsCountedAt place batches counted
all-counted [] [] [] place each there = tt
all-counted [] [] (one ∷ counted) place each there = absurd there
all-counted [] (at ∷ ats) counted place each there = absurd each
all-counted (batch ∷ batches) [] counted place each there = absurd each
all-counted (batch ∷ batches) (at ∷ ats) [] place each there = absurd there
all-counted (batch ∷ batches) (at ∷ ats) (one ∷ counted) place each there = (
  counted-at place batch at one each.0 there.0,
  all-counted batches ats counted (place + 1) each.1 there.1,
)

-- ---- batches that are put together

-- the journal up to a gate is put together, and the batches behind were counted
pub record Reaches (journal : List Batch) (gate : ℕ) (register : Register) (list : List CountedSpan) (left : List CountedBatch) : Type 0 where
  pub others : List Batch
  pub so_far : IsCountedUpTo journal gate register list others
  pub counted : AllFrom IsCountedAt (length (journal_of list)) others left

-- the next batch of those that were counted
pub record IsNext (place : ℕ) (others : List Batch) (one : CountedBatch) (left : List CountedBatch) : Type 0 where
  pub batch : Batch
  pub later : List Batch
  pub are : others ≡ batch ∷ later
  pub at : IsCountedAt place batch one
  pub further : AllFrom IsCountedAt (place + 1) later left

pub next-of : (place : ℕ) (others : List Batch) (one : CountedBatch) (all left : List CountedBatch) → all ≡ one ∷ left
    → AllFrom IsCountedAt place others all → IsNext place others one left
next-of place others one all left first each = by others (subst (AllFrom IsCountedAt place others) first each)
  where
    by : (others : List Batch) → AllFrom IsCountedAt place others (one ∷ left) → IsNext place others one left
    by [] each = absurd each
    by (batch ∷ later) each = record { batch = batch; later = later; are = refl; at = each.0; further = each.1 }

-- no batch is left
pub none-left : (place : ℕ) (others : List Batch) (left : List CountedBatch) → length left ≡ 0 → AllFrom IsCountedAt place others left → others ≡ []
none-left place others left none each = by others (subst (AllFrom IsCountedAt place others) (nil_from_length left none) each)
  where
    by : (others : List Batch) → AllFrom IsCountedAt place others [] → others ≡ []
    by [] each = refl
    by (batch ∷ later) each = absurd each

-- a segment that was made has a batch
pub some-alone : {S : Type 0} (span : S → CountedSpan) (place : ℕ) (batch : Batch) (found : Option S)
    → MatchOption found (IsNeverSound batch) (λ segment. IsAloneAt place batch (span segment))
    → IfSome found (λ segment. (at : ℕ) × (of : Batch) × IsAloneAt at of (span segment))
some-alone span place batch None never = tt
some-alone span place batch (Some segment) alone = (place, batch, alone)

pub begins : (journal : List Batch) (register : Register) (list : List CountedSpan) (counted : List CountedBatch) → list ≡ []
    → IsRegisterOf [] register → AllFrom IsCountedAt 0 journal counted → Reaches journal 12 register list counted
begins journal register list counted none knows each =
    subst (λ (l : List CountedSpan). Reaches journal 12 register l counted) (sym none)
    (record {
      others = journal;
      so_far = record {
        before = [];
        split = refl;
        knows = knows;
        list_is = record { few = omega arith; covers = (search rules) };
        whole = refl;
        few = omega arith;
        place = refl;
      };
      counted = each;
    })

module _ (journal : List Batch) (gate : ℕ) (register : Register) (list : List CountedSpan) (left rest : List CountedBatch) (one : CountedBatch)
    (is : Reaches journal gate register list left) (first : left ≡ one ∷ rest) where
  -- the batch that is put in next
  pub next-in : IsNext (length is.so_far.before) is.others one rest
  next-in =
      next-of (length is.so_far.before) is.others one left rest first
      (subst (λ (n : ℕ). AllFrom IsCountedAt n is.others left) (ap length is.so_far.whole) is.counted)

  pub stops-there : ¬ IsSound (is.so_far.before ++ next-in.batch ∷ []) → IsUnsoundAt journal gate
  stops-there unsound =
      unsound_at journal is.so_far.before is.others next-in.later next-in.batch gate is.so_far.split is.so_far.place next-in.are
      is.so_far.knows.sound unsound

  pub low-behind : length (store_of journal) ≤ gate_limit → gate + (5 + one.size) ≤ gate_limit
  low-behind low =
      let below = next_low journal is.so_far.before is.others next-in.later next-in.batch gate is.so_far.split is.so_far.place next-in.are low in
      omega (arith, below, next-in.at.size)

  module _ (new : Register) (segment : CountedSpan) (more : HasOneMore is.so_far.before next-in.batch new segment) where
    pub list-behind : IsList (list ++ segment ∷ [])
    list-behind = list_more journal gate register list is.others next-in.later next-in.batch is.so_far next-in.are new segment more

    pub journal-behind : journal_of (list ++ segment ∷ []) ≡ is.so_far.before ++ next-in.batch ∷ []
    journal-behind = journal_more journal gate register list is.others next-in.later next-in.batch is.so_far next-in.are new segment more

    pub reaches-more : (after : List CountedSpan) → IsList after → journal_of after ≡ journal_of (list ++ segment ∷ []) → length after ≤ 18
        → Reaches journal (gate + (5 + one.size)) new after rest
    reaches-more after list_is same few = record {
      others = next-in.later;
      so_far = counted_more journal gate register list is.others next-in.later next-in.batch is.so_far next-in.are new segment after
          (gate + (5 + one.size)) more list_is same few (ap (λ n. gate + (5 + n)) next-in.at.size);
      counted = subst (λ (n : ℕ). AllFrom IsCountedAt n next-in.later rest)
          (sym (ap length (same ∙ journal-behind) ∙ length-append is.so_far.before (next-in.batch ∷ []))) next-in.further;
    }

-- all batches are put together
pub reached : (journal : List Batch) (gate : ℕ) (recounted : Recounted) (left : List CountedBatch) → length left ≡ 0
    → Reaches journal gate recounted.register (map arc_value recounted.segments.items) left → IsRecountOf journal recounted
reached journal gate recounted left none is =
    let are : journal ≡ is.so_far.before =
    is.so_far.split
    ∙ ap (λ (l : List Batch). is.so_far.before ++ l)
    (none-left (length (journal_of (map arc_value recounted.segments.items))) is.others left none is.counted)
    ∙ append-nil is.so_far.before in
    record {
      knows = subst (λ (j : List Batch). IsRegisterOf j recounted.register) (sym are) is.so_far.knows;
      list = is.so_far.list_is;
      whole = is.so_far.whole ∙ sym are;
    }
