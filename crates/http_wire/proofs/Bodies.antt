-- A body that is filled by reads.
use Rattle.std.proofs.Common.{◌≡◌, Bool, true, false, if◌then◌else◌, ℕ, suc, ◌+◌, ◌<◌, ◌≤◌, List, [], ◌∷◌, ◌++◌, length, take, drop, min, refl, sym, ap, ◌∙◌, subst, arith, append_assoc, length-append}
use Rattle.std.proofs.lemmas.List.{append-nil, take_all, take-append-le, drop_all, length-take-le}
use borrow.Rule.Slice.PartMut.{put_mid}
use Rattle.outside.specs.Stream.{Stream, Reads, Rises, Gives, FailsToGive}
use Rattle.outside.proofs.StreamLemmas.{reads-none, reads-trans, reads-gives, reads-fails}
use Rattle.explorer_model.specs.declared.wire.Asked.{Asked}
use Rattle.explorer_model.specs.declared.wire.Asked.TheVariants.{Wanted, Refused, Done, NoMemory, Cut, ReadFault}
use Rattle.http_wire.specs.Steps.{IsAskedShort, TakesBody, LacksBody, TakesAhead, Grows, Completes, Breaks}
use Rattle.http_wire.specs.Asking.{FaultsBy}
use Rattle.http_wire.proofs.Places.{take-put}

-- reads filled the bytes from start up to a place
pub record Filled (start at : ℕ) (old new : List ℕ) (before after : Stream) : Type 0 where
  pub got : List ℕ
  pub reads : Reads got before after
  pub faults : after.read_faults ≡ before.read_faults
  pub front : take at new ≡ take start old ++ got
  pub counted : start + length got ≡ at

pub filled-none : (start : ℕ) (old : List ℕ) (s : Stream) → Filled start start old old s s
filled-none start old s = record {
  got = [];
  reads = reads-none s;
  faults = refl;
  front = sym (append-nil (take start old));
  counted = omega arith;
}

pub filled-gives : (start at count room : ℕ) (old new into : List ℕ) (before mid after : Stream)
    → at ≤ length new → Filled start at old new before mid → Gives count into mid after
    → Filled start (at + count) old (put_mid at room new into) before after
filled-gives start at count room old new into before mid after within filled gives = record {
  got = filled.got ++ take count into;
  reads = reads-trans filled.got (take count into) before mid after filled.reads (reads-gives count into mid after gives);
  faults = ap (λ (s : Stream). s.read_faults) gives.rest ∙ filled.faults;
  front =
      take-put new into (drop room (drop at new)) at count within gives.within
      ∙ ap (λ front. front ++ take count into) filled.front
      ∙ append_assoc (take start old) filled.got (take count into);
  counted = omega (arith, filled.counted, length-append filled.got (take count into), length-take-le count into gives.within);
}

pub completes-filled : (start at : ℕ) (old new : List ℕ) (before after : Stream) → length new ≡ length old
    → at ≡ length new → Filled start at old new before after → Completes start old new before after
completes-filled start at old new before after size all filled = record {
  got = filled.got;
  reads = filled.reads;
  faults = filled.faults;
  filled = sym (take_all at new (omega arith)) ∙ filled.front;
  full = omega (arith, filled.counted);
}

pub breaks-cut : (start at size : ℕ) (old new into : List ℕ) (before mid after : Stream) → at < size
    → Filled start at old new before mid → Gives 0 into mid after
    → Breaks Cut start size before after
breaks-cut start at size old new into before mid after short filled gives = record {
  got = filled.got ++ [];
  reads = reads-trans filled.got [] before mid after filled.reads (reads-gives 0 into mid after gives);
  faults = ap (λ (s : Stream). s.read_faults) gives.rest ∙ filled.faults;
  ended = gives.ended refl;
  short = omega (arith, filled.counted, ap length (append-nil filled.got));
}

pub breaks-fault : (start at size : ℕ) (old new : List ℕ) (before mid after : Stream) → at < size
    → Filled start at old new before mid → FailsToGive mid after
    → Breaks ReadFault start size before after
breaks-fault start at size old new before mid after short filled fails = record {
  got = filled.got ++ [];
  reads = reads-trans filled.got [] before mid after filled.reads (reads-fails mid after fails);
  faults = subst (λ faults. Rises faults after.read_faults) filled.faults fails.rises;
  ended = tt;
  short = omega (arith, filled.counted, ap length (append-nil filled.got));
}

-- ---- a body that grows

pub grows-none : (old : List ℕ) (s : Stream) → Grows old old s s
grows-none old s = record { got = []; reads = reads-none s; faults = refl; grown = sym (append-nil old) }

-- room that was made behind a body is filled
pub grows-more : (old body zeros new : List ℕ) (before mid after : Stream)
    → Grows old body before mid → Completes (length body) (body ++ zeros) new mid after
    → Grows old new before after
grows-more old body zeros new before mid after grows completes =
    let front : take (length body) (body ++ zeros) ≡ body =
    take-append-le (length body) body zeros (omega arith) ∙ take_all (length body) body (omega arith) in
    record {
      got = grows.got ++ completes.got;
      reads = reads-trans grows.got completes.got before mid after grows.reads completes.reads;
      faults = completes.faults ∙ grows.faults;
      grown =
          completes.filled
          ∙ ap (λ bytes. bytes ++ completes.got) (front ∙ grows.grown)
          ∙ append_assoc old grows.got completes.got;
    }

-- both of two numbers are within a bound, so whichever is taken
pub either-within : (taken : Bool) (first second bound : ℕ) → first ≤ bound → second ≤ bound
    → (if taken then first else second) ≤ bound
either-within true first second bound first_within second_within = first_within
either-within false first second bound first_within second_within = second_within

-- what is less than a part is less than all
short-more : (asked : Asked) (part all there other : ℕ) → (there < part → other < all)
    → IsAskedShort asked part there → IsAskedShort asked all other
short-more Cut part all there other less short = less short
short-more ReadFault part all there other less short = less short
short-more NoMemory part all there other less short = tt
short-more (Wanted request) part all there other less short = absurd short
short-more (Refused fault) part all there other less short = absurd short
short-more Done part all there other less short = absurd short

faults-more : (asked : Asked) (before mid after : ℕ) → mid ≡ before → FaultsBy asked mid after
    → FaultsBy asked before after
faults-more asked before mid after same faults = subst (λ n. FaultsBy asked n after) same faults

-- reads came to no end within a part
pub breaks-more : (asked : Asked) (old body : List ℕ) (start part all : ℕ) (before mid after : Stream)
    → Grows old body before mid → start ≡ length body → part ≤ all → Breaks asked start part mid after
    → Breaks asked (length old) all before after
breaks-more asked old body start part all before mid after grows begun within breaks = record {
  got = grows.got ++ breaks.got;
  reads = reads-trans grows.got breaks.got before mid after grows.reads breaks.reads;
  faults = faults-more asked before.read_faults mid.read_faults after.read_faults grows.faults breaks.faults;
  ended = breaks.ended;
  short =
      short-more asked part all (start + length breaks.got) (length old + length (grows.got ++ breaks.got))
      (λ less. omega (arith, ap length grows.grown, length-append old grows.got, length-append grows.got breaks.got))
      breaks.short;
}

pub breaks-memory : (old body : List ℕ) (all : ℕ) (before after : Stream) → Grows old body before after
    → Breaks NoMemory (length old) all before after
breaks-memory old body all before after grows =
    record { got = grows.got; reads = grows.reads; faults = grows.faults; ended = tt; short = tt }

-- ---- behind what was read ahead

-- bytes that follow on those held of a list: all of it, or there are none
split-take : (list got : List ℕ) (count held : ℕ) → held ≡ min (length list) count → held + length got ≡ count
    → (count ≤ length (list ++ got)) × (take held list ++ got ≡ take count (list ++ got)) × (drop held list ≡ drop count (list ++ got))
split-take list [] count held least full =
    let same : held ≡ count = omega arith in
    let whole : list ++ [] ≡ list = append-nil list in (
      omega (arith, ap length whole),
      append-nil (take held list) ∙ ap (λ n. take n list) same ∙ ap (take count) (sym whole),
      ap (λ n. drop n list) same ∙ ap (drop count) (sym whole),
    )
split-take list (x ∷ got) count held least full =
    let all = list ++ (x ∷ got) in
    let size : length all ≡ length list + suc (length got) = length-append list (x ∷ got) in
    let some : held + suc (length got) ≡ count = full in
    let whole : held ≡ length list = omega arith in (
      omega arith,
      ap (λ front. front ++ (x ∷ got)) (take_all held list (omega arith)) ∙ sym (take_all count all (omega arith)),
      drop_all held list (omega arith) ∙ sym (drop_all count all (omega arith)),
    )

-- those held of the list, and those that were read, are the body
pub takes-body : (count : ℕ) (first body ahead new : List ℕ) (before after : Stream)
    → TakesAhead first count ahead new → Grows first body before after → length body ≡ count
    → TakesBody body count ahead new before after
takes-body count first body ahead new before after taken grows whole =
    let held = min (length ahead) count in
    let size : length first ≡ held = ap length taken.body ∙ length-take-le held ahead (omega arith) in
    let full : held + length grows.got ≡ count =
    omega (arith, size, ap length grows.grown, length-append first grows.got, whole) in
    let split = split-take ahead grows.got count held refl full in
    record {
      got = grows.got;
      reads = grows.reads;
      faults = grows.faults;
      within = split.0;
      body = grows.grown ∙ ap (λ bytes. bytes ++ grows.got) taken.body ∙ split.1;
      behind = taken.behind ∙ split.2;
    }

pub lacks-body : (asked : Asked) (count : ℕ) (first ahead new : List ℕ) (before after : Stream)
    → TakesAhead first count ahead new → Breaks asked (length first) count before after
    → LacksBody asked count ahead before after
lacks-body asked count first ahead new before after taken breaks =
    let held = min (length ahead) count in
    let size : length first ≡ held = ap length taken.body ∙ length-take-le held ahead (omega arith) in
    record {
      got = breaks.got;
      reads = breaks.reads;
      faults = breaks.faults;
      ended = breaks.ended;
      short =
          short-more asked count count (length first + length breaks.got) (length (ahead ++ breaks.got))
          (λ less. omega (arith, size, length-append ahead breaks.got)) breaks.short;
    }

pub lacks-memory : (count : ℕ) (ahead : List ℕ) (s : Stream) → LacksBody NoMemory count ahead s s
lacks-memory count ahead s = record { got = []; reads = reads-none s; faults = refl; ended = tt; short = tt }
