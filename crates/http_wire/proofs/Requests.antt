-- One request in the bytes of a connection.
use Rattle.std.proofs.Common.{◌≡◌, inl, inr, ℕ, ◌<◌, ◌≤◌, true, false, nat_le, List, ◌++◌, length, take, drop, Ok, Err, refl, sym, ap, ◌∙◌, subst, arith, append_assoc}
use Rattle.std.proofs.lemmas.Bool.Decides.{nat_tests}
use Rattle.outside.specs.Stream.{Stream}
use Rattle.outside.proofs.StreamLemmas.{reads-trans}
use Rattle.explorer_model.specs.Wire.{body_limit, Opening, Head, opening, Sized, HeadReads, Whole, Refuses, Unfinished, front_of, request_of, First}
use Rattle.explorer_model.specs.declared.wire.Asked.{Asked}
use Rattle.explorer_model.specs.declared.wire.Asked.TheVariants.{Wanted, Refused, NoMemory, Done, Cut, ReadFault}
use Rattle.explorer_model.specs.declared.wire.Request.{Request}
use Rattle.explorer_model.specs.declared.wire.RequestFault.{RequestFault}
use Rattle.explorer_model.proofs.Standing.{opening-stays}
use Rattle.http_wire.specs.Asking.{FaultsBy, IfWanted}
use Rattle.http_wire.specs.Judging.{IsRefusal, Says, request_by}
use Rattle.http_wire.specs.declared.judging.Judged.{Judged}
use Rattle.httparse.specs.Grammar.{RequestHead}
use Rattle.explorer_model.proofs.Asking.{body-bounded}
use Rattle.http_wire.proofs.Verdicts.{sized-of, request-of}
use Rattle.http_wire.specs.Steps.{IsNext, Finds, IsAskedAt, Misses, TakesBody, IsAskedShort, LacksBody}

-- ---- what stands first, by the opening

first-missed : (more : ℕ) (asked : Asked) (bytes rest : List ℕ) (at : Opening) → opening bytes ≡ at → IsAskedAt asked at
    → First more bytes asked rest
first-missed more (Refused fault) bytes rest at is asked =
    rw is (rw asked.1 (ap Refuses asked.0))
first-missed more Done bytes rest at is asked = rw is (rw asked refl)
first-missed more Cut bytes rest at is asked = rw is (rw asked refl)
first-missed more ReadFault bytes rest at is (inl blank) = inl (rw is (rw blank refl))
first-missed more ReadFault bytes rest at is (inr begun) = inr (rw is (rw begun refl))
first-missed more NoMemory bytes rest at is asked = tt
first-missed more (Wanted request) bytes rest at is asked = absurd asked

pub next-missed : (more : ℕ) (asked : Asked) (old new : List ℕ) (before after : Stream)
    → Misses opening asked old before after → IsNext more asked old new before after
next-missed more asked old new before after misses = record {
  got = misses.got;
  reads = misses.reads;
  first = first-missed more asked (old ++ misses.got) new (opening (old ++ misses.got)) refl misses.opening;
  ended = misses.ended;
  faults = misses.faults;
}

pub next-refused : (more count : ℕ) (fault : RequestFault) (old new : List ℕ) (before after : Stream)
    → Finds opening count old new before after → HeadReads (take count new) (Err fault)
    → IsNext more (Refused fault) old new before after
next-refused more count fault old new before after finds refuses = record {
  got = finds.got;
  reads = finds.reads;
  first = rw finds.head (Err fault, refuses, refl);
  ended = tt;
  faults = finds.faults;
}

pub next-no-memory : (more count : ℕ) (old new : List ℕ) (before after : Stream)
    → Finds opening count old new before after → IsNext more NoMemory old new before after
next-no-memory more count old new before after finds = record {
  got = finds.got;
  reads = finds.reads;
  first = tt;
  ended = tt;
  faults = finds.faults;
}

-- the head stays where more bytes come
head-stays : (bytes text behind more : List ℕ) → opening bytes ≡ Head text behind
    → opening (bytes ++ more) ≡ Head text (behind ++ more)
head-stays bytes text behind more is = rw is at (opening-stays bytes more)

head-after : (old a b text behind : List ℕ) → opening (old ++ a) ≡ Head text behind
    → opening (old ++ (a ++ b)) ≡ Head text (behind ++ b)
head-after old a b text behind is =
    ap opening (sym (append_assoc old a b)) ∙ head-stays (old ++ a) text behind b is

front-whole : (more : ℕ) (sized : Sized) (behind : List ℕ) → sized.body_len ≤ length behind
    → front_of more (Ok sized) behind ≡ Whole (request_of more sized.head (take sized.body_len behind)) (drop sized.body_len behind)
front-whole more sized behind fits =
    let whole : nat_le sized.body_len (length behind) ≡ true = grind (arith, nat_tests) in rw whole refl

front-short : (more : ℕ) (sized : Sized) (behind : List ℕ) → length behind < sized.body_len
    → front_of more (Ok sized) behind ≡ Unfinished
front-short more sized behind short =
    let cut : nat_le sized.body_len (length behind) ≡ false = grind (arith, nat_tests) in rw cut refl

first-short : (more : ℕ) (asked : Asked) (bytes text behind rest : List ℕ) (sized : Sized) → opening bytes ≡ Head text behind
    → HeadReads text (Ok sized) → IsAskedShort asked sized.body_len (length behind) → First more bytes asked rest
first-short more Cut bytes text behind rest sized is reads short =
    rw is (Ok sized, reads, sym (front-short more sized behind short))
first-short more ReadFault bytes text behind rest sized is reads short =
    inr (rw is (Ok sized, reads, sym (front-short more sized behind short)))
first-short more NoMemory bytes text behind rest sized is reads short = tt
first-short more (Wanted request) bytes text behind rest sized is reads short = absurd short
first-short more (Refused fault) bytes text behind rest sized is reads short = absurd short
first-short more Done bytes text behind rest sized is reads short = absurd short

pub next-short : (more count : ℕ) (asked : Asked) (sized : Sized) (old middle new : List ℕ) (before mid after : Stream)
    → Finds opening count old middle before mid → HeadReads (take count middle) (Ok sized)
    → LacksBody asked sized.body_len (drop count middle) mid after
    → IsNext more asked old new before after
next-short more count asked sized old middle new before mid after finds reads lacks = record {
  got = finds.got ++ lacks.got;
  reads = reads-trans finds.got lacks.got before mid after finds.reads lacks.reads;
  first =
      first-short more asked (old ++ (finds.got ++ lacks.got)) (take count middle) (drop count middle ++ lacks.got) new sized
      (head-after old finds.got lacks.got (take count middle) (drop count middle) finds.head) reads lacks.short;
  ended = lacks.ended;
  faults = subst (λ faults. FaultsBy asked faults after.read_faults) finds.faults lacks.faults;
}

pub next-whole : (more count : ℕ) (sized : Sized) (body old middle new : List ℕ) (before mid after : Stream)
    → Finds opening count old middle before mid → HeadReads (take count middle) (Ok sized)
    → TakesBody body sized.body_len (drop count middle) new mid after
    → IsNext more (Wanted (request_of more sized.head body)) old new before after
next-whole more count sized body old middle new before mid after finds reads takes = record {
  got = finds.got ++ takes.got;
  reads = reads-trans finds.got takes.got before mid after finds.reads takes.reads;
  first =
      let behind = drop count middle ++ takes.got in
      rw (head-after old finds.got takes.got (take count middle) (drop count middle) finds.head) (
        Ok sized,
        reads,
        ap (λ bytes. Whole (request_of more sized.head bytes) new) takes.body
            ∙ ap (λ rest. Whole (request_of more sized.head (take sized.body_len behind)) rest) takes.behind
            ∙ sym (front-whole more sized behind takes.within),
      );
  ended = tt;
  faults = takes.faults ∙ finds.faults;
}

pub next-judged : (more count : ℕ) (asked : Asked) (old new : List ℕ) (before after : Stream)
    → Finds opening count old new before after → IsRefusal (take count new) asked
    → IsNext more asked old new before after
next-judged more count (Refused fault) old new before after finds refusal =
    next-refused more count fault old new before after finds refusal
next-judged more count NoMemory old new before after finds refusal = next-no-memory more count old new before after finds
next-judged more count (Wanted request) old new before after finds refusal = absurd refusal
next-judged more count Done old new before after finds refusal = absurd refusal
next-judged more count Cut old new before after finds refusal = absurd refusal
next-judged more count ReadFault old new before after finds refusal = absurd refusal

pub next-request : (more count : ℕ) (judged : Judged) (request : Request) (body old middle rest new : List ℕ) (before mid after : Stream)
    → Finds opening count old middle before mid
    → (head : RequestHead) × Says (take count middle) judged head
    → rest ≡ drop count middle → TakesBody body judged.body_len rest new mid after
    → request ≡ request_by judged body more
    → IsNext more (Wanted request) old new before after
next-request more count judged request body old middle rest new before mid after finds (head, says) behind takes is =
    subst (λ (r : Request). IsNext more (Wanted r) old new before after)
    (sym (is ∙ request-of (take count middle) body judged head more says))
    (next-whole more count (record { head = head; body_len = judged.body_len }) body old middle new before mid after finds
    (sized-of (take count middle) judged head says)
    (subst (λ list. TakesBody body judged.body_len list new mid after) behind takes))

pub next-lacking : (more count : ℕ) (judged : Judged) (asked : Asked) (old middle rest new : List ℕ) (before mid after : Stream)
    → Finds opening count old middle before mid
    → (head : RequestHead) × Says (take count middle) judged head
    → rest ≡ drop count middle → LacksBody asked judged.body_len rest mid after
    → IsNext more asked old new before after
next-lacking more count judged asked old middle rest new before mid after finds (head, says) behind lacks =
    next-short more count asked (record { head = head; body_len = judged.body_len }) old middle new before mid after finds
    (sized-of (take count middle) judged head says)
    (subst (λ list. LacksBody asked judged.body_len list mid after) behind lacks)

pub body-within : (more : ℕ) (asked : Asked) (old new : List ℕ) (before after : Stream)
    → IsNext more asked old new before after → IfWanted asked (λ request. length request.body ≤ body_limit)
body-within more (Wanted request) old new before after next = body-bounded more (old ++ next.got) request new next.first
body-within more (Refused fault) old new before after next = tt
body-within more NoMemory old new before after next = tt
body-within more Done old new before after next = tt
body-within more Cut old new before after next = tt
body-within more ReadFault old new before after next = tt
