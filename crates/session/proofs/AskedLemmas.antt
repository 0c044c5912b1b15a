-- What is asked in the bytes of a connection, beside what is answered.
use Rattle.std.proofs.Common.{◌≡◌, ◌⊎◌, ℕ, ◌-◌, Bool, true, false, List, [], ◌∷◌, ◌++◌, Option, length, take, refl, sym, ◌∙◌, ap, subst, inl, inr, arith}
use Rattle.explorer_model.specs.declared.archive.Batch.{Batch}
use Rattle.explorer_model.specs.declared.wire.Asked.{Asked}
use Rattle.explorer_model.specs.declared.wire.Asked.TheVariants as asks
use Rattle.explorer_model.specs.declared.wire.Reply.{Reply}
use Rattle.explorer_model.specs.declared.wire.Request.{Request}
use Rattle.explorer_model.specs.declared.wire.RequestFault.{RequestFault}
use Rattle.explorer_model.specs.Timeline.{IsPrefix}
use Rattle.explorer_model.specs.Wire.{AsksBehind, AsksFrom, Empty, First, Front, IsFront, Refuses, Unfinished, Whole, asked_by, request_limit}
use Rattle.explorer_model.proofs.Asking.{one-front}
use Rattle.ingest_desk.specs.declared.report.ImportCall.{ImportCall}
use Rattle.outside.specs.Stream.{Stream}
use Rattle.session.specs.declared.serving.Ended.{Ended}
use Rattle.session.specs.declared.serving.Ended.TheVariants as ends
use Rattle.session.specs.Exchanges.{Backend, Exchange, Grants, Moment, AreExchanges, asked_in, moment_of}
use Rattle.session.specs.Laws.{IsAllAnswered, LastLacksMemory}
use Rattle.session.specs.Replies.{Offer, closes, route_of}
use Rattle.session.specs.Serving.{AreOpen, AsksIn, HasCause, LastCloses, Served}

never : {A : Type 0} (b : Bool) → b ≡ false → b ≡ true → A
never b p q = absurd (cc)

not-more : {A : Type 0} (x : Asked) (xs : List Asked) → x ∷ xs ≡ [] → A
not-more x xs same = absurd (cc)

-- what is said of the bytes' end stands first
pub IsEnd : Asked → ℕ → List ℕ → Type 0
IsEnd asked more bytes = (front : Front) × IsFront more bytes front × (asked ≡ asked_by front) × Ends front
  where
    Ends : Front → Type 0
    Ends Unfinished = Unit {0}
    Ends Empty = Unit {0}
    Ends _ = ⊥

end-alone : (asked : Asked) (more : ℕ) (bytes : List ℕ) → IsEnd asked more bytes → AsksFrom more bytes (asked ∷ [])
unfolding IsEnd
end-alone asked more bytes (Unfinished, is, same, ends) = (Unfinished, is, same, refl)
end-alone asked more bytes (Empty, is, same, ends) = (Empty, is, same, refl)
end-alone asked more bytes (Whole request rest, is, same, ends) = absurd ends
end-alone asked more bytes (Refuses fault, is, same, ends) = absurd ends

-- one that leaves the connection open, and then others
open-first : (more : ℕ) (bytes : List ℕ) (asked : Asked) (behind : List ℕ) (others : List Asked) → closes asked ≡ false
    → First more bytes asked behind → AsksFrom (more - 1) behind others → AsksFrom more bytes (asked ∷ others)
open-first more bytes (asks.Wanted request) behind others stays first later =
    (Whole request behind, first, refl, rw stays later)
open-first more bytes (asks.Refused fault) behind others stays first later = absurd (cc)
open-first more bytes asks.NoMemory behind others stays first later = absurd (cc)
open-first more bytes asks.Done behind others stays first later = absurd (cc)
open-first more bytes asks.Cut behind others stays first later = absurd (cc)
open-first more bytes asks.ReadFault behind others stays first later = absurd (cc)

pub open-asked : (more : ℕ) (bytes : List ℕ) (xs : List Exchange) (rest : List ℕ) (asked : Asked) → AreOpen xs
    → AsksIn more bytes (asked_in xs) rest → IsEnd asked (more - length xs) rest
    → AsksFrom more bytes (asked_in xs ++ asked ∷ [])
open-asked more bytes [] rest asked open_still a end =
    let same : more - 0 ≡ more = omega arith in
    end-alone asked more bytes (subst (λ (n : ℕ). IsEnd asked n bytes) same (subst (λ (b : List ℕ). IsEnd asked (more - 0) b) a end))
open-asked more bytes (x ∷ xs) rest asked open_still a end =
    let same : more - length (x ∷ xs) ≡ more - 1 - length xs = omega arith in
    let later = open-asked (more - 1) a.1 xs rest asked open_still.1 a.4 (subst (λ (n : ℕ). IsEnd asked n rest) same end) in
    open-first more bytes x.asked a.1 (asked_in xs ++ asked ∷ []) open_still.0 a.2 later

-- ---- a last one that closes

closing-alone : (offer : Offer) (asked : Asked) (journal : List Batch) (before after : Moment) (call : Option ImportCall) (reply : Reply)
    → Grants offer (route_of offer asked) journal before after call reply → (more : ℕ) (bytes behind : List ℕ) → closes asked ≡ true
    → First more bytes asked behind → (asked ≡ asks.NoMemory) ⊎ AsksFrom more bytes (asked ∷ asks.Done ∷ [])
closing-alone offer (asks.Wanted request) journal before after call reply grants more bytes behind shut first =
    inr (Whole request behind, first, refl, rw shut refl)
closing-alone offer (asks.Refused fault) journal before after call reply grants more bytes behind shut first =
    inr (Refuses fault, first, refl, refl)
closing-alone offer asks.NoMemory journal before after call reply grants more bytes behind shut first = inl refl
closing-alone offer asks.Done journal before after call reply grants more bytes behind shut first = absurd grants
closing-alone offer asks.Cut journal before after call reply grants more bytes behind shut first = absurd grants
closing-alone offer asks.ReadFault journal before after call reply grants more bytes behind shut first = absurd grants

-- where others follow, the connection stays open
stays-open : (b : Bool) (x : Asked) (xs : List Asked) → (b ≡ true → x ∷ xs ≡ []) → b ≡ false
stays-open true x xs closed = not-more x xs (closed refl)
stays-open false x xs closed = refl

closing-asked : (offer : Offer) (journal : List Batch) (before after : Moment) (more : ℕ) (bytes : List ℕ) (xs : List Exchange) (rest : List ℕ)
    → AreExchanges offer journal before xs after → AsksIn more bytes (asked_in xs) rest → LastCloses xs
    → LastLacksMemory xs ⊎ AsksFrom more bytes (asked_in xs ++ asks.Done ∷ [])
closing-asked offer journal before after more bytes [] rest s a shut = absurd shut
closing-asked offer journal before after more bytes (x ∷ []) rest s a shut =
    closing-alone offer x.asked (take s.0.seen journal) before s.0 x.call x.reply s.3 more bytes a.1 shut a.2
closing-asked offer journal before after more bytes (x ∷ y ∷ ys) rest s a shut =
    by (closing-asked offer journal s.0 after (more - 1) a.1 (y ∷ ys) rest s.4 a.4 shut)
  where
    by : LastLacksMemory (y ∷ ys) ⊎ AsksFrom (more - 1) a.1 (asked_in (y ∷ ys) ++ asks.Done ∷ [])
        → LastLacksMemory (x ∷ y ∷ ys) ⊎ AsksFrom more bytes (asked_in (x ∷ y ∷ ys) ++ asks.Done ∷ [])
    by (inl lacks) = inl lacks
    by (inr later) =
        let stays = stays-open (closes x.asked) y.asked (asked_in ys) a.3 in
        inr (open-first more bytes x.asked a.1 (asked_in (y ∷ ys) ++ asks.Done ∷ []) stays a.2 later)

-- ---- what stands first alone

-- what is asked first is the first of all that is asked
Begins : Asked → ℕ → List ℕ → List Asked → Type 0
Begins asked more behind all =
    (others : List Asked) × (all ≡ asked ∷ others) × (closes asked ≡ false → AsksFrom (more - 1) behind others)

whole-begins : (more : ℕ) (bytes : List ℕ) (request : Request) (behind : List ℕ) → IsFront more bytes (Whole request behind)
    → (all : List Asked) → AsksFrom more bytes all → Begins (asks.Wanted request) more behind all
unfolding Begins
whole-begins more bytes request behind first [] h = absurd h
whole-begins more bytes request behind first (asked ∷ others) h =
    let one : Whole request behind ≡ h.0 = one-front more bytes (Whole request behind) h.0 first h.1 in
    let is : asked ≡ asks.Wanted request = h.2 ∙ ap asked_by (sym one) in
    let later = subst (λ (f : Front). AsksBehind (λ rest. AsksFrom (more - 1) rest others) f others) (sym one) h.3 in
    (others, ap (λ (a : Asked). a ∷ others) is, λ stays. rw stays at later)

refused-begins : (more : ℕ) (bytes : List ℕ) (fault : RequestFault) (behind : List ℕ) → IsFront more bytes (Refuses fault)
    → (all : List Asked) → AsksFrom more bytes all → Begins (asks.Refused fault) more behind all
unfolding Begins
refused-begins more bytes fault behind first [] h = absurd h
refused-begins more bytes fault behind first (asked ∷ others) h =
    let one : Refuses fault ≡ h.0 = one-front more bytes (Refuses fault) h.0 first h.1 in
    let is : asked ≡ asks.Refused fault = h.2 ∙ ap asked_by (sym one) in
    (others, ap (λ (a : Asked). a ∷ others) is, λ stays. absurd (cc))

first-begins : (offer : Offer) (asked : Asked) (journal : List Batch) (before after : Moment) (call : Option ImportCall) (reply : Reply)
    → Grants offer (route_of offer asked) journal before after call reply → (more : ℕ) (bytes behind : List ℕ)
    → First more bytes asked behind
    → (asked ≡ asks.NoMemory) ⊎ ((all : List Asked) → AsksFrom more bytes all → Begins asked more behind all)
first-begins offer (asks.Wanted request) journal before after call reply grants more bytes behind first = inr (whole-begins more bytes request behind first)
first-begins offer (asks.Refused fault) journal before after call reply grants more bytes behind first = inr (refused-begins more bytes fault behind first)
first-begins offer asks.NoMemory journal before after call reply grants more bytes behind first = inl refl
first-begins offer asks.Done journal before after call reply grants more bytes behind first = absurd grants
first-begins offer asks.Cut journal before after call reply grants more bytes behind first = absurd grants
first-begins offer asks.ReadFault journal before after call reply grants more bytes behind first = absurd grants

front-asked : (offer : Offer) (journal : List Batch) (before after : Moment) (more : ℕ) (bytes : List ℕ) (xs : List Exchange) (rest : List ℕ)
    → AreExchanges offer journal before xs after → AsksIn more bytes (asked_in xs) rest
    → LastLacksMemory xs ⊎ ((all : List Asked) → AsksFrom more bytes all → IsPrefix (asked_in xs) all)
unfolding Begins
front-asked offer journal before after more bytes [] rest s a = inr (λ all h. record { rest = all; is = refl })
front-asked offer journal before after more bytes (x ∷ []) rest s a =
    by (first-begins offer x.asked (take s.0.seen journal) before s.0 x.call x.reply s.3 more bytes a.1 a.2)
  where
    by : (x.asked ≡ asks.NoMemory) ⊎ ((all : List Asked) → AsksFrom more bytes all → Begins x.asked more a.1 all)
        → LastLacksMemory (x ∷ []) ⊎ ((all : List Asked) → AsksFrom more bytes all → IsPrefix (asked_in (x ∷ [])) all)
    by (inl lacks) = inl lacks
    by (inr begins) = inr (λ all h. let b = begins all h in record { rest = b.0; is = b.1 })
front-asked offer journal before after more bytes (x ∷ y ∷ ys) rest s a =
    by (first-begins offer x.asked (take s.0.seen journal) before s.0 x.call x.reply s.3 more bytes a.1 a.2)
    (front-asked offer journal s.0 after (more - 1) a.1 (y ∷ ys) rest s.4 a.4)
  where
    stays : closes x.asked ≡ false
    stays = stays-open (closes x.asked) y.asked (asked_in ys) a.3

    no-memory : x.asked ≡ asks.NoMemory → ⊥
    no-memory lacks = let shut : closes x.asked ≡ true = ap closes lacks in never (closes x.asked) stays shut

    by : (x.asked ≡ asks.NoMemory) ⊎ ((all : List Asked) → AsksFrom more bytes all → Begins x.asked more a.1 all)
        → LastLacksMemory (y ∷ ys) ⊎ ((all : List Asked) → AsksFrom (more - 1) a.1 all → IsPrefix (asked_in (y ∷ ys)) all)
        → LastLacksMemory (x ∷ y ∷ ys) ⊎ ((all : List Asked) → AsksFrom more bytes all → IsPrefix (asked_in (x ∷ y ∷ ys)) all)
    by (inl lacks) later = absurd (no-memory lacks)
    by (inr begins) (inl lacks) = inl lacks
    by (inr begins) (inr later) = inr (λ all h.
        let b = begins all h in
        let p = later b.0 (b.2 stays) in
        record { rest = p.rest; is = b.1 ∙ ap (λ (l : List Asked). x.asked ∷ l) p.is })

-- ---- the whole connection

done-ends : (more : ℕ) (bytes : List ℕ) → First more bytes asks.Done [] → IsEnd asks.Done more bytes
unfolding IsEnd
done-ends more bytes first = (Empty, first, refl, tt)

cut-ends : (more : ℕ) (bytes : List ℕ) → First more bytes asks.Cut [] → IsEnd asks.Cut more bytes
unfolding IsEnd
cut-ends more bytes first = (Unfinished, first, refl, tt)

pub all-answered : (offer : Offer) (link link' : Stream) (before after : Backend) (ended : Ended)
    (s : Served offer link before ended link' after)
    → IsAllAnswered ended s.taken s.exchanges
all-answered offer link link' before after ends.Done s = by s.cause
  where
    by : HasCause ends.Done s.exchanges s.rest link'.left → IsAllAnswered ends.Done s.taken s.exchanges
    by (inl shut) = closing-asked offer after.pass.seen (moment_of before) (moment_of after) request_limit s.taken s.exchanges s.rest s.served s.asked shut
    by (inr ended) = inr (open-asked request_limit s.taken s.exchanges s.rest asks.Done ended.0.open_still s.asked
        (done-ends (request_limit - length s.exchanges) s.rest ended.0.next))
all-answered offer link link' before after ends.Cut s =
    open-asked request_limit s.taken s.exchanges s.rest asks.Cut s.cause.0.open_still s.asked
    (cut-ends (request_limit - length s.exchanges) s.rest s.cause.0.next)
all-answered offer link link' before after ends.ReadFault s = by s.cause.next
  where
    by : First (request_limit - length s.exchanges) s.rest asks.ReadFault [] → IsAllAnswered ends.ReadFault s.taken s.exchanges
    by (inl between) = inl (open-asked request_limit s.taken s.exchanges s.rest asks.Done s.cause.open_still s.asked
        (done-ends (request_limit - length s.exchanges) s.rest between))
    by (inr within) = inr (open-asked request_limit s.taken s.exchanges s.rest asks.Cut s.cause.open_still s.asked
        (cut-ends (request_limit - length s.exchanges) s.rest within))
all-answered offer link link' before after ends.WriteFault s =
    front-asked offer after.pass.seen (moment_of before) (moment_of after) request_limit s.taken s.exchanges s.rest s.served s.asked
