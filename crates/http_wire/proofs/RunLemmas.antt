-- A whole run of calls of `next`.
use Rattle.std.proofs.Common.{◌≡◌, ◌⊎◌, inl, inr, ℕ, zero, suc, ◌-◌, ◌<◌, Bool, true, false, MatchBool, if◌then◌else◌, List, [], ◌∷◌, ◌++◌, Option, Some, None, refl, sym, ap, ◌∙◌, subst, arith, append_assoc, append-nil}
use Rattle.std.specs.Io.KnownBytes.{Consumes, IsAtEnd}
use Rattle.outside.specs.Stream.{Stream}
use Rattle.explorer_model.specs.declared.wire.Asked.{Asked}
use Rattle.explorer_model.specs.declared.wire.Asked.TheVariants.{Wanted, Refused, NoMemory, Done, Cut, ReadFault}
use Rattle.explorer_model.specs.declared.wire.Request.{Request}
use Rattle.explorer_model.specs.declared.wire.RequestFault.{RequestFault}
use Rattle.explorer_model.specs.Wire.{First, Whole, Refuses, Unfinished, Empty, IsFront, AsksFrom}
use Rattle.http_wire.specs.Asking.{Buffer, Asks}
use Rattle.http_wire.specs.Runs.{AreCalls, ComesToEnd}

-- what is left behind a read of told bytes
told : (bytes got : List ℕ) (left : Option (List ℕ)) → Consumes (Some bytes) left got
    → (rest : List ℕ) × (left ≡ Some rest) × (bytes ≡ got ++ rest)
told bytes got None took = absurd took
told bytes got (Some rest) took = (rest, refl, took)

at-end : (left : Option (List ℕ)) (rest : List ℕ) → left ≡ Some rest → IsAtEnd left → rest ≡ []
at-end left rest is ended = subst IsAtEnd is ended

more-than-one : (more : ℕ) → 0 < more → (more ≡ 1) ⊎ (1 < more)
more-than-one zero some = absurd (omega (arith, some))
more-than-one (suc zero) some = inl refl
more-than-one (suc (suc n)) some = inr (omega arith)

-- a closed connection answers Done
closed-ends : (asked : List Asked) (old new : Buffer) (before after : Stream) → old.more ≡ 0
    → AreCalls asked old new before after → ComesToEnd asked → asked ≡ Done ∷ []
closed-ends [] old new before after none calls ends = absurd ends
closed-ends (a ∷ others) old new before after none (buffer, behind, next, call, same, calls) ends =
    let is = (call.closed none).none in
    let last : others ≡ [] = subst (λ (x : Asked). ComesToEnd (x ∷ others)) is ends in
    λ i. is i ∷ last i

module _ (whole : (more : ℕ) (bytes behind : List ℕ) (request : Request) (rest : List ℕ)
    → First more bytes (Wanted request) rest → First more (bytes ++ behind) (Wanted request) (rest ++ behind))
    (refused : (more : ℕ) (bytes behind : List ℕ) (fault : RequestFault) (rest others : List ℕ)
    → First more bytes (Refused fault) rest → First more (bytes ++ behind) (Refused fault) others)
    (last : (bytes : List ℕ) (request : Request) (rest : List ℕ) → First 1 bytes (Wanted request) rest → request.last ≡ true)
  where
    -- one call, and what the calls behind it come to
    module _ (others : List Asked) (old new : Buffer) (before after : Stream) (left rest : List ℕ) (some : 0 < old.more)
        (is : after.left ≡ Some rest)
        (later : ComesToEnd others → 0 < new.more → AsksFrom new.more (new.pending ++ rest) others)
        (closed : ComesToEnd others → new.more ≡ 0 → others ≡ Done ∷ []) where
      step : (asked : Asked) (asks : Asks asked old new before after) → left ≡ asks.got ++ rest → ComesToEnd (asked ∷ others)
          → AsksFrom old.more (old.pending ++ left) (asked ∷ others)
      step (Wanted request) asks split ends =
          let all : old.pending ++ left ≡ (old.pending ++ asks.got) ++ rest =
          ap (λ (l : List ℕ). old.pending ++ l) split ∙ sym (append_assoc old.pending asks.got rest) in
          let front = subst (λ (b : List ℕ). IsFront old.more b (Whole request (new.pending ++ rest))) (sym all)
          (whole old.more (old.pending ++ asks.got) rest request new.pending asks.first) in
          (Whole request (new.pending ++ rest), front, refl, by request.last refl)
        where
          not-one : request.last ≡ false → 1 < old.more
          not-one stays = cases (more-than-one old.more some)
            where
              cases : (old.more ≡ 1) ⊎ (1 < old.more) → 1 < old.more
              cases (inl one) =
                  let never : true ≡ false = sym (last (old.pending ++ asks.got) request new.pending
                  (subst (λ (n : ℕ). First n (old.pending ++ asks.got) (Wanted request) new.pending) one asks.first)) ∙ stays in
                  absurd (cc (never))
              cases (inr more) = more

          by : (closes : Bool) → request.last ≡ closes
              → MatchBool closes (others ≡ Done ∷ []) (AsksFrom (old.more - 1) (new.pending ++ rest) others)
          by true was = closed ends (asks.more ∙ ap (λ (l : Bool). if l then 0 else old.more - 1) was)
          by false was =
              let count : new.more ≡ old.more - 1 = asks.more ∙ ap (λ (l : Bool). if l then 0 else old.more - 1) was in
              subst (λ (n : ℕ). AsksFrom n (new.pending ++ rest) others) count
              (later ends (omega (arith, count, not-one was)))
      step (Refused fault) asks split ends =
          let all : old.pending ++ left ≡ (old.pending ++ asks.got) ++ rest =
          ap (λ (l : List ℕ). old.pending ++ l) split ∙ sym (append_assoc old.pending asks.got rest) in
          let front = subst (λ (b : List ℕ). IsFront old.more b (Refuses fault)) (sym all)
          (refused old.more (old.pending ++ asks.got) rest fault new.pending [] asks.first) in
          (Refuses fault, front, refl, closed ends asks.more)
      step Done asks split ends =
          let none = at-end after.left rest is asks.ended in
          let all : left ≡ asks.got = split ∙ ap (λ (l : List ℕ). asks.got ++ l) none ∙ append-nil asks.got in
          (Empty, subst (λ (l : List ℕ). IsFront old.more (old.pending ++ l) Empty) (sym all) asks.first, refl, ends)
      step Cut asks split ends =
          let none = at-end after.left rest is asks.ended in
          let all : left ≡ asks.got = split ∙ ap (λ (l : List ℕ). asks.got ++ l) none ∙ append-nil asks.got in
          (Unfinished, subst (λ (l : List ℕ). IsFront old.more (old.pending ++ l) Unfinished) (sym all) asks.first, refl, ends)
      step NoMemory asks split ends = absurd ends
      step ReadFault asks split ends = absurd ends

    pub run : (asked : List Asked) (old new : Buffer) (before after : Stream) (left : List ℕ) → 0 < old.more
        → before.left ≡ Some left → AreCalls asked old new before after → ComesToEnd asked
        → AsksFrom old.more (old.pending ++ left) asked
    run [] old new before after left some is calls ends = absurd ends
    run (a ∷ others) old new before after left some is (buffer, behind, next, call, same, calls) ends =
        let asks = call.asks some in
        let (rest, is-rest, split) = told left asks.got behind.left
        (subst (λ (l : Option (List ℕ)). Consumes l behind.left asks.got) is asks.reads.next) in
        step others old buffer before behind left rest some is-rest
        (λ ends more. run others buffer new next after rest more (same ∙ is-rest) calls ends)
        (λ ends none. closed-ends others buffer new next after none calls ends)
        a asks split ends
