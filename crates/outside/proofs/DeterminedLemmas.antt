-- What a call comes to, where the bytes or the links are told.
use Rattle.std.proofs.Common.{◌≡◌, ℕ, ◌+◌, List, [], ◌∷◌, ◌++◌, Option, None, Some, length, take, drop, sym, ap, ◌∙◌, arith}
use Rattle.std.proofs.Math.Seq.{take-append_seam, drop-append_seam}
use Rattle.std.proofs.lemmas.List.{length-take-le}
use Rattle.std.specs.Option.{option_map}
use Rattle.std.specs.Io.KnownBytes.{Appends, Consumes}
use Rattle.outside.specs.Stream.{Stream, Gives, Takes}
use Rattle.outside.specs.Doors.{Connections, Accepts, TakesBack}

-- ---- streams

-- two fronts of one length, and what stands behind them
module _ (front other rest tail : List ℕ) (long : length front ≡ length other)
    (same : front ++ rest ≡ other ++ tail) where
  same_front : front ≡ other
  same_front =
      sym (take-append_seam front rest) ∙ ap (λ (n : ℕ). take n (front ++ rest)) long
      ∙ ap (take (length other)) same ∙ take-append_seam other tail

  same_rest : rest ≡ tail
  same_rest =
      sym (drop-append_seam front rest) ∙ ap (λ (n : ℕ). drop n (front ++ rest)) long
      ∙ ap (drop (length other)) same ∙ drop-append_seam other tail

consumed : (told left right : Option (List ℕ)) (bytes front other : List ℕ) → told ≡ Some bytes
    → length front ≡ length other → Consumes told left front → Consumes told right other
    → (front ≡ other) × (left ≡ right)
consumed None left right bytes front other is long first second = absurd (cc)
consumed (Some all) None right bytes front other is long first second = absurd first
consumed (Some all) (Some rest) None bytes front other is long first second = absurd second
consumed (Some all) (Some rest) (Some tail) bytes front other is long first second =
    let same = sym first ∙ second in
    (same_front front other rest tail long same, ap Some (same_rest front other rest tail long same))

appended : (told left right : Option (List ℕ)) (bytes chunk : List ℕ) → told ≡ Some bytes
    → Appends told left chunk → Appends told right chunk → left ≡ right
appended None left right bytes chunk is first second = absurd (cc)
appended (Some all) None right bytes chunk is first second = absurd first
appended (Some all) (Some rest) None bytes chunk is first second = absurd second
appended (Some all) (Some rest) (Some tail) bytes chunk is first second = ap Some (first ∙ sym second)

pub one_read : (n : ℕ) (bytes buffer other : List ℕ) (old new after : Stream) → old.left ≡ Some bytes
    → Gives n buffer old new → Gives n other old after → (take n buffer ≡ take n other) × (new ≡ after)
one_read n bytes buffer other old new after told first second =
    let long = length-take-le n buffer first.within ∙ sym (length-take-le n other second.within) in
    let same = consumed old.left new.left after.left bytes _ _ told long first.next second.next in
    let state = λ (left : Option (List ℕ)). record old { left = left; given = old.given + n } in
    (same.0, first.rest ∙ ap state same.1 ∙ sym second.rest)

pub one_write : (bytes chunk : List ℕ) (old new after : Stream) → old.written ≡ Some bytes
    → Takes chunk old new → Takes chunk old after → new ≡ after
one_write bytes chunk old new after told first second =
    let same = appended old.written new.written after.written bytes chunk told first.appended second.appended in
    let state = λ (written : Option (List ℕ)). record old { written = written } in
    first.rest ∙ ap state same ∙ sym second.rest

-- ---- doors

behind : Stream → Option (List Stream) → Option (List Stream)
behind link rest = option_map (λ (others : List Stream). link ∷ others) rest

came : (told left right : Option (List Stream)) (links : List Stream) (link other : Stream)
    → told ≡ Some links → told ≡ behind link left → told ≡ behind other right → (link ≡ other) × (left ≡ right)
unfolding behind
came told None right links link other is first second = absurd (cc)
came told (Some rest) None links link other is first second = absurd (cc)
came told (Some rest) (Some tail) links link other is first second = (cc, cc)

pub one_accept : (links : List Stream) (link other : Stream) (old new after : Connections)
    → old.to_come ≡ Some links → Accepts link old new → Accepts other old after → (link ≡ other) × (new ≡ after)
unfolding behind
one_accept links link other old new after told first second =
    let same = came old.to_come new.to_come after.to_come links link other told first.first second.first in
    let left : new.left ≡ after.left = omega (arith, first.one_less, second.one_less) in
    let state = λ (n : ℕ) (rest : Option (List Stream)). record old { left = n; out = old.out + 1; to_come = rest } in
    (same.0, first.rest ∙ ap (λ (n : ℕ). state n new.to_come) left ∙ ap (state after.left) same.1 ∙ sym second.rest)

pub one_taken_back : (link : Stream) (old new after : Connections)
    → TakesBack link old new → TakesBack link old after → new ≡ after
one_taken_back link old new after first second =
    let out : new.out ≡ after.out = omega (arith, first.one_less, second.one_less) in
    let back = option_map (λ (others : List Stream). others ++ link ∷ []) old.taken_back in
    first.rest ∙ ap (λ (n : ℕ). record old { out = n; taken_back = back }) out ∙ sym second.rest
