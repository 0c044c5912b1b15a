-- How the calls of a door compose.
use Rattle.std.proofs.Common.{◌≡◌, ℕ, List, [], ◌∷◌, ◌++◌, Option, None, Some, refl, sym, ap, ◌∙◌, append_assoc, append-nil, length-append, arith}
use Rattle.std.specs.Option.{option_map}
use Rattle.outside.specs.Stream.{Stream}
use Rattle.outside.specs.Doors.{Connections, Accepts, FailsToAccept, TakesBack, Serves}
use Rattle.outside.proofs.StreamLemmas.{never_falls-refl, never_falls-trans, never_falls-same}

-- these links, and then those that are told
before : List Stream → Option (List Stream) → Option (List Stream)
before links told = option_map (λ (others : List Stream). links ++ others) told

-- those that are told, and then these links
after : Option (List Stream) → List Stream → Option (List Stream)
after told links = option_map (λ (others : List Stream). others ++ links) told

before-nil : (told : Option (List Stream)) → told ≡ before [] told
unfolding before
before-nil None = refl
before-nil (Some links) = refl

before-append : (a b : List Stream) (told : Option (List Stream))
    → before a (before b told) ≡ before (a ++ b) told
unfolding before
before-append a b None = refl
before-append a b (Some links) = ap Some (sym (append_assoc a b links))

after-nil : (told : Option (List Stream)) → told ≡ after told []
unfolding after
after-nil None = refl
after-nil (Some links) = ap Some (sym (append-nil links))

after-append : (a b : List Stream) (told : Option (List Stream))
    → after (after told a) b ≡ after told (a ++ b)
unfolding after
after-append a b None = refl
after-append a b (Some links) = ap Some (append_assoc links a b)

door_of : ℕ → ℕ → Option (List Stream) → Option (List Stream) → ℕ → Connections
door_of left out to_come taken_back faults =
    record { left = left; out = out; to_come = to_come; taken_back = taken_back; faults = faults }

of_parts : {a a' b b' e e' : ℕ} {c c' d d' : Option (List Stream)} → a ≡ a' → b ≡ b' → c ≡ c' → d ≡ d' → e ≡ e'
    → door_of a b c d e ≡ door_of a' b' c' d' e'
of_parts left out to_come taken_back faults = cc

-- doors are the same by their parts
same_door : (d e : Connections) → d.left ≡ e.left → d.out ≡ e.out → d.to_come ≡ e.to_come
    → d.taken_back ≡ e.taken_back → d.faults ≡ e.faults → d ≡ e
unfolding door_of
same_door d e left out to_come taken_back faults = of_parts left out to_come taken_back faults

pub serves-none : (d : Connections) → Serves [] [] d d
unfolding before after
serves-none d = record {
  fewer = omega arith;
  first = before-nil d.to_come;
  never_falls = never_falls-refl d.faults;
  rest = same_door d _ refl refl refl (after-nil d.taken_back) refl;
}

pub serves-fails : (old new : Connections) → FailsToAccept old new → Serves [] [] old new
unfolding before after
serves-fails old new fails =
    let left = ap (λ (d : Connections). d.left) fails.rest in
    let out = ap (λ (d : Connections). d.out) fails.rest in
    let to_come = ap (λ (d : Connections). d.to_come) fails.rest in
    let taken_back = ap (λ (d : Connections). d.taken_back) fails.rest in
    record {
      fewer = omega (arith, left);
      first = sym to_come ∙ before-nil new.to_come;
      never_falls = fails.rises.never_falls;
      rest = same_door new _ refl out refl (taken_back ∙ after-nil old.taken_back) refl;
    }

-- one that was accepted, and taken back
pub serves-one : (link back : Stream) (old middle new : Connections) → Accepts link old middle
    → TakesBack back middle new → Serves (link ∷ []) (back ∷ []) old new
unfolding before after
serves-one link back old middle new accepts takes =
    let was_out = ap (λ (d : Connections). d.out) accepts.rest in
    let was_back = ap (λ (d : Connections). after d.taken_back (back ∷ [])) accepts.rest in
    let out : new.out ≡ old.out = omega (arith, was_out, takes.one_less) in
    let left = ap (λ (d : Connections). d.left) takes.rest in
    let to_come = ap (λ (d : Connections). d.to_come) takes.rest in
    let taken_back = ap (λ (d : Connections). d.taken_back) takes.rest in
    let faults = ap (λ (d : Connections). d.faults) takes.rest ∙ ap (λ (d : Connections). d.faults) accepts.rest in
    record {
      fewer = omega (arith, accepts.one_less, left);
      first = accepts.first ∙ ap (before (link ∷ [])) (sym to_come);
      never_falls = never_falls-same old.faults new.faults faults;
      rest = same_door new _ refl out refl (taken_back ∙ was_back) refl;
    }

-- those that were served after others
pub serves-trans : (came came' went went' : List Stream) (old middle new : Connections)
    → Serves came went old middle → Serves came' went' middle new
    → Serves (came ++ came') (went ++ went') old new
unfolding before after
serves-trans came came' went went' old middle new first second =
    let out = ap (λ (d : Connections). d.out) second.rest ∙ ap (λ (d : Connections). d.out) first.rest in
    let was_back = ap (λ (d : Connections). after d.taken_back went') first.rest in
    let taken_back = ap (λ (d : Connections). d.taken_back) second.rest in
    let all_back = taken_back ∙ was_back ∙ after-append went went' old.taken_back in
    record {
      fewer = omega (arith, first.fewer, second.fewer, length-append came came');
      first = first.first ∙ ap (before came) second.first ∙ before-append came came' new.to_come;
      never_falls = never_falls-trans old.faults _ _ first.never_falls second.never_falls;
      rest = same_door new _ refl out refl all_back refl;
    }
