-- The opening of a position, by the keys of lines.
use Rattle.std.proofs.Common.{◌≡◌, ◌↔◌, ℕ, suc, ◌+◌, ◌<◌, Bool, true, false, true≢false, cond, List, [], ◌∷◌, ◌++◌, map, length, take, get_or, find, is_some, Option, Some, None, inl, inr, refl, sym, ap, subst, ◌∙◌, arith}
use Rattle.std.specs.Prelude.{bytes_eq, option_map}
use Rattle.std.specs.HashMap.{HashMap, get, Updates}
use Rattle.std.specs.Option.{option_or}
use Rattle.std.proofs.lemmas.List.{length-take-le, take_more}
use Rattle.std.proofs.lemmas.Option.{none-some, same_Some}
use Rattle.std.proofs.lemmas.Slice.Eq.{bytes_eq-Decides}
use Rattle.plain_laws.specs.Options.{cond-some}
use Rattle.explorer_model.specs.declared.chess.Position.{Position}
use Rattle.explorer_model.specs.Chess.{Same}
use Rattle.explorer_model.specs.Keys.{key}
use Rattle.explorer_model.specs.Openings.{OpeningOf}
use Rattle.explorer_model.specs.Tidy.{IsTidied, IsTidyKey}
use Rattle.opening_names.specs.declared.line.NamedLine.{NamedLine}
use Rattle.opening_names.specs.Held.{AreKeyed, TellsPlaces, named_line, opening_by, place_of}

-- what the lower crates say
pub record Laws : Type 0 where
  pub decides : (p q p_tidied q_tidied : Position) → IsTidied p p_tidied → IsTidied q q_tidied → Same p q ↔ (p_tidied ≡ q_tidied)
  pub keys : (p q : Position) → length p.squares ≡ 64 → length q.squares ≡ 64 → (key p ≡ key q) ↔ (p ≡ q)

-- ---- keys tell the positions that are the same

tidied-length : (p q : Position) → length p.squares ≡ 64 → IsTidied p q → length q.squares ≡ 64
tidied-length p q board tidied = ap (λ s. length s) tidied.squares ∙ board

same-key : Laws → (p q : Position) (p_bytes q_bytes : List ℕ) → length p.squares ≡ 64 → length q.squares ≡ 64
    → IsTidyKey p p_bytes → IsTidyKey q q_bytes → Same p q ↔ (p_bytes ≡ q_bytes)
same-key laws p q p_bytes q_bytes p_board q_board p_key q_key =
    let by_tidy = laws.decides p q p_key.0 q_key.0 p_key.1 q_key.1 in
    let by_key = laws.keys p_key.0 q_key.0 (tidied-length p p_key.0 p_board p_key.1) (tidied-length q q_key.0 q_board q_key.1) in (
      λ same. p_key.2 ∙ by_key.1 (by_tidy.0 same) ∙ sym q_key.2,
      λ equal. by_tidy.1 (by_key.0 (sym p_key.2 ∙ equal ∙ q_key.2)),
    )

module _ (laws : Laws) (at : Position) (bytes : List ℕ) (board : length at.squares ≡ 64) (tidy : IsTidyKey at bytes) where
  opening-next : (line : NamedLine) (lines : List NamedLine) → Same line.position.value at ↔ (line.key ≡ bytes)
      → OpeningOf (map named_line lines) at (opening_by lines bytes) → (b : Bool) → bytes_eq line.key bytes ≡ b
      → OpeningOf (map named_line (line ∷ lines)) at (option_map (λ l. l.opening) (cond b (Some line) (find (λ l. bytes_eq l.key bytes) lines)))
  opening-next line lines same later true is = inl (same.1 ((bytes_eq-Decides line.key bytes).0 is), refl)
  opening-next line lines same later false is =
      inr ((λ here. true≢false (sym ((bytes_eq-Decides line.key bytes).1 (same.0 here)) ∙ is)), later)

  pub opening-of : (lines : List NamedLine) → AreKeyed lines → OpeningOf (map named_line lines) at (opening_by lines bytes)
  opening-of [] keyed = refl
  opening-of (line ∷ lines) keyed =
      opening-next line lines (same-key laws line.position.value at line.key bytes keyed.0.board board keyed.0.key tidy) (opening-of lines keyed.1)
      (bytes_eq line.key bytes) refl

-- ---- the first place of a key

next-some : (o : Option ℕ) (place : ℕ) → option_map (λ n. n + 1) o ≡ Some place → (before : ℕ) × (o ≡ Some before) × (place ≡ suc before)
next-some None place is = absurd (none-some place is)
next-some (Some n) place is = (let next : n + 1 ≡ place = same_Some (n + 1) place is in (n, refl, omega arith))

next-none : (o : Option ℕ) → option_map (λ n. n + 1) o ≡ None → o ≡ None
next-none None is = refl
next-none (Some n) is = absurd (none-some (n + 1) (sym is))

-- the place is one of the lines, of which it has the opening that the key has
abbrev pub IsFound : List NamedLine → List ℕ → ℕ → Type 0
IsFound lines key place = (place < length lines) × ((d : NamedLine) → opening_by lines key ≡ Some (get_or lines place d).opening)

found-next : (line : NamedLine) (lines : List NamedLine) (key : List ℕ) (place : ℕ)
    → ((before : ℕ) → place_of lines key ≡ Some before → IsFound lines key before) → place_of (line ∷ lines) key ≡ Some place
    → (b : Bool) → bytes_eq line.key key ≡ b → IsFound (line ∷ lines) key place
found-next line lines key place later is true here =
    let first : 0 ≡ place = same_Some 0 place (sym (ap (λ b. cond b (Some 0) (option_map (λ n. n + 1) (place_of lines key))) here) ∙ is) in (
      omega arith,
      λ d. ap (λ b. option_map (λ (l : NamedLine). l.opening) (cond b (Some line) (find (λ l. bytes_eq l.key key) lines))) here
          ∙ ap (λ n. Some (get_or (line ∷ lines) n d).opening) first,
    )
found-next line lines key place later is false here =
    let before = next-some (place_of lines key) place (sym (ap (λ b. cond b (Some 0) (option_map (λ n. n + 1) (place_of lines key))) here) ∙ is) in
    let rest = later before.0 before.1 in (
      omega (arith, rest.0, before.2),
      λ d. ap (λ b. option_map (λ (l : NamedLine). l.opening) (cond b (Some line) (find (λ l. bytes_eq l.key key) lines))) here
          ∙ rest.1 d
          ∙ ap (λ n. Some (get_or (line ∷ lines) n d).opening) (sym before.2),
    )

pub found-at : (lines : List NamedLine) (key : List ℕ) (place : ℕ) → place_of lines key ≡ Some place → IsFound lines key place
found-at [] key place is = absurd (none-some place is)
found-at (line ∷ lines) key place is = found-next line lines key place (found-at lines key) is (bytes_eq line.key key) refl

none-next : (line : NamedLine) (lines : List NamedLine) (key : List ℕ) → (place_of lines key ≡ None → opening_by lines key ≡ None)
    → place_of (line ∷ lines) key ≡ None → (b : Bool) → bytes_eq line.key key ≡ b → opening_by (line ∷ lines) key ≡ None
none-next line lines key later is true here =
    absurd (none-some 0 (sym is ∙ ap (λ b. cond b (Some 0) (option_map (λ n. n + 1) (place_of lines key))) here))
none-next line lines key later is false here =
    ap (λ b. option_map (λ (l : NamedLine). l.opening) (cond b (Some line) (find (λ l. bytes_eq l.key key) lines))) here
    ∙ later (next-none (place_of lines key) (sym (ap (λ b. cond b (Some 0) (option_map (λ n. n + 1) (place_of lines key))) here) ∙ is))

pub none-found : (lines : List NamedLine) (key : List ℕ) → place_of lines key ≡ None → opening_by lines key ≡ None
none-found [] key is = refl
none-found (line ∷ lines) key is = none-next line lines key (none-found lines key) is (bytes_eq line.key key) refl

-- ---- one line more

next-or : (o : Option ℕ) (b : Bool) (n : ℕ) → option_map (λ k. k + 1) (option_or o (cond b (Some n) None)) ≡ option_or (option_map (λ k. k + 1) o) (cond b (Some (suc n)) None)
next-or (Some k) b n = refl
next-or None true n = (let e : n + 1 ≡ suc n = omega arith in ap Some e)
next-or None false n = refl

push-next : (o whole : Option ℕ) (more : Bool) (n : ℕ) → whole ≡ option_or o (cond more (Some n) None) → (b : Bool)
    → cond b (Some 0) (option_map (λ k. k + 1) whole) ≡ option_or (cond b (Some 0) (option_map (λ k. k + 1) o)) (cond more (Some (suc n)) None)
push-next o whole more n later true = refl
push-next o whole more n later false = ap (option_map (λ k. k + 1)) later ∙ next-or o more n

place-push : (lines : List NamedLine) (line : NamedLine) (key : List ℕ)
    → place_of (lines ++ line ∷ []) key ≡ option_or (place_of lines key) (cond (bytes_eq line.key key) (Some (length lines)) None)
place-push [] line key = refl
place-push (l ∷ lines) line key =
    push-next (place_of lines key) (place_of (lines ++ line ∷ []) key) (bytes_eq line.key key) (length lines) (place-push lines line key) (bytes_eq l.key key)

kept : (b : Bool) (n : ℕ) (o : Option ℕ) → (b ≡ true → o ≡ None → ⊥) → o ≡ option_or o (cond b (Some n) None)
kept b n (Some k) there = refl
kept true n None there = absurd (there refl refl)
kept false n None there = refl

module _ {S : Type 0} (places : HashMap (List ℕ) ℕ S) (lines : List NamedLine) (line : NamedLine) (tells : TellsPlaces places lines) where
  -- a line with a key that is there
  pub told-again : is_some (get bytes_eq places line.key) ≡ true → TellsPlaces places (lines ++ line ∷ [])
  told-again some = λ key.
      tells key
      ∙ kept (bytes_eq line.key key) (length lines) (place_of lines key)
      (λ is none.
      let here : line.key ≡ key = (bytes_eq-Decides line.key key).0 is in
      true≢false (sym some ∙ ap (λ k. is_some (get bytes_eq places k)) here ∙ ap is_some (tells key ∙ none)))
      ∙ sym (place-push lines line key)

  -- a line with a new key
  pub told-new : is_some (get bytes_eq places line.key) ≡ false → (now : HashMap (List ℕ) ℕ S) → Updates bytes_eq places now line.key (Some (length lines))
      → TellsPlaces now (lines ++ line ∷ [])
  told-new none now updates = λ key.
      updates.0 key ∙ ap (λ o. cond (bytes_eq line.key key) (Some (length lines)) o) (tells key)
      ∙ cond-some (bytes_eq line.key key) (length lines) (place_of lines key)
      (λ is.
      let here : line.key ≡ key = (bytes_eq-Decides line.key key).0 is in
      sym (tells key) ∙ ap (get bytes_eq places) (sym here) ∙ nothing (get bytes_eq places line.key) none)
      ∙ sym (place-push lines line key)
    where
      nothing : (o : Option ℕ) → is_some o ≡ false → o ≡ None
      nothing None is = refl
      nothing (Some k) is = absurd (true≢false is)

module _ {S : Type 0} (places : HashMap (List ℕ) ℕ S) (lines : List NamedLine) (i : ℕ) (line : NamedLine) (within : i < length lines) (is : line ≡ get_or lines i line)
    (tells : TellsPlaces places (take i lines)) where
  more-is : take (i + 1) lines ≡ take i lines ++ line ∷ []
  more-is = take_more lines i line within ∙ ap (λ l. take i lines ++ l ∷ []) (sym is)

  pub told-next : is_some (get bytes_eq places line.key) ≡ true → TellsPlaces places (take (i + 1) lines)
  told-next some =
      let T : List NamedLine → Type 0 = λ l. TellsPlaces places l in
      subst T (sym more-is) (told-again places (take i lines) line tells some)

  pub put-next : is_some (get bytes_eq places line.key) ≡ false → (now : HashMap (List ℕ) ℕ S) → Updates bytes_eq places now line.key (Some i)
      → TellsPlaces now (take (i + 1) lines)
  put-next none now updates =
      let T : List NamedLine → Type 0 = λ l. TellsPlaces now l in
      let U : ℕ → Type 0 = λ n. Updates bytes_eq places now line.key (Some n) in
      subst T (sym more-is)
      (told-new places (take i lines) line tells none now (subst U (sym (length-take-le i lines (omega (arith, within)))) updates))
