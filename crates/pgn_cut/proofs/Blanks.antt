-- No cut comes exactly of white space, alone or behind a mark.
use Rattle.std.specs.Prelude.{◌≡◌, ℕ, ◌+◌, Bool, true, false, cond, ◌&&◌, ◌==◌, ◌↔◌, nat_eq, List, [], ◌∷◌, ◌++◌, drop, length, refl}
use Rattle.std.specs.List.{starts_with, list_all}
use Rattle.std.proofs.Common.{sym, ◌∙◌, ap, subst}
use Rattle.std.proofs.lemmas.Bool.{and_parts, ne_eqb}
use Rattle.explorer_model.specs.Cuts.{Cut, Preamble, Parted, event, mark, onto, parted, is_white_space, preamble, cuts_of, cuts_from, cuts}
use Rattle.pgn_cut.specs.Blank.{AllWhite, IsBlank}

no_start : (b : ℕ) → is_white_space b ≡ true → nat_eq 91 b ≡ false
unfolding is_white_space
no_start b white = ne_eqb 91 b (λ is. differs (subst (λ (x : ℕ). is_white_space x ≡ true) (sym is) white))
  where
    differs : is_white_space 91 ≡ true → ⊥
    differs e = cc

parted-white : (fresh : Bool) (bytes : List ℕ) → AllWhite bytes → parted fresh bytes ≡ record { before = bytes; texts = [] }
unfolding parted onto
parted-white fresh [] white = refl
parted-white true (b ∷ bytes) white =
    let each = and_parts (is_white_space b) (list_all is_white_space bytes) white in
    rw (no_start b each.0, parted-white (b == 10) bytes each.1)
parted-white false (b ∷ bytes) white =
    let each = and_parts (is_white_space b) (list_all is_white_space bytes) white in
    rw (parted-white (b == 10) bytes each.1)

preamble-white : (place : ℕ) (bytes : List ℕ) → AllWhite bytes → preamble place bytes ≡ []
unfolding preamble
preamble-white place [] white = refl
preamble-white place (b ∷ bytes) white =
    let each = and_parts (is_white_space b) (list_all is_white_space bytes) white in
    rw each.0 (preamble-white (place + 1) bytes each.1)

white-preamble : (place : ℕ) (bytes : List ℕ) → preamble place bytes ≡ [] → AllWhite bytes
unfolding preamble
white-preamble place [] none = refl
white-preamble place (b ∷ bytes) none = go (is_white_space b) (white-preamble (place + 1) bytes) none
  where
    go : (w : Bool) → (preamble (place + 1) bytes ≡ [] → AllWhite bytes) → cond w (preamble (place + 1) bytes) (Preamble place ∷ []) ≡ []
        → (w && list_all is_white_space bytes) ≡ true
    go true later none' = later none'
    go false later none' = absurd cc

-- where no text begins, all stands before the first
before-all : (fresh : Bool) (bytes : List ℕ) → (parted fresh bytes).texts ≡ [] → (parted fresh bytes).before ≡ bytes
unfolding parted onto
before-all fresh [] none = refl
before-all fresh (b ∷ bytes) none = go (fresh && starts_with nat_eq (b ∷ bytes) event) (before-all (b == 10) bytes) none
  where
    go : (s : Bool) → ((parted (b == 10) bytes).texts ≡ [] → (parted (b == 10) bytes).before ≡ bytes) → (onto s b (parted (b == 10) bytes)).texts ≡ [] → (onto s b (parted (b == 10) bytes)).before ≡ b ∷ bytes
    go true later none' = absurd cc
    go false later none' = ap (λ (x : List ℕ). b ∷ x) (later none')

both_nil : (xs ys : List Cut) → xs ++ ys ≡ [] → (xs ≡ []) × (ys ≡ [])
both_nil [] ys e = (refl, e)
both_nil (x ∷ xs) ys e = absurd cc

no_texts : (place : ℕ) (texts : List (List ℕ)) → cuts_of place texts ≡ [] → texts ≡ []
unfolding cuts_of
no_texts place [] e = refl
no_texts place (text ∷ texts) e = absurd cc

blank_from : (place : ℕ) (bytes : List ℕ) → (cuts_from place bytes ≡ []) ↔ AllWhite bytes
unfolding cuts_from cuts_of
blank_from place bytes = (
  λ none.
      let parts = parted true bytes in
      let both = both_nil (preamble place parts.before) (cuts_of (place + length parts.before) parts.texts) none in
      let all = before-all true bytes (no_texts (place + length parts.before) parts.texts both.1) in
      white-preamble place bytes (ap (preamble place) (sym all) ∙ both.0),
  λ white.
      ap (λ (p : Parted). preamble place p.before ++ cuts_of (place + length p.before) p.texts) (parted-white true bytes white)
      ∙ ap (λ (x : List Cut). x ++ []) (preamble-white place bytes white),
)

pub blank : (stream : List ℕ) → (cuts stream ≡ []) ↔ IsBlank stream
unfolding cuts
blank stream = go (starts_with nat_eq stream mark)
  where
    go : (b : Bool) → (cond b (cuts_from 3 (drop 3 stream)) (cuts_from 0 stream) ≡ []) ↔ AllWhite (cond b (drop 3 stream) stream)
    go true = blank_from 3 (drop 3 stream)
    go false = blank_from 0 stream
