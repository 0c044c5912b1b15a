-- The places of the cuts of a stream go up, and each text among them can be read.
use Rattle.std.proofs.Common.{◌≡◌, ℕ, ◌+◌, ◌<◌, ◌≤◌, ◌&&◌, ◌==◌, Bool, true, false, List, [], ◌∷◌, ◌++◌, length, drop, if◌then◌else◌, refl, sym, subst, nat_le, nat_eq, arith}
use Rattle.std.specs.List.{starts_with, AllByRecursion}
use Rattle.explorer_model.specs.Cuts.{Cut, Text, TooLong, Preamble, Parted, preamble, is_white_space, cut_at, cuts_of, cuts_from, cuts, event, onto, parted, mark, text_limit}
use Rattle.import_run.specs.Grouping.{Ascend, AscendFrom, place_of}

-- ---- lists of cuts that ascend

pub ascend_sooner : (a b : ℕ) (cuts : List Cut) → a ≤ b → AscendFrom b cuts → AscendFrom a cuts
ascend_sooner a b [] le h = tt
ascend_sooner a b (cut ∷ cuts) le h = (omega (arith, h.0), h.1)

pub ascend_front : (a : ℕ) (cuts more : List Cut) → AscendFrom a (cuts ++ more) → AscendFrom a cuts
ascend_front a [] more h = tt
ascend_front a (cut ∷ cuts) more h = (h.0, ascend_front (place_of cut + 1) cuts more h.1)

pub ascend_back : (a : ℕ) (cuts more : List Cut) → AscendFrom a (cuts ++ more) → Ascend more
ascend_back a [] more h = ascend_sooner 0 a more (omega arith) h
ascend_back a (cut ∷ cuts) more h = ascend_back (place_of cut + 1) cuts more h.1

-- ---- the cuts of a stream

ascend_preamble : (place : ℕ) (bytes : List ℕ) (more : List Cut) → AscendFrom (place + length bytes) more → AscendFrom place (preamble place bytes ++ more)
unfolding preamble
ascend_preamble place [] more h = ascend_sooner place (place + 0) more (omega arith) h
ascend_preamble place (b ∷ bytes) more h = by_first (is_white_space b) (ascend_preamble (place + 1) bytes more (ascend_sooner _ _ more (omega arith) h))
  where
    by_first : (white : Bool) → AscendFrom (place + 1) (preamble (place + 1) bytes ++ more) → AscendFrom place ((if white then preamble (place + 1) bytes else Preamble place ∷ []) ++ more)
    by_first true later = ascend_sooner place (place + 1) (preamble (place + 1) bytes ++ more) (omega arith) later
    by_first false later = (omega arith, ascend_sooner (place + 1) (place + length (b ∷ bytes)) more (omega arith) h)

abbrev AreSome : List (List ℕ) → Type 0
AreSome texts = AllByRecursion (λ (text : List ℕ). 0 < length text) texts

some_onto : (starts : Bool) (b : ℕ) (parts : Parted) → AreSome parts.texts → AreSome (onto starts b parts).texts
unfolding onto
some_onto true b parts some = (omega arith, some)
some_onto false b parts some = some

some_parted : (fresh : Bool) (bytes : List ℕ) → AreSome (parted fresh bytes).texts
unfolding parted
some_parted fresh [] = tt
some_parted fresh (b ∷ bytes) = some_onto (fresh && starts_with nat_eq (b ∷ bytes) event) b (parted (b == 10) bytes) (some_parted (b == 10) bytes)

place_at : (place : ℕ) (text : List ℕ) → place_of (cut_at place text) ≡ place
unfolding cut_at
place_at place text = by_length (nat_le (length text) text_limit)
  where
    by_length : (fits : Bool) → place_of (if fits then Text (record { place = place; bytes = text }) else TooLong place (length text)) ≡ place
    by_length true = refl
    by_length false = refl

ascend_of : (place : ℕ) (texts : List (List ℕ)) → AreSome texts → AscendFrom place (cuts_of place texts)
unfolding cuts_of
ascend_of place [] some = tt
ascend_of place (text ∷ texts) some =
    let at = place_at place text in
    (omega (arith, at), ascend_sooner (place_of (cut_at place text) + 1) (place + length text) _ (omega (arith, at, some.0)) (ascend_of (place + length text) texts some.1))

ascend_from : (place : ℕ) (bytes : List ℕ) → AscendFrom place (cuts_from place bytes)
unfolding cuts_from
ascend_from place bytes = ascend_preamble place (parted true bytes).before _ (ascend_of (place + length (parted true bytes).before) (parted true bytes).texts (some_parted true bytes))

pub ascend_cuts : (stream : List ℕ) → Ascend (cuts stream)
unfolding cuts
ascend_cuts stream = by_mark (starts_with nat_eq stream mark)
  where
    by_mark : (marked : Bool) → Ascend (if marked then cuts_from 3 (drop 3 stream) else cuts_from 0 stream)
    by_mark true = ascend_sooner 0 3 (cuts_from 3 (drop 3 stream)) (omega arith) (ascend_from 3 (drop 3 stream))
    by_mark false = ascend_from 0 stream

-- what was cut of a stream so far, and what is cut next
pub ascend_of_stream : (done more : List Cut) (stream : List ℕ) → done ++ more ≡ cuts stream → Ascend (done ++ more)
ascend_of_stream done more stream same = subst Ascend (sym same) (ascend_cuts stream)
