-- The cuts of a stream: a preamble stands first, and they are no more than its bytes.
use Rattle.std.proofs.Common.{◌≡◌, ℕ, ◌+◌, ◌<◌, ◌≤◌, ◌&&◌, ◌==◌, Bool, true, false, cond, List, [], ◌∷◌, ◌++◌, length, drop, nat_le, nat_eq, refl, subst, arith, length-append}
use Rattle.std.specs.List.{AllByRecursion, starts_with}
use Rattle.std.proofs.lemmas.List.{length-drop}
use Rattle.explorer_model.specs.Cuts.{Cut, Text, TooLong, Preamble, Parted, cut_at, cuts, cuts_from, cuts_of, event, is_white_space, mark, onto, parted, preamble, text_limit}
use Rattle.import_run.proofs.ReportLemmas.{NotPreamble}

-- ---- a preamble stands first

abbrev FirstAlone : List Cut → Type 0
FirstAlone [] = Unit {0}
FirstAlone (cut ∷ cuts) = AllByRecursion NotPreamble cuts

first_of : (cs : List Cut) → AllByRecursion NotPreamble cs → FirstAlone cs
first_of [] each = tt
first_of (cut ∷ cs) each = each.1

text_cut : (place : ℕ) (text : List ℕ) → NotPreamble (cut_at place text)
unfolding cut_at
text_cut place text = by (nat_le (length text) text_limit)
  where
    by : (b : Bool) → NotPreamble (cond b (Text (record { place = place; bytes = text })) (TooLong place (length text)))
    by true = tt
    by false = tt

text_cuts : (place : ℕ) (texts : List (List ℕ)) → AllByRecursion NotPreamble (cuts_of place texts)
unfolding cuts_of
text_cuts place [] = tt
text_cuts place (text ∷ texts) = (text_cut place text, text_cuts (place + length text) texts)

preamble_first : (place : ℕ) (bytes : List ℕ) (cs : List Cut) → AllByRecursion NotPreamble cs → FirstAlone (preamble place bytes ++ cs)
unfolding preamble
preamble_first place [] cs each = first_of cs each
preamble_first place (b ∷ bytes) cs each = by (is_white_space b) (preamble_first (place + 1) bytes cs each)
  where
    by : (white : Bool) → FirstAlone (preamble (place + 1) bytes ++ cs) → FirstAlone (cond white (preamble (place + 1) bytes) (Preamble place ∷ []) ++ cs)
    by true later = later
    by false later = each

from_first : (place : ℕ) (bytes : List ℕ) → FirstAlone (cuts_from place bytes)
unfolding cuts_from
from_first place bytes =
    let parts = parted true bytes in
    preamble_first place parts.before (cuts_of (place + length parts.before) parts.texts) (text_cuts (place + length parts.before) parts.texts)

cuts_first : (stream : List ℕ) → FirstAlone (cuts stream)
unfolding cuts
cuts_first stream = by (starts_with nat_eq stream mark)
  where
    by : (marked : Bool) → FirstAlone (cond marked (cuts_from 3 (drop 3 stream)) (cuts_from 0 stream))
    by true = from_first 3 (drop 3 stream)
    by false = from_first 0 stream

back_of : (front rest : List Cut) → AllByRecursion NotPreamble (front ++ rest) → AllByRecursion NotPreamble rest
back_of [] rest each = each
back_of (cut ∷ front) rest each = back_of front rest each.1

behind_first : (front rest : List Cut) → FirstAlone (front ++ rest) → 0 < length front → AllByRecursion NotPreamble rest
behind_first [] rest first some = absurd (omega (arith, some))
behind_first (cut ∷ front) rest first some = back_of front rest first

-- behind some cuts of a stream there is no preamble
pub no_preamble : (stream : List ℕ) (front rest : List Cut) → cuts stream ≡ front ++ rest → 0 < length front → AllByRecursion NotPreamble rest
no_preamble stream front rest is some = behind_first front rest (subst FirstAlone is (cuts_first stream)) some

-- ---- how many cuts there are

onto_few : (starts : Bool) (b : ℕ) (parts : Parted) (n : ℕ) → length parts.before + length parts.texts ≤ n → length (onto starts b parts).before + length (onto starts b parts).texts ≤ n + 1
unfolding onto
onto_few true b parts n few = omega (arith, few)
onto_few false b parts n few = omega (arith, few)

parted_few : (fresh : Bool) (bytes : List ℕ) → length (parted fresh bytes).before + length (parted fresh bytes).texts ≤ length bytes
unfolding parted
parted_few fresh [] = omega arith
parted_few fresh (b ∷ bytes) =
    let later = onto_few (fresh && starts_with nat_eq (b ∷ bytes) event) b (parted (b == 10) bytes) (length bytes) (parted_few (b == 10) bytes) in
    omega (arith, later)

preamble_few : (place : ℕ) (bytes : List ℕ) → length (preamble place bytes) ≤ length bytes
unfolding preamble
preamble_few place [] = omega arith
preamble_few place (b ∷ bytes) = by (is_white_space b) (preamble_few (place + 1) bytes)
  where
    by : (white : Bool) → length (preamble (place + 1) bytes) ≤ length bytes → length (cond white (preamble (place + 1) bytes) (Preamble place ∷ [])) ≤ length (b ∷ bytes)
    by true later = omega (arith, later)
    by false later = omega arith

texts_few : (place : ℕ) (texts : List (List ℕ)) → length (cuts_of place texts) ≡ length texts
unfolding cuts_of
texts_few place [] = refl
texts_few place (text ∷ texts) = let later = texts_few (place + length text) texts in omega (arith, later)

from_few : (place : ℕ) (bytes : List ℕ) → length (cuts_from place bytes) ≤ length bytes
unfolding cuts_from
from_few place bytes =
    let parts = parted true bytes in
    omega (
      arith,
      parted_few true bytes,
      preamble_few place parts.before,
      texts_few (place + length parts.before) parts.texts,
      length-append (preamble place parts.before) (cuts_of (place + length parts.before) parts.texts),
    )

drop_few : (n : ℕ) (bytes : List ℕ) → length (drop n bytes) ≤ length bytes
drop_few n bytes = omega (arith, length-drop n bytes)

pub cuts_few : (stream : List ℕ) → length (cuts stream) ≤ length stream
unfolding cuts
cuts_few stream = by (starts_with nat_eq stream mark)
  where
    by : (marked : Bool) → length (cond marked (cuts_from 3 (drop 3 stream)) (cuts_from 0 stream)) ≤ length stream
    by true = omega (arith, from_few 3 (drop 3 stream), drop_few 3 stream)
    by false = from_few 0 stream
