-- The cuts of a stream that have ended stand, however the stream goes on.
use Rattle.std.proofs.Common.{◌≡◌, ◌⊎◌, inl, inr, ℕ, ◌+◌, ◌-◌, ◌<◌, ◌≤◌, ◌&&◌, ◌==◌, Bool, true, false, true≢false, nat_lt, cond, List, [], ◌∷◌, ◌++◌, length, take, drop, nat_eq, refl, sym, ap, subst, ◌∙◌, append_assoc, arith}
use Rattle.std.specs.Cmp.Lexicographic.{pointwise, same_text}
use Rattle.std.specs.List.{starts_with}
use Rattle.std.proofs.lemmas.Bool.{ltb-true, ltb-false, and_parts}
use Rattle.std.proofs.lemmas.List.{append-nil, length-take, take-append-le}
use Rattle.explorer_model.specs.Cuts.{Cut, Parted, Preamble, cut_at, cuts, cuts_from, cuts_of, event, is_white_space, mark, onto, parted, preamble}
use Rattle.import_run.specs.SoFar.{ended_cuts}
use Rattle.import_run.proofs.SoFarLemmas.{ended_front, take_front}

-- ---- what bytes begin with

starts_long : (bytes needle : List ℕ) → starts_with nat_eq bytes needle ≡ true → length needle ≤ length bytes
starts_long bytes needle is =
    let same = same_text needle (take (length needle) bytes) (sym is) in
    omega (arith, ap length same, length-take (length needle) bytes)

starts_same : (bytes more needle : List ℕ) → length needle ≤ length bytes → starts_with nat_eq (bytes ++ more) needle ≡ starts_with nat_eq bytes needle
starts_same bytes more needle long = ap (λ (l : List ℕ). pointwise nat_eq needle l) (take-append-le (length needle) bytes more long)

-- where longer bytes begin with it alone, the shorter ones are too short
starts_late : (bytes more needle : List ℕ) → starts_with nat_eq bytes needle ≡ false → starts_with nat_eq (bytes ++ more) needle ≡ true → length bytes < length needle
starts_late bytes more needle not is = by (nat_lt (length bytes) (length needle)) refl
  where
    by : (b : Bool) → nat_lt (length bytes) (length needle) ≡ b → length bytes < length needle
    by true less = ltb-true (length bytes) (length needle) less
    by false less =
        let long = ltb-false (length bytes) (length needle) less in
        absurd (true≢false (sym is ∙ starts_same bytes more needle long ∙ not))

-- ---- bytes that are parted

onto_texts : (starts : Bool) (b : ℕ) (parts : Parted) → starts ≡ false → (onto starts b parts).texts ≡ parts.texts
unfolding onto
onto_texts false b parts is = refl
onto_texts true b parts is = absurd (true≢false is)

no_start : (fresh : Bool) (bytes : List ℕ) → length bytes < 7 → (fresh && starts_with nat_eq bytes event) ≡ false
no_start false bytes short = refl
no_start true bytes short = by (starts_with nat_eq bytes event) refl
  where
    by : (b : Bool) → starts_with nat_eq bytes event ≡ b → b ≡ false
    by false is = refl
    by true is = let long : 7 ≤ length bytes = starts_long bytes event is in absurd (omega (arith, long, short))

-- fewer bytes than a start has have no text
no_texts : (fresh : Bool) (bytes : List ℕ) → length bytes < 7 → (parted fresh bytes).texts ≡ []
unfolding parted
no_texts fresh [] short = refl
no_texts fresh (b ∷ bytes) short =
    onto_texts (fresh && starts_with nat_eq (b ∷ bytes) event) b (parted (b == 10) bytes) (no_start fresh (b ∷ bytes) short)
    ∙ no_texts (b == 10) bytes (omega (arith, short))

-- more bytes have the same texts but for the last one, and the same bytes before them
record Grows (less more : Parted) : Type 0 where
  texts : List (List ℕ)
  last : List ℕ
  longer : List ℕ
  others : List (List ℕ)
  less_is : less.texts ≡ texts ++ last ∷ []
  more_is : more.texts ≡ texts ++ longer ∷ others
  before : more.before ≡ less.before

abbrev GrowsOrNone : Parted → Parted → Type 0
GrowsOrNone less more = (less.texts ≡ []) ⊎ Grows less more

grows_both : (b : ℕ) (less more : Parted) → GrowsOrNone less more → GrowsOrNone (onto true b less) (onto true b more)
unfolding onto
grows_both b less more (inl none) = inr (record {
  texts = [];
  last = b ∷ less.before;
  longer = b ∷ more.before;
  others = more.texts;
  less_is = ap (λ (l : List (List ℕ)). (b ∷ less.before) ∷ l) none;
  more_is = refl;
  before = refl;
})
grows_both b less more (inr grows) = inr (record {
  texts = (b ∷ less.before) ∷ grows.texts;
  last = grows.last;
  longer = grows.longer;
  others = grows.others;
  less_is = ap (λ (l : List (List ℕ)). (b ∷ less.before) ∷ l) grows.less_is;
  more_is = λ i. (b ∷ grows.before i) ∷ grows.more_is i;
  before = refl;
})

grows_neither : (b : ℕ) (less more : Parted) → GrowsOrNone less more → GrowsOrNone (onto false b less) (onto false b more)
unfolding onto
grows_neither b less more (inl none) = inl none
grows_neither b less more (inr grows) = inr (record {
  texts = grows.texts;
  last = grows.last;
  longer = grows.longer;
  others = grows.others;
  less_is = grows.less_is;
  more_is = grows.more_is;
  before = ap (λ (l : List ℕ). b ∷ l) grows.before;
})

grows_by : (fresh : Bool) (b : ℕ) (bytes more : List ℕ) (less longer : Parted) → GrowsOrNone less longer → (length bytes < 7 → less.texts ≡ []) → (first second : Bool)
    → (fresh && starts_with nat_eq (b ∷ bytes) event) ≡ first → (fresh && starts_with nat_eq (b ∷ (bytes ++ more)) event) ≡ second → GrowsOrNone (onto first b less) (onto second b longer)
grows_by fresh b bytes more less longer later none true true is also = grows_both b less longer later
grows_by fresh b bytes more less longer later none false false is also = grows_neither b less longer later
grows_by fresh b bytes more less longer later none true false is also =
    let starts = and_parts fresh (starts_with nat_eq (b ∷ bytes) event) is in
    let long = starts_long (b ∷ bytes) event starts.1 in
    let same = ap (λ (s : Bool). fresh && s) (starts_same (b ∷ bytes) more event long) in
    absurd (true≢false (sym is ∙ sym same ∙ also))
grows_by fresh b bytes more less longer later none false true is also =
    let starts = and_parts fresh (starts_with nat_eq (b ∷ (bytes ++ more)) event) also in
    let not : starts_with nat_eq (b ∷ bytes) event ≡ false = sym (ap (λ (f : Bool). f && starts_with nat_eq (b ∷ bytes) event) starts.0) ∙ is in
    let short : length (b ∷ bytes) < 7 = starts_late (b ∷ bytes) more event not starts.1 in
    inl (onto_texts false b less refl ∙ none (omega (arith, short)))

parted_grows : (fresh : Bool) (bytes more : List ℕ) → GrowsOrNone (parted fresh bytes) (parted fresh (bytes ++ more))
unfolding parted
parted_grows fresh [] more = inl refl
parted_grows fresh (b ∷ bytes) more =
    grows_by fresh b bytes more (parted (b == 10) bytes) (parted (b == 10) (bytes ++ more)) (parted_grows (b == 10) bytes more) (no_texts (b == 10) bytes)
    (fresh && starts_with nat_eq (b ∷ bytes) event) (fresh && starts_with nat_eq (b ∷ (bytes ++ more)) event) refl refl

-- ---- cuts

-- the cuts of more bytes go on behind all but the last of the cuts
record GoesOn (less more : List Cut) : Type 0 where
  front : List Cut
  last : List Cut
  behind : List Cut
  less_is : less ≡ front ++ last
  more_is : more ≡ front ++ behind
  few : length last ≤ 1
  none : length last ≡ 0 → front ≡ []
  some : (front ≡ []) ⊎ (0 < length behind)

cuts_of-append : (place : ℕ) (texts more : List (List ℕ)) → (behind : ℕ) × (cuts_of place (texts ++ more) ≡ cuts_of place texts ++ cuts_of behind more)
unfolding cuts_of
cuts_of-append place [] more = (place, refl)
cuts_of-append place (text ∷ texts) more =
    let later = cuts_of-append (place + length text) texts more in
    (later.0, ap (λ (l : List Cut). cut_at place text ∷ l) later.1)

one_preamble : (place : ℕ) (bytes : List ℕ) → length (preamble place bytes) ≤ 1
unfolding preamble
one_preamble place [] = omega arith
one_preamble place (b ∷ bytes) = by (is_white_space b) (one_preamble (place + 1) bytes)
  where
    by : (white : Bool) → length (preamble (place + 1) bytes) ≤ 1 → length (cond white (preamble (place + 1) bytes) (Preamble place ∷ [])) ≤ 1
    by true later = later
    by false later = omega arith

few_go_on : (less more : List Cut) → length less ≤ 1 → GoesOn less more
few_go_on less more few = record { front = []; last = less; behind = more; less_is = refl; more_is = refl; few = few; none = λ e. refl; some = inl refl }

one_cut : (place : ℕ) (text : List ℕ) → length (cuts_of place (text ∷ [])) ≡ 1
unfolding cuts_of
one_cut place text = refl

from_grows : (place : ℕ) (less more : Parted) → GrowsOrNone less more
    → GoesOn (preamble place less.before ++ cuts_of (place + length less.before) less.texts) (preamble place more.before ++ cuts_of (place + length more.before) more.texts)
unfolding cuts_of
from_grows place less more (inl none) =
    let at = place + length less.before in
    let front = preamble place less.before in
    let is : front ++ cuts_of at less.texts ≡ front = ap (λ (l : List (List ℕ)). front ++ cuts_of at l) none ∙ append-nil front in
    few_go_on _ _ (omega (arith, ap length is, one_preamble place less.before))
from_grows place less more (inr grows) =
    let at = place + length less.before in
    let front = preamble place less.before in
    let one = cuts_of-append at grows.texts (grows.last ∷ []) in
    let two = cuts_of-append at grows.texts (grows.longer ∷ grows.others) in
    record {
      front = front ++ cuts_of at grows.texts;
      last = cuts_of one.0 (grows.last ∷ []);
      behind = cuts_of two.0 (grows.longer ∷ grows.others);
      less_is =
          ap (λ (l : List (List ℕ)). front ++ cuts_of at l) grows.less_is ∙ ap (λ (l : List Cut). front ++ l) one.1
          ∙ sym (append_assoc front (cuts_of at grows.texts) (cuts_of one.0 (grows.last ∷ [])));
      more_is =
          (λ i. preamble place (grows.before i) ++ cuts_of (place + length (grows.before i)) (grows.more_is i)) ∙ ap (λ (l : List Cut). front ++ l) two.1
          ∙ sym (append_assoc front (cuts_of at grows.texts) (cuts_of two.0 (grows.longer ∷ grows.others)));
      few = omega (arith, one_cut one.0 grows.last);
      none = λ e. absurd (omega (arith, e, one_cut one.0 grows.last));
      some = inr (omega arith);
    }

from_goes_on : (place : ℕ) (bytes more : List ℕ) → GoesOn (cuts_from place bytes) (cuts_from place (bytes ++ more))
unfolding cuts_from
from_goes_on place bytes more = from_grows place (parted true bytes) (parted true (bytes ++ more)) (parted_grows true bytes more)

drop_three : (bytes more : List ℕ) → 3 ≤ length bytes → drop 3 (bytes ++ more) ≡ drop 3 bytes ++ more
drop_three [] more long = absurd (omega (arith, long))
drop_three (a ∷ []) more long = absurd (omega (arith, long))
drop_three (a ∷ b ∷ []) more long = absurd (omega (arith, long))
drop_three (a ∷ b ∷ c ∷ bytes) more long = refl

short_cuts : (bytes : List ℕ) → length bytes < 7 → length (cuts_from 0 bytes) ≤ 1
unfolding cuts_from cuts_of
short_cuts bytes short =
    let parts = parted true bytes in
    let front = preamble 0 parts.before in
    let is : front ++ cuts_of (0 + length parts.before) parts.texts ≡ front = ap (λ (l : List (List ℕ)). front ++ cuts_of (0 + length parts.before) l) (no_texts true bytes short) ∙ append-nil front in
    omega (arith, ap length is, one_preamble 0 parts.before)

cuts_go_on : (bytes more : List ℕ) → GoesOn (cuts bytes) (cuts (bytes ++ more))
unfolding cuts
cuts_go_on bytes more = by (starts_with nat_eq bytes mark) (starts_with nat_eq (bytes ++ more) mark) refl refl
  where
    by : (first second : Bool) → starts_with nat_eq bytes mark ≡ first → starts_with nat_eq (bytes ++ more) mark ≡ second
        → GoesOn (cond first (cuts_from 3 (drop 3 bytes)) (cuts_from 0 bytes)) (cond second (cuts_from 3 (drop 3 (bytes ++ more))) (cuts_from 0 (bytes ++ more)))
    by true true is also =
        subst (λ (l : List ℕ). GoesOn (cuts_from 3 (drop 3 bytes)) (cuts_from 3 l)) (sym (drop_three bytes more (starts_long bytes mark is))) (from_goes_on 3 (drop 3 bytes) more)
    by false false is also = from_goes_on 0 bytes more
    by true false is also = absurd (true≢false (sym is ∙ sym (starts_same bytes more mark (starts_long bytes mark is)) ∙ also))
    by false true is also =
        let short : length bytes < 3 = starts_late bytes more mark is also in
        few_go_on (cuts_from 0 bytes) _ (short_cuts bytes (omega (arith, short)))

ended_is : (bytes : List ℕ) (front last : List Cut) → front ++ last ≡ cuts bytes → length last ≤ 1 → (length last ≡ 0 → front ≡ []) → ended_cuts bytes ≡ front
ended_is bytes front [] is few none =
    let empty = none refl in
    ap (λ (l : List Cut). take (length l - 1) l) (sym is ∙ append-nil front ∙ empty) ∙ sym empty
ended_is bytes front (cut ∷ []) is few none = ended_front bytes front (cut ∷ []) is (omega arith) ∙ append-nil front
ended_is bytes front (cut ∷ next ∷ last) is few none = absurd (omega (arith, few))

-- the cuts that have ended stand first among the cuts of more bytes
pub ended_stand : (bytes more : List ℕ) → (behind : List Cut) × (cuts (bytes ++ more) ≡ ended_cuts bytes ++ behind)
ended_stand bytes more =
    let on = cuts_go_on bytes more in
    let is = ended_is bytes on.front on.last (sym on.less_is) on.few on.none in
    (on.behind, on.more_is ∙ ap (λ (l : List Cut). l ++ on.behind) (sym is))

-- and first among those that have ended
pub ended_stay : (bytes more : List ℕ) → (rest : List Cut) × (ended_cuts (bytes ++ more) ≡ ended_cuts bytes ++ rest)
ended_stay bytes more =
    let on = cuts_go_on bytes more in
    let is = ended_is bytes on.front on.last (sym on.less_is) on.few on.none in
    by on.front on.behind is on.more_is on.some
  where
    by : (front behind : List Cut) → ended_cuts bytes ≡ front → cuts (bytes ++ more) ≡ front ++ behind → (front ≡ []) ⊎ (0 < length behind)
        → (rest : List Cut) × (ended_cuts (bytes ++ more) ≡ ended_cuts bytes ++ rest)
    by front behind is more_is (inl none) =
        let all = ended_cuts (bytes ++ more) in (all, ap (λ (l : List Cut). l ++ all) (sym (is ∙ none)))
    by front behind is more_is (inr some) = (
      take (length behind - 1) behind,
      ap (λ (l : List Cut). take (length l - 1) l) more_is ∙ take_front front behind some
          ∙ ap (λ (l : List Cut). l ++ take (length behind - 1) behind) (sym is),
    )
