-- The cuts of a stream at its very start, by the bytes of a mark.
use Rattle.std.specs.Prelude.{◌≡◌, ℕ, zero, suc, ◌+◌, ◌-◌, ◌<◌, ◌≤◌, Bool, true, false, nat_eq, cond, List, [], ◌∷◌, ◌++◌, None, length, take, drop, refl, ◌⊎◌}
use Rattle.std.specs.List.{starts_with}
use Rattle.std.specs.Cmp.Lexicographic.{same_text, other_text}
use Rattle.std.proofs.Common.{sym, ◌∙◌, ap, subst, arith, append_assoc, inl, inr}
use Rattle.std.proofs.lemmas.Bool.{cases_lt}
use Rattle.std.proofs.lemmas.List.{take_all, take_at, take-take, take-append-le, take-append-drop, append_cancel_left, length-take, length-drop}
use Rattle.std.proofs.Math.Seq.{take-add, take-append-add}
use Rattle.explorer_model.specs.Cuts.{Preamble, mark, parted, onto, is_white_space, preamble, cuts_of, cuts_from, cuts}
use Rattle.pgn_cut.specs.Line.{parted_after}
use Rattle.pgn_cut.specs.Front.{cuts_before}
use Rattle.pgn_cut.specs.Mark.{cuts_of_mark, StaysMark, first_of_mark, matched_of_mark}

-- ---- tests

begins : (xs needle : List ℕ) → true ≡ starts_with nat_eq xs needle → take (length needle) xs ≡ needle
begins xs needle e = sym (same_text needle (take (length needle) xs) e)

differs : (xs needle : List ℕ) → false ≡ starts_with nat_eq xs needle → take (length needle) xs ≡ needle → ⊥
differs xs needle e is = other_text needle (take (length needle) xs) e (sym is)

missing_count : (n : ℕ) → n < 3 → length (drop n mark) ≡ 3 - n
missing_count n short = length-drop n mark

-- ---- the mark is whole

cuts-mark : (rest : List ℕ) → cuts_before 3 None 1 rest ≡ cuts (mark ++ rest)
unfolding cuts cuts_from cuts_before parted_after
cuts-mark rest = refl

whole_mark : (n : ℕ) (bytes : List ℕ) → take (length (drop n mark)) bytes ≡ drop n mark → (rest : List ℕ)
    → cuts_before 3 None 1 (drop (length (drop n mark)) bytes ++ rest) ≡ cuts_of_mark n (bytes ++ rest)
whole_mark n bytes is rest =
    let missing = drop n mark in
    let behind = drop (length missing) bytes in
    let split : bytes ≡ missing ++ behind = sym (take-append-drop (length missing) bytes) ∙ ap (λ (x : List ℕ). x ++ behind) is in
    let whole : take n mark ++ (bytes ++ rest) ≡ mark ++ (behind ++ rest) =
    ap (λ (x : List ℕ). take n mark ++ (x ++ rest)) split
    ∙ ap (λ (x : List ℕ). take n mark ++ x) (append_assoc missing behind rest)
    ∙ sym (append_assoc (take n mark) missing (behind ++ rest))
    ∙ ap (λ (x : List ℕ). x ++ (behind ++ rest)) (take-append-drop n mark) in
    cuts-mark (behind ++ rest) ∙ ap cuts (sym whole)

pub passes : (count : ℕ) (piece missing : List ℕ) → missing ≡ drop count mark → true ≡ starts_with nat_eq piece missing → (n : ℕ) → length missing ≤ n → (rest : List ℕ)
    → cuts_before 3 None 1 (drop (length missing) (take n piece) ++ rest) ≡ cuts_of_mark count (take n piece ++ rest)
passes count piece missing same e n enough rest =
    let due = drop count mark in
    let is : take (length due) piece ≡ due = begins piece due (subst (λ (x : List ℕ). true ≡ starts_with nat_eq piece x) same e) in
    let enough' : length due ≤ n = subst (λ (x : List ℕ). length x ≤ n) same enough in
    rw same (whole_mark count (take n piece) (take-take (length due) n piece enough' ∙ is) rest)

-- ---- the mark goes on

still_short_of : (n : ℕ) (piece : List ℕ) → n < 3 → false ≡ starts_with nat_eq piece (drop n mark) → true ≡ starts_with nat_eq (drop n mark) piece → n + length piece < 3
still_short_of n piece short not_whole is_prefix = go (cases_lt (n + length piece) 3)
  where
    go : (n + length piece < 3) ⊎ (3 ≤ n + length piece) → n + length piece < 3
    go (inl few) = few
    go (inr many) =
        let missing = drop n mark in
        let is = begins missing piece is_prefix in
        let count : length piece ≤ length missing = omega (arith, ap length is, length-take (length piece) missing) in
        let same : piece ≡ missing = sym is ∙ take_all (length piece) missing (omega (arith, missing_count n short, many)) in
        absurd (differs piece missing not_whole (take_all (length missing) piece count ∙ same))

stays_mark : (n : ℕ) (piece : List ℕ) → true ≡ starts_with nat_eq (drop n mark) piece → (rest : List ℕ)
    → cuts_of_mark (n + length piece) rest ≡ cuts_of_mark n (piece ++ rest)
stays_mark n piece is_prefix rest =
    ap (λ (x : List ℕ). cuts (x ++ rest)) (take-add n (length piece) mark ∙ ap (λ (x : List ℕ). take n mark ++ x) (begins (drop n mark) piece is_prefix))
    ∙ ap cuts (append_assoc (take n mark) piece rest)

pub still_short : (n : ℕ) (piece missing : List ℕ) → n < 3 → missing ≡ drop n mark → false ≡ starts_with nat_eq piece missing → true ≡ starts_with nat_eq missing piece → n + length piece < 3
still_short n piece missing short same not_whole is_prefix =
    still_short_of n piece short (subst (λ (x : List ℕ). false ≡ starts_with nat_eq piece x) same not_whole) (subst (λ (x : List ℕ). true ≡ starts_with nat_eq x piece) same is_prefix)

pub stays : (n : ℕ) (piece missing : List ℕ) → missing ≡ drop n mark → true ≡ starts_with nat_eq missing piece → StaysMark n piece (n + length piece)
stays n piece missing same is_prefix = record {
  came = refl;
  cuts = λ rest. stays_mark n piece (subst (λ (x : List ℕ). true ≡ starts_with nat_eq x piece) same is_prefix) rest;
}

-- ---- no mark can come

none_comes : (n : ℕ) (bytes rest : List ℕ) → n < 3 → (take (length (drop n mark)) bytes ≡ drop n mark → ⊥) → (take (length bytes) (drop n mark) ≡ bytes → ⊥)
    → take 3 (take n mark ++ (bytes ++ rest)) ≡ mark → ⊥
none_comes n bytes rest short not_whole not_prefix is = go (cases_lt (length bytes) (length missing))
  where
    missing : List ℕ
    missing = drop n mark

    front : length (take n mark) ≡ n
    front = omega (arith, length-take n mark, short)

    split : take 3 (take n mark ++ (bytes ++ rest)) ≡ take n mark ++ take (3 - n) (bytes ++ rest)
    split =
        let three : 3 ≡ length (take n mark) + (3 - n) = omega (arith, front, short) in
        ap (λ (x : ℕ). take x (take n mark ++ (bytes ++ rest))) three ∙ take-append-add (take n mark) (bytes ++ rest) (3 - n)

    comes : take (length missing) (bytes ++ rest) ≡ missing
    comes = ap (λ (x : ℕ). take x (bytes ++ rest)) (missing_count n short)
        ∙ append_cancel_left (take n mark) (take (3 - n) (bytes ++ rest)) missing (sym split ∙ is ∙ sym (take-append-drop n mark))

    go : (length bytes < length missing) ⊎ (length missing ≤ length bytes) → ⊥
    go (inr all) = not_whole (sym (take-append-le (length missing) bytes rest all) ∙ comes)
    go (inl few) =
        not_prefix (ap (take (length bytes)) (sym comes) ∙ take-take (length bytes) (length missing) (bytes ++ rest) (omega (arith, few)) ∙ take_at bytes rest (length bytes) refl)

tested : (stream : List ℕ) → (take 3 stream ≡ mark → ⊥) → cuts stream ≡ cuts_from 0 stream
unfolding cuts
tested stream other = go (starts_with nat_eq stream mark) refl
  where
    go : (b : Bool) → starts_with nat_eq stream mark ≡ b → cond b (cuts_from 3 (drop 3 stream)) (cuts_from 0 stream) ≡ cuts_from 0 stream
    go true e = absurd (other (begins stream mark (sym e)))
    go false e = refl

-- as the front that the code makes
front_of : (n : ℕ) (rest : List ℕ) → n < 3 → cuts_before n (first_of_mark n) (matched_of_mark n) rest ≡ cuts_from 0 (take n mark ++ rest)
unfolding cuts_from cuts_before parted_after parted onto preamble is_white_space
front_of zero rest short = refl
front_of (suc zero) rest short = ap (λ (x : ℕ). Preamble 0 ∷ cuts_of x (parted false rest).texts) (omega arith)
front_of (suc (suc zero)) rest short = ap (λ (x : ℕ). Preamble 0 ∷ cuts_of x (parted false rest).texts) (omega arith)
front_of (suc (suc (suc n))) rest short = absurd (omega arith)

no_mark : (count : ℕ) (bytes rest : List ℕ) → count < 3 → (take (length (drop count mark)) bytes ≡ drop count mark → ⊥) → (take (length bytes) (drop count mark) ≡ bytes → ⊥)
    → cuts_before count (first_of_mark count) (matched_of_mark count) (bytes ++ rest) ≡ cuts_of_mark count (bytes ++ rest)
no_mark count bytes rest short not_whole not_prefix =
    front_of count (bytes ++ rest) short ∙ sym (tested (take count mark ++ (bytes ++ rest)) (none_comes count bytes rest short not_whole not_prefix))

-- enough of the piece tells so too
pub without_mark : (count : ℕ) (piece missing : List ℕ) → count < 3 → missing ≡ drop count mark → false ≡ starts_with nat_eq piece missing → false ≡ starts_with nat_eq missing piece
    → (n : ℕ) → (n < length piece → 3 ≤ count + n) → (rest : List ℕ)
    → cuts_before count (first_of_mark count) (matched_of_mark count) (take n piece ++ rest) ≡ cuts_of_mark count (take n piece ++ rest)
without_mark count piece missing short same not_whole not_prefix n enough rest = go (cases_lt n (length piece))
  where
    due : List ℕ
    due = drop count mark

    other : take (length due) piece ≡ due → ⊥
    other = differs piece due (subst (λ (x : List ℕ). false ≡ starts_with nat_eq piece x) same not_whole)

    no_front : take (length piece) due ≡ piece → ⊥
    no_front = differs due piece (subst (λ (x : List ℕ). false ≡ starts_with nat_eq x piece) same not_prefix)

    go : (n < length piece) ⊎ (length piece ≤ n) → cuts_before count (first_of_mark count) (matched_of_mark count) (take n piece ++ rest) ≡ cuts_of_mark count (take n piece ++ rest)
    go (inr all) = rw (take_all n piece all) (no_mark count piece rest short other no_front)
    go (inl part) =
        let long : length due ≤ n = omega (arith, missing_count count short, enough part) in
        let read : length (take n piece) ≡ n = omega (arith, length-take n piece, part) in
        let other' : take (length due) (take n piece) ≡ due → ⊥ = λ is. other (sym (take-take (length due) n piece long) ∙ is) in
        no_mark count (take n piece) rest short other' (λ is.
        let same' : due ≡ take n piece = sym (take_all (length (take n piece)) due (omega (arith, read, long))) ∙ is in
        other' (ap (take (length due)) (sym same') ∙ take_all (length due) due (omega arith)))

-- ---- the stream ends

pub end-none : (n : ℕ) → n ≡ 0 → [] ≡ cuts_of_mark n []
unfolding cuts cuts_from parted preamble cuts_of
end-none n e = rw e

pub end-some : (n : ℕ) → n < 3 → (n ≡ 0 → ⊥) → Preamble 0 ∷ [] ≡ cuts_of_mark n []
unfolding cuts cuts_from parted onto preamble cuts_of is_white_space
end-some zero short some = absurd (some refl)
end-some (suc zero) short some = refl
end-some (suc (suc zero)) short some = refl
end-some (suc (suc (suc n))) short some = absurd (omega arith)
