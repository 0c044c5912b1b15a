-- The cuts of the text in hand, as more of the stream comes.
use Rattle.std.specs.Prelude.{◌≡◌, ℕ, zero, suc, ◌+◌, ◌-◌, ◌<◌, ◌≤◌, Bool, true, false, cond, nat_le, List, [], ◌∷◌, ◌++◌, length, take, drop, refl}
use Rattle.std.proofs.Common.{sym, ◌∙◌, ap, ap₂, subst, arith, append_assoc, append-nil}
use Rattle.std.proofs.lemmas.Bool.{leb-true}
use Rattle.std.proofs.lemmas.List.{take_all, take_at, drop_at, take-append-drop, length-take, length-take-le, length-append}
use Rattle.explorer_model.specs.Cuts.{Cut, Text, TooLong, Parted, parted, onto, event, text_limit, cut_at, cuts_of}
use Rattle.pgn_cut.proofs.Lines.{by_count, counts, open_count}
use Rattle.pgn_cut.specs.Line.{GoesOn, parted_after, open_bytes}
use Rattle.pgn_cut.specs.Text.{TextState, at_start, settled, cut_with, cuts_of_text, kept_limit, IsText}

-- ---- what is kept

-- the text after more bytes
abbrev pub grown : TextState → List ℕ → ℕ → TextState
grown t bytes n = record { place = t.place; count = t.count + length bytes; matched = n; kept = t.kept ++ take (kept_limit - length t.kept) bytes }

pub settled-grown : (t : TextState) (bytes : List ℕ) (n : ℕ) → IsText t → n ≤ 8 → (g : GoesOn t.matched bytes n) → settled (grown t bytes n) ≡ settled t + length g.head
settled-grown t bytes n is short g = omega (arith, is.short, is.begun, counts t.matched n bytes (omega (arith, is.short)) short g)

-- all of it, the open bytes last
pub kept-grown : (t : TextState) (bytes : List ℕ) (n : ℕ) → IsText t → (g : GoesOn t.matched bytes n) → t.count + length bytes ≤ kept_limit
    → (grown t bytes n).kept ≡ (take (settled t) t.kept ++ g.head) ++ open_bytes n
kept-grown t bytes n is g fits =
    let whole = is.whole (omega arith) in
    let fit : take (kept_limit - length t.kept) bytes ≡ bytes = take_all _ bytes (omega (arith, whole.all)) in
    let split : t.kept ≡ take (settled t) t.kept ++ open_bytes t.matched = sym (take-append-drop (settled t) t.kept) ∙ ap (λ (x : List ℕ). take (settled t) t.kept ++ x) whole.ends in
    ap (λ (x : List ℕ). t.kept ++ x) fit ∙ ap (λ (x : List ℕ). x ++ bytes) split ∙ append_assoc _ (open_bytes t.matched) bytes
    ∙ ap (λ (x : List ℕ). take (settled t) t.kept ++ x) g.same ∙ sym (append_assoc _ g.head (open_bytes n))

front_count : (t : TextState) (bytes : List ℕ) (n : ℕ) → IsText t → n ≤ 8 → (g : GoesOn t.matched bytes n) → t.count + length bytes ≤ kept_limit
    → length (take (settled t) t.kept ++ g.head) ≡ settled (grown t bytes n)
front_count t bytes n is short g fits =
    let whole = is.whole (omega arith) in
    length-append _ g.head ∙ ap (λ (x : ℕ). x + length g.head) (length-take-le (settled t) t.kept (omega (arith, whole.all))) ∙ sym (settled-grown t bytes n is short g)

pub front-grown : (t : TextState) (bytes : List ℕ) (n : ℕ) → IsText t → n ≤ 8 → (g : GoesOn t.matched bytes n) → t.count + length bytes ≤ kept_limit
    → take (settled (grown t bytes n)) (grown t bytes n).kept ≡ take (settled t) t.kept ++ g.head
front-grown t bytes n is short g fits =
    ap (take (settled (grown t bytes n))) (kept-grown t bytes n is g fits)
    ∙ take_at (take (settled t) t.kept ++ g.head) (open_bytes n) _ (front_count t bytes n is short g fits)

ends-grown : (t : TextState) (bytes : List ℕ) (n : ℕ) → IsText t → n ≤ 8 → (g : GoesOn t.matched bytes n) → t.count + length bytes ≤ kept_limit
    → drop (settled (grown t bytes n)) (grown t bytes n).kept ≡ open_bytes n
ends-grown t bytes n is short g fits =
    ap (drop (settled (grown t bytes n))) (kept-grown t bytes n is g fits)
    ∙ drop_at (take (settled t) t.kept ++ g.head) (open_bytes n) _ (front_count t bytes n is short g fits)

-- it stays a text in hand
pub IsText-grown : (t : TextState) (bytes : List ℕ) (n : ℕ) → IsText t → n < 8 → GoesOn t.matched bytes n → IsText (grown t bytes n)
IsText-grown t bytes n is short g =
    let short' : n ≤ 8 = omega (arith, short) in
    let added = length-append t.kept (take (kept_limit - length t.kept) bytes) in
    let taken = length-take (kept_limit - length t.kept) bytes in
    let same = counts t.matched n bytes (omega (arith, is.short)) short' g in record {
      short = short;
      begun = omega (arith, is.begun, is.short, same);
      small = omega (arith, is.small, added, taken);
      whole = λ fits. record {
        all = let whole = is.whole (omega (arith, fits)) in omega (arith, whole.all, added, taken, fits);
        ends = ends-grown t bytes n is short' g fits;
      };
    }

-- ---- cuts

cut_with-ahead : (place n : ℕ) (front head more front' : List ℕ) → (n + length head ≤ text_limit → front' ≡ front ++ head)
    → cut_with place n front (head ++ more) ≡ cut_with place (n + length head) front' more
unfolding cut_with
cut_with-ahead place n front head more front' same =
    let count : n + length (head ++ more) ≡ n + length head + length more = omega (arith, length-append head more) in
    rw count (go (nat_le (n + length head + length more) text_limit) refl)
  where
    go : (b : Bool) → nat_le (n + length head + length more) text_limit ≡ b
        → cond b (Text (record { place = place; bytes = front ++ (head ++ more) })) (TooLong place (n + length head + length more))
        ≡ cond b (Text (record { place = place; bytes = front' ++ more })) (TooLong place (n + length head + length more))
    go true e = ap (λ (x : List ℕ). Text (record { place = place; bytes = x }))
        (sym (append_assoc front head more) ∙ ap (λ (x : List ℕ). x ++ more) (sym (same (omega (arith, leb-true _ _ e)))))
    go false e = refl

-- no cut ends in these bytes
pub cuts-grown : (t : TextState) (bytes : List ℕ) (n : ℕ) → IsText t → n ≤ 8 → GoesOn t.matched bytes n → (rest : List ℕ)
    → cuts_of_text t (bytes ++ rest) ≡ cuts_of_text (grown t bytes n) rest
unfolding cuts_of_text
cuts-grown t bytes n is short g rest =
    let k = settled t in
    let front = take k t.kept in
    let parts = parted_after n rest in
    let cuts_with : Parted → List Cut = λ p. cut_with t.place k front p.before ∷ cuts_of (t.place + k + length p.before) p.texts in
    let same : settled (grown t bytes n) ≡ k + length g.head = settled-grown t bytes n is short g in
    let place : t.place + k + length (g.head ++ parts.before) ≡ t.place + settled (grown t bytes n) + length parts.before = omega (arith, same, length-append g.head parts.before) in
    let fits : k + length g.head ≤ text_limit → take (k + length g.head) (grown t bytes n).kept ≡ front ++ g.head =
    λ few. ap (λ (x : ℕ). take x (grown t bytes n).kept) (sym same) ∙ front-grown t bytes n is short g (omega (arith, few, same, is.begun)) in
    ap cuts_with (g.parts rest)
    ∙ ap₂ (λ (x : Cut) (y : ℕ). x ∷ cuts_of y parts.texts) (cut_with-ahead t.place k front g.head parts.before _ fits) place
    ∙ ap (λ (x : ℕ). cut_with t.place x (take x (grown t bytes n).kept) parts.before ∷ cuts_of (t.place + settled (grown t bytes n) + length parts.before) parts.texts) (sym same)

pub start_found : (rest : List ℕ) → parted_after 8 rest ≡ record { before = []; texts = (event ++ (parted_after 0 rest).before) ∷ (parted_after 0 rest).texts }
unfolding parted_after parted onto
start_found rest = refl

pub cuts-at_start : (place : ℕ) (more : List ℕ) (texts : List (List ℕ))
    → cuts_of place ((event ++ more) ∷ texts) ≡ cut_with place 7 event more ∷ cuts_of (place + 7 + length more) texts
unfolding cuts_of cut_at cut_with
cuts-at_start place more texts =
    let count : length (event ++ more) ≡ 7 + length more = length-append event more in
    let behind : place + (7 + length more) ≡ place + 7 + length more = omega arith in
    ap (λ (x : ℕ). cond (nat_le x text_limit) (Text (record { place = place; bytes = event ++ more })) (TooLong place x) ∷ cuts_of (place + x) texts) count
    ∙ ap (λ (x : ℕ). cond (nat_le (7 + length more) text_limit) (Text (record { place = place; bytes = event ++ more })) (TooLong place (7 + length more)) ∷ cuts_of x texts) behind

-- where a start came last, the text ends before it
cuts-at_next : (place k : ℕ) (front : List ℕ) (rest : List ℕ) → let parts = parted_after 8 rest in
    cut_with place k front parts.before ∷ cuts_of (place + k + length parts.before) parts.texts ≡ cut_with place k front [] ∷ cuts_of_text (at_start (place + k)) rest
unfolding cuts_of_text
cuts-at_next place k front rest =
    let after = parted_after 0 rest in
    let none : place + k + 0 ≡ place + k = omega arith in
    ap (λ (p : Parted). cut_with place k front p.before ∷ cuts_of (place + k + length p.before) p.texts) (start_found rest)
    ∙ ap (λ (x : ℕ). cut_with place k front [] ∷ cuts_of x ((event ++ after.before) ∷ after.texts)) none
    ∙ ap (λ (x : List Cut). cut_with place k front [] ∷ x) (cuts-at_start (place + k) after.before after.texts)

-- a start ends with these bytes, and the cut of the text is that of its first bytes
pub cuts-found : (t : TextState) (bytes : List ℕ) → IsText t → GoesOn t.matched bytes 8 → (rest : List ℕ)
    → let k = settled (grown t bytes 8) in
    cut_with t.place k (take k (grown t bytes 8).kept) [] ∷ cuts_of_text (at_start (t.place + k)) rest ≡ cuts_of_text t (bytes ++ rest)
unfolding cuts_of_text
cuts-found t bytes is g rest =
    let k = settled (grown t bytes 8) in
    let grows = cuts-grown t bytes 8 is (omega arith) g rest in
    sym (grows ∙ cuts-at_next t.place k (take k (grown t bytes 8).kept) rest)

pub parted_after-nil : (m : ℕ) → m < 8 → parted_after m [] ≡ record { before = open_bytes m; texts = [] }
unfolding parted_after parted onto
parted_after-nil zero short = refl
parted_after-nil (suc m) short = by_count (λ n. parted_after n [] ≡ record { before = open_bytes n; texts = [] }) refl refl refl refl refl refl refl (suc m) (omega arith) short

-- the stream ends
pub cuts-nil : (t : TextState) → IsText t → cut_with t.place t.count (take t.count t.kept) [] ∷ [] ≡ cuts_of_text t []
unfolding cuts_of_text cuts_of
cuts-nil t is =
    let k = settled t in
    let front = take k t.kept in
    let open_ones = open_bytes t.matched in
    let all : k + length open_ones ≡ t.count = omega (arith, is.begun, is.short, open_count t.matched (omega (arith, is.short))) in
    let fits : k + length open_ones ≤ text_limit → take t.count t.kept ≡ front ++ open_ones = λ few.
    let whole = is.whole (omega (arith, few, all)) in
    take_all t.count t.kept (omega (arith, whole.all)) ∙ sym (take-append-drop k t.kept) ∙ ap (λ (x : List ℕ). front ++ x) whole.ends in
    sym (ap (λ (p : Parted). cut_with t.place k front p.before ∷ cuts_of (t.place + k + length p.before) p.texts) (parted_after-nil t.matched is.short)
    ∙ ap (λ (x : Cut). x ∷ []) (ap (cut_with t.place k front) (sym (append-nil open_ones))
    ∙ cut_with-ahead t.place k front open_ones [] (take t.count t.kept) fits
    ∙ ap (λ (x : ℕ). cut_with t.place x (take t.count t.kept) []) all))

-- ---- in the code's terms

pub goes_on-whole : (t : TextState) (piece : List ℕ) (taken n : ℕ) (kept : List ℕ) → IsText t → n < 8 → taken ≡ length piece → GoesOn t.matched (take taken piece) n
    → kept ≡ t.kept ++ take (kept_limit - length t.kept) piece → IsText (record { place = t.place; count = t.count + length piece; matched = n; kept = kept })
goes_on-whole t piece taken n kept is short all g e =
    let g' = subst (λ (x : List ℕ). GoesOn t.matched x n) (take_all taken piece (omega (arith, all))) g in
    rw e (IsText-grown t piece n is short g')

pub cuts-whole : (t self : TextState) (piece : List ℕ) (taken n : ℕ) (kept : List ℕ) → IsText t → t ≡ self → n < 8 → taken ≡ length piece → GoesOn t.matched (take taken piece) n
    → kept ≡ t.kept ++ take (kept_limit - length t.kept) piece → (rest : List ℕ)
    → cuts_of_text (record { place = t.place; count = t.count + length piece; matched = n; kept = kept }) rest ≡ cuts_of_text self (take taken piece ++ rest)
cuts-whole t self piece taken n kept is same short all g e rest =
    let whole = take_all taken piece (omega (arith, all)) in
    let g' = subst (λ (x : List ℕ). GoesOn t.matched x n) whole g in
    rw (e, whole, ← same) (sym (cuts-grown t piece n is (omega (arith, short)) g' rest))

pub cuts-taken : (t self : TextState) (piece : List ℕ) (taken n : ℕ) (kept next : List ℕ) (cut : Cut) → IsText t → t ≡ self → 8 ≤ n → n ≤ 8
    → taken ≤ length piece → GoesOn t.matched (take taken piece) n → kept ≡ t.kept ++ take (kept_limit - length t.kept) (take taken piece) → next ≡ event
    → cut ≡ cut_with t.place (t.count + taken - 7) (take (t.count + taken - 7) kept) [] → (rest : List ℕ)
    → cut ∷ cuts_of_text (record { place = t.place + (t.count + taken - 7); count = 7; matched = 0; kept = next }) rest ≡ cuts_of_text self (take taken piece ++ rest)
cuts-taken t self piece taken n kept next cut is same low high within g keeps begins cuts rest =
    let bytes = take taken piece in
    let g' : GoesOn t.matched bytes 8 = subst (λ (x : ℕ). GoesOn t.matched bytes x) (omega arith) g in
    let cuts_by : ℕ → Type 0 = λ x. cut_with t.place (t.count + x - 7) (take (t.count + x - 7) (grown t bytes 8).kept) []
    ∷ cuts_of_text (at_start (t.place + (t.count + x - 7))) rest ≡ cuts_of_text t (bytes ++ rest) in
    rw (cuts, keeps, begins, ← same) (subst cuts_by (length-take-le taken piece within) (cuts-found t bytes is g' rest))

-- some bytes came before a whole start stood there
pub some_taken : (m n : ℕ) (piece : List ℕ) (taken : ℕ) → m < 8 → 8 ≤ n → n ≤ 8 → GoesOn m (take taken piece) n → 0 < taken
some_taken m n piece taken short low high g =
    omega (arith, low, length-take taken piece, counts m n (take taken piece) (omega (arith, short)) high g)
