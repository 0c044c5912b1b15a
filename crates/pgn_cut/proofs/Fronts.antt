-- The cuts of a stream before its first text, as more of it comes.
use Rattle.std.specs.Prelude.{◌≡◌, ℕ, ◌+◌, ◌-◌, ◌<◌, ◌≤◌, Bool, true, false, cond, List, [], ◌∷◌, ◌++◌, Option, None, Some, length, take, drop, slice_index_or, refl}
use Rattle.std.proofs.Common.{sym, ◌∙◌, ap, ap₂, subst, arith, append-nil}
use Rattle.std.proofs.lemmas.List.{take_all, take_at, take-take, drop_more, drop_all, length-take, length-take-le, length-append}
use Rattle.explorer_model.specs.Cuts.{Cut, Preamble, Parted, event, is_white_space, preamble, cuts_of}
use Rattle.pgn_cut.specs.Line.{GoesOn, parted_after, open_bytes}
use Rattle.pgn_cut.specs.Solid.{solid, first_of}
use Rattle.pgn_cut.specs.Text.{at_start, cuts_of_text}
use Rattle.pgn_cut.specs.Front.{refusal_of, preamble_with, cuts_before, Starts}
use Rattle.pgn_cut.specs.declared.front.Front.{Front}
use Rattle.pgn_cut.proofs.Lines.{by_count, counts, open_count}
use Rattle.pgn_cut.proofs.Texts.{start_found, cuts-at_start, parted_after-nil}

-- ---- the first byte that is no white space

pub solid-white : (place : ℕ) (bytes : List ℕ) (at : ℕ) → at < length bytes → is_white_space (slice_index_or bytes at 0) ≡ true
    → solid (place + at) (drop at bytes) ≡ solid (place + (at + 1)) (drop (at + 1) bytes)
unfolding solid
solid-white place bytes at below white =
    let next : place + at + 1 ≡ place + (at + 1) = omega arith in
    rw (drop_more bytes at 0 below, white) (ap (λ (x : ℕ). solid x (drop (at + 1) bytes)) next)

pub solid-stops : (place : ℕ) (bytes : List ℕ) (at : ℕ) → at < length bytes → is_white_space (slice_index_or bytes at 0) ≡ false
    → solid (place + at) (drop at bytes) ≡ Some (place + at)
unfolding solid
solid-stops place bytes at below solid_one = rw (drop_more bytes at 0 below, solid_one)

pub solid-all : (place : ℕ) (bytes : List ℕ) (at : ℕ) → length bytes ≤ at → solid (place + at) (drop at bytes) ≡ None
unfolding solid
solid-all place bytes at past = rw (drop_all at bytes past)

led : (place : ℕ) (head bytes more : List ℕ) → 91 ∷ bytes ≡ head ++ more → 0 < length head → solid place head ≡ Some place
unfolding solid is_white_space
led place [] bytes more same some = absurd (omega arith)
led place (b ∷ head) bytes more same some =
    let is : b ≡ 91 = cc in
    rw is

-- a byte that was open is none
pub solid-open : (m : ℕ) → 1 < m → m < 8 → (place : ℕ) (head bytes more : List ℕ) → open_bytes m ++ bytes ≡ head ++ more → 0 < length head → solid place head ≡ Some place
solid-open m some_open short =
    let P : ℕ → Type 0 = λ n. 1 < n → (place : ℕ) (head bytes more : List ℕ) → open_bytes n ++ bytes ≡ head ++ more → 0 < length head → solid place head ≡ Some place in
    by_count P (λ h. absurd (omega arith)) (λ h place head bytes. led place head _) (λ h place head bytes. led place head _) (λ h place head bytes. led place head _)
    (λ h place head bytes. led place head _) (λ h place head bytes. led place head _) (λ h place head bytes. led place head _) m (omega arith) short some_open

pub first_of-nil : (first : Option ℕ) (place : ℕ) (head : List ℕ) → length head ≡ 0 → first_of first place head ≡ first
unfolding solid
first_of-nil (Some first) place head none = refl
first_of-nil None place [] none = refl
first_of-nil None place (b ∷ head) none = absurd (omega arith)

-- nothing was open: the bytes that are settled are the piece's first
pub head-is : (m n : ℕ) (piece : List ℕ) (taken k : ℕ) → m ≤ 1 → taken ≤ length piece → (g : GoesOn m (take taken piece) n) → length g.head ≡ k → g.head ≡ take k piece
head-is m n piece taken k none_open within g count =
    let none : m - 1 ≡ 0 = omega arith in
    let same : take taken piece ≡ g.head ++ open_bytes n = subst (λ (x : ℕ). take x event ++ take taken piece ≡ g.head ++ open_bytes n) none g.same in
    let few : k ≤ taken = omega (arith, count, ap length same, length-append g.head (open_bytes n), length-take taken piece, within) in
    sym (take_at g.head (open_bytes n) k count) ∙ ap (take k) (sym same) ∙ take-take k taken piece few

-- ---- the refusal

preamble-ahead : (place : ℕ) (head more : List ℕ) → preamble place (head ++ more) ≡ preamble_with (solid place head) (place + length head) more
unfolding preamble solid
preamble-ahead place [] more = ap (λ (x : ℕ). preamble x more) (omega arith)
preamble-ahead place (b ∷ head) more =
    let further : place + 1 + length head ≡ place + length (b ∷ head) = omega arith in
    go (is_white_space b) (preamble-ahead (place + 1) head more ∙ ap (λ (x : ℕ). preamble_with (solid (place + 1) head) x more) further)
  where
    go : (w : Bool) → preamble (place + 1) (head ++ more) ≡ preamble_with (solid (place + 1) head) (place + length (b ∷ head)) more
        → cond w (preamble (place + 1) (head ++ more)) (Preamble place ∷ []) ≡ preamble_with (cond w (solid (place + 1) head) (Some place)) (place + length (b ∷ head)) more
    go true e = e
    go false e = refl

preamble_with-ahead : (first : Option ℕ) (place : ℕ) (head more : List ℕ) → preamble_with first place (head ++ more) ≡ preamble_with (first_of first place head) (place + length head) more
preamble_with-ahead (Some first) place head more = refl
preamble_with-ahead None place head more = preamble-ahead place head more

preamble_with-nil : (first : Option ℕ) (place : ℕ) → preamble_with first place [] ≡ refusal_of first
unfolding preamble
preamble_with-nil (Some first) place = refl
preamble_with-nil None place = refl

-- ---- the cuts

-- no text begins in these bytes
pub cuts_before-ahead : (came : ℕ) (first : Option ℕ) (m n : ℕ) (bytes : List ℕ) (first' : Option ℕ) → m < 8 → n ≤ 8 → m ≤ came + 1 → (g : GoesOn m bytes n)
    → first' ≡ first_of first (came - (m - 1)) g.head → (rest : List ℕ) → cuts_before came first m (bytes ++ rest) ≡ cuts_before (came + length bytes) first' n rest
unfolding cuts_before
cuts_before-ahead came first m n bytes first' short short' begun g firsts rest =
    let place = came - (m - 1) in
    let parts = parted_after n rest in
    let at : place + length g.head ≡ came + length bytes - (n - 1) = omega (arith, short, begun, counts m n bytes (omega (arith, short)) short' g) in
    let behind : place + length (g.head ++ parts.before) ≡ came + length bytes - (n - 1) + length parts.before = omega (arith, at, length-append g.head parts.before) in
    ap (λ (p : Parted). preamble_with first place p.before ++ cuts_of (place + length p.before) p.texts) (g.parts rest)
    ∙ ap₂ (λ (x : List Cut) (y : ℕ). x ++ cuts_of y parts.texts) (preamble_with-ahead first place g.head parts.before) behind
    ∙ ap₂ (λ (x : Option ℕ) (y : ℕ). preamble_with x y parts.before ++ cuts_of (came + length bytes - (n - 1) + length parts.before) parts.texts) (sym firsts) at

-- a start came last
cuts_before-start : (came : ℕ) (first : Option ℕ) (rest : List ℕ) → cuts_before came first 8 rest ≡ refusal_of first ++ cuts_of_text (at_start (came - 7)) rest
unfolding cuts_before cuts_of_text
cuts_before-start came first rest =
    let place = came - 7 in
    let after = parted_after 0 rest in
    let none : place + 0 ≡ place = omega arith in
    ap (λ (p : Parted). preamble_with first place p.before ++ cuts_of (place + length p.before) p.texts) (start_found rest)
    ∙ ap₂ (λ (x : List Cut) (y : ℕ). x ++ cuts_of y ((event ++ after.before) ∷ after.texts)) (preamble_with-nil first place) none
    ∙ ap (λ (x : List Cut). refusal_of first ++ x) (cuts-at_start place after.before after.texts)

-- the stream ends
pub cuts_before-nil : (came : ℕ) (first : Option ℕ) (m : ℕ) → m < 8 → refusal_of (first_of first (came - (m - 1)) (open_bytes m)) ≡ cuts_before came first m []
unfolding cuts_before cuts_of
cuts_before-nil came first m short =
    let place = came - (m - 1) in
    sym (ap (λ (p : Parted). preamble_with first place p.before ++ cuts_of (place + length p.before) p.texts) (parted_after-nil m short)
    ∙ append-nil (preamble_with first place (open_bytes m))
    ∙ ap (preamble_with first place) (sym (append-nil (open_bytes m)))
    ∙ preamble_with-ahead first place (open_bytes m) []
    ∙ preamble_with-nil (first_of first place (open_bytes m)) (place + length (open_bytes m)))

-- ---- in the code's terms

pub end-known : (came : ℕ) (first : Option ℕ) (m p : ℕ) → m < 8 → first ≡ Some p → Preamble p ∷ [] ≡ cuts_before came first m []
end-known came first m p short e =
    ap refusal_of (sym (ap (λ (x : Option ℕ). first_of x (came - (m - 1)) (open_bytes m)) e)) ∙ cuts_before-nil came first m short

pub end-open : (came : ℕ) (first : Option ℕ) (m : ℕ) → m < 8 → first ≡ None → 1 < m → Preamble (came - (m - 1)) ∷ [] ≡ cuts_before came first m []
end-open came first m short e some =
    let place = came - (m - 1) in
    let opens : solid place (open_bytes m) ≡ Some place = solid-open m some short place (open_bytes m) [] [] refl (omega (arith, open_count m (omega (arith, short)), some)) in
    ap refusal_of (sym (ap (λ (x : Option ℕ). first_of x place (open_bytes m)) e ∙ opens)) ∙ cuts_before-nil came first m short

pub end-blank : (came : ℕ) (first : Option ℕ) (m : ℕ) → m < 8 → first ≡ None → m ≤ 1 → [] ≡ cuts_before came first m []
end-blank came first m short e few =
    let none : length (open_bytes m) ≡ 0 = omega (arith, open_count m (omega (arith, short)), few) in
    ap refusal_of (sym (first_of-nil first (came - (m - 1)) (open_bytes m) none ∙ e)) ∙ cuts_before-nil came first m short

-- what a search settles
settled_count : (m n : ℕ) (piece : List ℕ) (taken : ℕ) → m < 8 → n ≤ 8 → taken ≤ length piece → (g : GoesOn m (take taken piece) n) → m - 1 + taken - (n - 1) ≡ length g.head
settled_count m n piece taken short short' within g = omega (arith, within, length-take taken piece, counts m n (take taken piece) (omega (arith, short)) short' g)

pub none-settled : (came : ℕ) (first : Option ℕ) (m n : ℕ) (piece : List ℕ) (taken : ℕ) → m < 8 → n ≤ 8 → taken ≤ length piece → (g : GoesOn m (take taken piece) n)
    → first ≡ None → m - 1 + taken - (n - 1) ≡ 0 → None ≡ first_of first (came - (m - 1)) g.head
none-settled came first m n piece taken short short' within g e none =
    sym (first_of-nil first (came - (m - 1)) g.head (sym (settled_count m n piece taken short short' within g) ∙ none) ∙ e)

pub open-settled : (came : ℕ) (first : Option ℕ) (m n : ℕ) (piece : List ℕ) (taken : ℕ) → m < 8 → n ≤ 8 → taken ≤ length piece → (g : GoesOn m (take taken piece) n)
    → first ≡ None → (m - 1 + taken - (n - 1) ≡ 0 → ⊥) → 1 < m → Some (came - (m - 1)) ≡ first_of first (came - (m - 1)) g.head
open-settled came first m n piece taken short short' within g e some some_open =
    let count = settled_count m n piece taken short short' within g in
    let head_some : 0 < length g.head = omega (arith, count, some) in
    sym (ap (λ (x : Option ℕ). first_of x (came - (m - 1)) g.head) e ∙ solid-open m some_open short (came - (m - 1)) g.head (take taken piece) (open_bytes n) g.same head_some)

pub piece-settled : (came : ℕ) (first : Option ℕ) (m n : ℕ) (piece : List ℕ) (taken : ℕ) (found : Option ℕ) → m < 8 → n ≤ 8 → taken ≤ length piece → (g : GoesOn m (take taken piece) n)
    → first ≡ None → m ≤ 1 → found ≡ solid came (take (m - 1 + taken - (n - 1)) piece) → found ≡ first_of first (came - (m - 1)) g.head
piece-settled came first m n piece taken found short short' within g e none_open is =
    let count = settled_count m n piece taken short short' within g in
    let place : came ≡ came - (m - 1) = omega arith in
    is ∙ ap (solid came) (sym (head-is m n piece taken (m - 1 + taken - (n - 1)) none_open within g (sym count)))
    ∙ ap (λ (x : ℕ). solid x g.head) place
    ∙ sym (ap (λ (x : Option ℕ). first_of x (came - (m - 1)) g.head) e)

pub cuts-onward : (came : ℕ) (first : Option ℕ) (m n : ℕ) (piece : List ℕ) (taken : ℕ) (first' : Option ℕ) → m < 8 → m ≤ came + 1 → n ≤ 8 → taken ≡ length piece
    → GoesOn m (take taken piece) n → ((g : GoesOn m (take taken piece) n) → first' ≡ first_of first (came - (m - 1)) g.head) → (rest : List ℕ)
    → cuts_before (came + length piece) first' n rest ≡ cuts_before came first m (piece ++ rest)
cuts-onward came first m n piece taken first' short begun short' whole g firsts rest =
    let all = take_all taken piece (omega (arith, whole)) in
    let ahead_of : List ℕ → Type 0 = λ x. cuts_before (came + length x) first' n rest ≡ cuts_before came first m (x ++ rest) in
    subst ahead_of all (sym (cuts_before-ahead came first m n (take taken piece) first' short short' begun g (firsts g) rest))

pub starts : (f : Front) (n : ℕ) (piece : List ℕ) (taken : ℕ) (first' : Option ℕ) → n ≡ 8 → taken ≤ length piece → GoesOn f.matched (take taken piece) n
    → ((g : GoesOn f.matched (take taken piece) n) → first' ≡ first_of f.first (f.came - (f.matched - 1)) g.head) → Starts f piece taken first'
starts f n piece taken first' whole within g firsts =
    let bytes = take taken piece in
    let count : length bytes ≡ taken = length-take-le taken piece within in
    let same = counts f.matched n bytes (omega (arith, f.short)) (omega (arith, whole)) g in record {
      some = omega (arith, count, same, whole, f.short);
      within = within;
      behind = omega (arith, count, same, whole, f.short, f.begun);
      cuts = λ rest.
          let came_after : ℕ → Type 0 = λ x. refusal_of first' ++ cuts_of_text (at_start (f.came + x - 7)) rest ≡ cuts_before f.came f.first f.matched (bytes ++ rest) in
          subst came_after count (sym (cuts_before-ahead f.came f.first f.matched n bytes first' f.short (omega (arith, whole)) f.begun g (firsts g) rest
          ∙ ap (λ (x : ℕ). cuts_before (f.came + length bytes) first' x rest) whole
          ∙ cuts_before-start (f.came + length bytes) first' rest));
    }
