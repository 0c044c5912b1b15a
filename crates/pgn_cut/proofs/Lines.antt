-- How the count of the bytes of a line end and a start goes on, byte by byte.
use Rattle.std.specs.Prelude.{◌≡◌, ℕ, zero, suc, ◌+◌, ◌-◌, ◌<◌, ◌≤◌, Bool, false, ◌==◌, nat_eq, List, [], ◌∷◌, ◌++◌, length, take, drop, slice_index, slice_index_or, Option, Some, None, refl}
use Rattle.std.proofs.Common.{sym, ◌∙◌, ap, subst, arith, append_assoc, append-nil}
use Rattle.std.proofs.lemmas.Bool.{ne_eqb, eqb-true, eq-eqb}
use Rattle.std.proofs.lemmas.List.{take_all, take_more, take_rest, length-take, length-drop, length-append, get_or-take}
use Rattle.std.proofs.Math.Seq.{take-add}
use Rattle.memchr.specs.Find.{IsFirstByte, is_byte}
use Rattle.explorer_model.specs.Cuts.{parted, onto, event}
use Rattle.pgn_cut.specs.Line.{GoesOn, Scanned, parted_after, open_bytes, ahead}

-- the counts at which a start may go on
pub by_count : (P : ℕ → Type 0) → P 1 → P 2 → P 3 → P 4 → P 5 → P 6 → P 7 → (m : ℕ) → 0 < m → m < 8 → P m
by_count P a b c d e f g zero begun short = absurd (omega arith)
by_count P a b c d e f g (suc zero) begun short = a
by_count P a b c d e f g (suc (suc zero)) begun short = b
by_count P a b c d e f g (suc (suc (suc zero))) begun short = c
by_count P a b c d e f g (suc (suc (suc (suc zero)))) begun short = d
by_count P a b c d e f g (suc (suc (suc (suc (suc zero))))) begun short = e
by_count P a b c d e f g (suc (suc (suc (suc (suc (suc zero)))))) begun short = f
by_count P a b c d e f g (suc (suc (suc (suc (suc (suc (suc zero))))))) begun short = g
by_count P a b c d e f g (suc (suc (suc (suc (suc (suc (suc (suc m)))))))) begun short = absurd (omega arith)

abbrev next : ℕ → ℕ
next m = slice_index_or {A = ℕ} (10 ∷ event) m 0

-- the byte of the start that is due
pub matches : (m b : ℕ) → 0 < m → m < 8 → b ≡ next m → GoesOn m (b ∷ []) (m + 1)
unfolding parted_after
matches m b begun short e =
    let goes_on : (n : ℕ) → Type 0 = λ n. GoesOn n (next n ∷ []) (n + 1) in
    let at = by_count goes_on
    (record { head = []; same = refl; parts = λ rest. refl })
    (record { head = []; same = refl; parts = λ rest. refl })
    (record { head = []; same = refl; parts = λ rest. refl })
    (record { head = []; same = refl; parts = λ rest. refl })
    (record { head = []; same = refl; parts = λ rest. refl })
    (record { head = []; same = refl; parts = λ rest. refl })
    (record { head = []; same = refl; parts = λ rest. refl })
    m begun short in
    subst (λ (x : ℕ). GoesOn m (x ∷ []) (m + 1)) (sym e) at

-- another byte: no text begins in what was open
breaks_off : (m b : ℕ) (rest : List ℕ) → 0 < m → m < 8 → nat_eq (next m) b ≡ false → parted_after m (b ∷ rest) ≡ ahead (open_bytes m ++ b ∷ []) (parted (b == 10) rest)
unfolding parted_after parted onto
breaks_off m b rest begun short =
    let breaks : (n : ℕ) → Type 0 = λ n. nat_eq (next n) b ≡ false → parted_after n (b ∷ rest) ≡ ahead (open_bytes n ++ b ∷ []) (parted (b == 10) rest) in
    by_count breaks (λ e. rw e) (λ e. rw e) (λ e. rw e) (λ e. rw e) (λ e. rw e) (λ e. rw e) (λ e. rw e) m begun short

pub line_ends : (m b : ℕ) → 0 < m → m < 8 → (b ≡ next m → ⊥) → b ≡ 10 → GoesOn m (b ∷ []) 1
unfolding parted_after
line_ends m b begun short other e = record {
  head = open_bytes m ++ b ∷ [];
  same = sym (append-nil (open_bytes m ++ b ∷ []));
  parts = λ rest. breaks_off m b rest begun short (ne_eqb (next m) b (λ is. other (sym is))) ∙ ap (λ (x : ℕ). ahead (open_bytes m ++ b ∷ []) (parted (x == 10) rest)) e;
}

pub line_goes_on : (m b : ℕ) → 0 < m → m < 8 → (b ≡ next m → ⊥) → (b ≡ 10 → ⊥) → GoesOn m (b ∷ []) 0
unfolding parted_after
line_goes_on m b begun short other no_end = record {
  head = open_bytes m ++ b ∷ [];
  same = sym (append-nil (open_bytes m ++ b ∷ []));
  parts = λ rest. breaks_off m b rest begun short (ne_eqb (next m) b (λ is. other (sym is))) ∙ ap (λ (x : Bool). ahead (open_bytes m ++ b ∷ []) (parted x rest)) (ne_eqb b 10 no_end);
}

-- ---- many bytes within a line

within_line : (bytes rest : List ℕ) → ((k : ℕ) → k < length bytes → slice_index bytes k ≡ 10 → ⊥) → parted false (bytes ++ rest) ≡ ahead bytes (parted false rest)
unfolding parted onto
within_line [] rest none = refl
within_line (b ∷ bytes) rest none =
    rw (ne_eqb b 10 (none 0 (omega arith)), within_line bytes rest (λ k below is. none (suc k) (omega arith) is))

pub skips : (bytes : List ℕ) → ((k : ℕ) → k < length bytes → slice_index bytes k ≡ 10 → ⊥) → GoesOn 0 bytes 0
unfolding parted_after
skips bytes none = record {
  head = bytes;
  same = sym (append-nil bytes);
  parts = λ rest. within_line bytes rest none;
}

pub line_end : GoesOn 0 (10 ∷ []) 1
unfolding parted_after parted onto
line_end = record { head = 10 ∷ []; same = refl; parts = λ rest. refl }

-- ---- one after the other

pub onward : (m n k : ℕ) (front back : List ℕ) → GoesOn m front n → GoesOn n back k → GoesOn m (front ++ back) k
onward m n k front back a b = record {
  head = a.head ++ b.head;
  same = sym (append_assoc (open_bytes m) front back) ∙ ap (λ (x : List ℕ). x ++ back) a.same ∙ append_assoc a.head (open_bytes n) back
      ∙ ap (λ (x : List ℕ). a.head ++ x) b.same ∙ sym (append_assoc a.head b.head (open_bytes k));
  parts = λ rest. ap (parted_after m) (append_assoc front back rest) ∙ a.parts (back ++ rest) ∙ ap (ahead a.head) (b.parts rest)
      ∙ ap (λ (x : List ℕ). record { before = x; texts = (parted_after k rest).texts }) (sym (append_assoc a.head b.head (parted_after k rest).before));
}

pub stays : (m : ℕ) → GoesOn m [] m
stays m = record { head = []; same = append-nil (open_bytes m); parts = λ rest. refl }

-- ---- what a search for a line end tells

-- one more stretch of a piece
pub scanned_on : (m : ℕ) (piece : List ℕ) (i n j k : ℕ) → Scanned m piece i n → j ≤ length (take (length piece - i) (drop i piece)) → k ≤ 8
    → GoesOn n (take j (take (length piece - i) (drop i piece))) k → Scanned m piece (i + j) k
scanned_on m piece i n j k so_far within short step =
    let rest = take_rest piece i in record {
      within = omega (arith, so_far.within, length-take (length piece - i) (drop i piece), length-drop i piece);
      short = short;
      goes_on = rw take-add (onward m n k _ _ so_far.goes_on (subst (λ (x : List ℕ). GoesOn n (take j x) k) rest step));
    }

pub skips_all : (m : ℕ) → m ≡ 0 → (bytes : List ℕ) (found : Option ℕ) → IsFirstByte (is_byte 10) bytes found → found ≡ None → GoesOn m (take (length bytes) bytes) 0
skips_all m zeroth bytes found first e =
    let nowhere = subst (λ (o : Option ℕ). IsFirstByte (is_byte 10) bytes o) e first in
    rw (zeroth, take_all (length bytes) bytes (omega arith)) (skips bytes (λ k below is. nowhere k (omega arith) below (eq-eqb _ 10 is)))

pub skips_past : (m : ℕ) → m ≡ 0 → (bytes : List ℕ) (found : Option ℕ) → IsFirstByte (is_byte 10) bytes found → (end : ℕ) → found ≡ Some end → GoesOn m (take (end + 1) bytes) 1
skips_past m zeroth bytes found first end e =
    let at = subst (λ (o : Option ℕ). IsFirstByte (is_byte 10) bytes o) e first in
    let is_end : slice_index bytes end ≡ 10 = eqb-true _ 10 at.1 in
    let front = skips (take end bytes) (λ k below is.
    let under : k < end = omega (arith, length-take end bytes) in
    at.0.before k (omega arith) under (eq-eqb _ 10 (sym (get_or-take end bytes k 0 under) ∙ is))) in
    rw (zeroth, take_more bytes end 0 at.0.high, is_end) (onward 0 0 1 _ _ front line_end)

-- ---- counts

pub open_count : (m : ℕ) → m ≤ 8 → length (open_bytes m) ≡ m - 1
open_count m short = omega (arith, length-take (m - 1) event)

-- what is settled, and what is open
pub counts : (m n : ℕ) (bytes : List ℕ) → m ≤ 8 → n ≤ 8 → (g : GoesOn m bytes n) → (m - 1) + length bytes ≡ length g.head + (n - 1)
counts m n bytes a b g =
    omega (arith, open_count m a, open_count n b, length-append (open_bytes m) bytes, length-append g.head (open_bytes n), ap length g.same)

pub open_after : (m n : ℕ) (piece : List ℕ) (taken : ℕ) → m < 8 → Scanned m piece taken n → n - 1 ≤ m - 1 + taken
open_after m n piece taken short scan =
    omega (arith, length-take taken piece, counts m n (take taken piece) (omega (arith, short)) scan.short scan.goes_on)
