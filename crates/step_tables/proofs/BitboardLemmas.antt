-- Unions, intersections and complements of bitboards, and the list of a bitboard's squares.
use Rattle.std.proofs.Common.{◌≡◌, ◌≢◌, ◌↔◌, ℕ, zero, suc, ◌+◌, ◌*◌, ◌%◌, ◌^◌, ◌<◌, ◌≤◌, Bool, true, false, ◌==◌, cond, ◌⊎◌, inl, inr, [], ◌∷◌, length, slice_index_or, bit_and, bit_or, w64, refl, sym, ap, ◌∙◌, ⊎_elim, arith}
use Rattle.std.specs.Bool.{Decides}
use Rattle.std.specs.List.{Contains, filter, range_with_len}
use Rattle.std.specs.Int.{bit_at, bit_not}
use Rattle.std.proofs.lemmas.Bool.{cases_lt}
use Rattle.std.proofs.lemmas.Bool.Decides.{Decides-eqb, Decides-like, same_from_decides, eqb_tells}
use Rattle.std.proofs.lemmas.Nat.Bits.{bit_at-lt, bit_at-zero, bit_at_and, bit_at_or, bit_at_not, bit_at-pow_same, bit_at-pow_other, bit_at_clear_same, bit_at_clear_other, bit_at-trailing_zeros}
use Rattle.std.proofs.lemmas.Nat.{one_shl, and_le_l}
use Rattle.step_tables.specs.Bitboard.{Holds, squares_of}

bit_cases : (bitboard square : ℕ) → (bit_at bitboard square ≡ 0) ⊎ Holds bitboard square
bit_cases bitboard square =
    ⊎_elim (λ h. inl (omega (arith, h))) (λ h. inr (omega (arith, h, bit_at-lt bitboard square))) (cases_lt (bit_at bitboard square) 1)

-- the empty set
pub Holds-zero : (square : ℕ) → ¬ Holds 0 square
Holds-zero square h = omega (arith, h, bit_at-zero square)

-- a union
pub Holds-or : (a b square : ℕ) → Holds (bit_or a b) square ↔ (Holds a square ⊎ Holds b square)
Holds-or a b square =
    let e = bit_at_or a b square in
    let below_a = bit_at-lt a square in
    let below_b = bit_at-lt b square in (
      λ h. ⊎_elim (λ none. inr (omega (arith, h, e, none, below_b))) inl (bit_cases a square),
      ⊎_elim (λ x. omega (arith, e, x, below_b)) (λ y. omega (arith, e, y, below_a)),
    )

-- an intersection
pub Holds-and : (a b square : ℕ) → Holds (bit_and a b) square ↔ (Holds a square × Holds b square)
Holds-and a b square =
    let e = bit_at_and a b square in
    let below_a = bit_at-lt a square in
    let below_b = bit_at-lt b square in
    (λ h. (omega (arith, h, e, below_a, below_b), omega (arith, h, e, below_a, below_b)), λ h. omega (arith, e, h.0, h.1))

-- a complement
pub Holds-not : (bitboard square : ℕ) → bitboard < 2 ^ 64 → square < 64 → Holds (bit_not w64 bitboard) square ↔ ¬ Holds bitboard square
Holds-not bitboard square fits on_board =
    let e = bit_at_not w64 bitboard square fits on_board in (
      λ h x. omega (arith, h, e, x),
      λ apart. ⊎_elim (λ none. omega (arith, e, none)) (λ x. absurd (apart x)) (bit_cases bitboard square),
    )

-- a set with no square is the empty bitboard
pub zero_from_Holds : (bitboard : ℕ) → bitboard < 2 ^ 64 → ((b : ℕ) → b < 64 → ¬ Holds bitboard b) → bitboard ≡ 0
zero_from_Holds bitboard fits none =
    ⊎_elim (λ (h : bitboard < 1). omega arith)
    (λ (h : 1 ≤ bitboard). let lowest = bit_at-trailing_zeros w64 bitboard (omega arith) fits in absurd (none _ lowest.0 lowest.1))
    (cases_lt bitboard 1)

-- two sets have no square in common exactly where their intersection is the empty bitboard
pub disjoint : (a b : ℕ) → bit_and a b < 2 ^ 64 → (bit_and a b ≡ 0) ↔ ((s : ℕ) → s < 64 → Holds a s → ¬ Holds b s)
disjoint a b fits = (
  λ e s h x y. Holds-zero s (ap (λ m. bit_at m s) (sym e) ∙ (Holds-and a b s).1 (x, y)),
  λ apart. zero_from_Holds (bit_and a b) fits (λ s h x. let both = (Holds-and a b s).0 x in apart s h both.0 both.1),
)

-- one square
pub Holds-power : (own square : ℕ) → Holds (2 ^ own) square ↔ (square ≡ own)
Holds-power own square = (
  λ h. ⊎_elim (λ (same : (square == own ≡ true) × (square ≡ own)). same.1)
      (λ (apart : (square == own ≡ false) × (square ≢ own)). absurd (omega (arith, h, bit_at-pow_other own square apart.1)))
      (eqb_tells square own),
  λ same. rw same (bit_at-pow_same own),
)

pub Holds-only : (own square : ℕ) → own < 64 → Holds (1 * 2 ^ own % 2 ^ 64) square ↔ (square ≡ own)
Holds-only own square on_board = rw (one_shl own 64 on_board) (Holds-power own square)

-- all but one square
pub Holds-without : (bitboard own square : ℕ) → own < 64 → square < 64
    → Holds (bit_and bitboard (bit_not w64 (1 * 2 ^ own % 2 ^ 64))) square ↔ (Holds bitboard square × square ≢ own)
Holds-without bitboard own square within on_board =
    ⊎_elim
    (λ (h : (square == own ≡ true) × (square ≡ own)).
    let gone = bit_at_clear_same w64 bitboard own within in
    let e : bit_at (bit_and bitboard (bit_not w64 (1 * 2 ^ own % 2 ^ 64))) square ≡ 0 = rw h.1 gone in
    (λ x. absurd (omega (arith, x, e)), λ x. absurd (x.1 h.1)))
    (λ (h : (square == own ≡ false) × (square ≢ own)).
    let e = bit_at_clear_other w64 bitboard own within square on_board h.1 in
    (λ x. (sym e ∙ x, h.1), λ x. e ∙ x.0))
    (eqb_tells square own)

pub without-less : (bitboard own : ℕ) → own < 64 → Holds bitboard own
    → bit_and bitboard (bit_not w64 (1 * 2 ^ own % 2 ^ 64)) < bitboard
without-less bitboard own within h =
    let least = and_le_l bitboard (bit_not w64 (1 * 2 ^ own % 2 ^ 64)) in
    let gone = bit_at_clear_same w64 bitboard own within in
    ⊎_elim (λ l. l)
    (λ (k : bitboard ≤ bit_and bitboard (bit_not w64 (1 * 2 ^ own % 2 ^ 64))).
    let same : bitboard ≡ bit_and bitboard (bit_not w64 (1 * 2 ^ own % 2 ^ 64)) = omega (arith, least, k) in
    absurd (omega (arith, h, sym (ap (λ m. bit_at m own) same) ∙ h, gone)))
    (cases_lt (bit_and bitboard (bit_not w64 (1 * 2 ^ own % 2 ^ 64))) bitboard)

-- one set without another
pub Holds-but : (a b square : ℕ) → b < 2 ^ 64 → square < 64
    → Holds (bit_and a (bit_not w64 b)) square ↔ (Holds a square × ¬ Holds b square)
Holds-but a b square fits on_board =
    let within = Holds-and a (bit_not w64 b) square in
    let others = Holds-not b square fits on_board in
    (λ h. ((within.0 h).0, others.0 (within.0 h).1), λ h. within.1 (h.0, others.1 h.1))

-- two tests that agree keep the same numbers
filter-same : (p q : ℕ → Bool) (a n : ℕ) → ((i : ℕ) → a ≤ i → i < a + n → p i ≡ q i)
    → filter p (range_with_len a n) ≡ filter q (range_with_len a n)
filter-same p q a zero same = refl
filter-same p q a (suc n) same =
    let rest = filter-same p q (a + 1) n (λ i low high. same i (omega arith) (omega arith)) in
    rw (same a (omega arith) (omega arith), rest) refl

-- the first number that a test keeps, and those that another keeps, which differs there alone
filter-first : (p q : ℕ → Bool) (first a n : ℕ) → a ≤ first → first < a + n → a + n ≤ 64
    → ((i : ℕ) → i < first → p i ≡ false) → p first ≡ true → q first ≡ false
    → ((i : ℕ) → i < 64 → i ≢ first → q i ≡ p i)
    → filter p (range_with_len a n) ≡ first ∷ filter q (range_with_len a n)
filter-first p q first a zero low high edge none here gone same = absurd (omega arith)
filter-first p q first a (suc n) low high edge none here gone same =
    ⊎_elim
    (λ (h : a < first).
    let pa : p a ≡ false = none a h in
    let qa : q a ≡ false = same a (omega arith) (λ e. omega arith) ∙ pa in
    rw (pa, qa) (filter-first p q first (a + 1) n (omega arith) (omega arith) (omega arith) none here gone same))
    (λ (h : first ≤ a).
    let e : a ≡ first = omega arith in
    rw (e, here, gone)
    (ap (λ xs. first ∷ xs) (filter-same p q (first + 1) n (λ i l k. sym (same i (omega arith) (λ x. omega arith))))))
    (cases_lt a first)

false_from : (test : Bool) (P : Type 0) → Decides test P → ¬ P → test ≡ false
false_from true P d apart = absurd (apart (d.0 refl))
false_from false P d apart = refl

-- the lowest square of a set comes first, before those of the set without it
pub squares_of-first : (bitboard rest first : ℕ) → first < 64 → Holds bitboard first → ((b : ℕ) → b < first → ¬ Holds bitboard b)
    → ((b : ℕ) → b < 64 → Holds rest b ↔ (Holds bitboard b × b ≢ first)) → squares_of bitboard ≡ first ∷ squares_of rest
unfolding squares_of
squares_of-first bitboard rest first on_board within lowest others =
    filter-first (λ b. bit_at bitboard b == 1) (λ b. bit_at rest b == 1) first 0 64 (omega arith) on_board (omega arith)
    (λ i h. false_from _ _ (Decides-eqb _ _) (lowest i h))
    ((Decides-eqb _ _).1 within)
    (false_from _ _ (Decides-eqb _ _) (λ h. ((others first on_board).0 h).1 refl))
    (λ i h apart. same_from_decides _ _ (Decides-eqb _ _)
    (Decides-like _ (λ x. (others i h).1 (x, apart)) (λ x. ((others i h).0 x).0) (Decides-eqb _ _)))

pub squares_of-zero : squares_of 0 ≡ []
unfolding squares_of
squares_of-zero = refl

module _ (p : ℕ → Bool) where
  kept : (a n b : ℕ) → Contains (filter p (range_with_len a n)) b → (a ≤ b) × (b < a + n) × (p b ≡ true)
  kept a zero b h = absurd (omega (arith, h.1))
  kept a (suc n) b h = by (kept (a + 1) n b) (p a) refl h.0 h.1 h.2
    where
      by : (Contains (filter p (range_with_len (a + 1) n)) b → (a + 1 ≤ b) × (b < a + 1 + n) × (p b ≡ true))
          → (t : Bool) → p a ≡ t → (k : ℕ)
          → k < length (cond t (a ∷ filter p (range_with_len (a + 1) n)) (filter p (range_with_len (a + 1) n)))
          → slice_index_or (cond t (a ∷ filter p (range_with_len (a + 1) n)) (filter p (range_with_len (a + 1) n))) k b ≡ b
          → (a ≤ b) × (b < a + suc n) × (p b ≡ true)
      by later true e zero l same = (omega (arith, same), omega (arith, same), ap p (sym same) ∙ e)
      by later true e (suc k) l same = let h = later (k, omega arith, same) in (omega (arith, h.0), omega (arith, h.1), h.2)
      by later false e k l same = let h = later (k, l, same) in (omega (arith, h.0), omega (arith, h.1), h.2)

  keeps : (a n b : ℕ) → a ≤ b → b < a + n → p b ≡ true → Contains (filter p (range_with_len a n)) b
  keeps a zero b low high e = absurd (omega arith)
  keeps a (suc n) b low high e =
      ⊎_elim (λ (h : a < b). by (p a) (keeps (a + 1) n b (omega arith) (omega arith) e))
      (λ (h : b ≤ a). let same : a ≡ b = omega arith in rw (same, e) (0, omega arith, refl)) (cases_lt a b)
    where
      by : (t : Bool) → Contains (filter p (range_with_len (a + 1) n)) b
          → Contains (cond t (a ∷ filter p (range_with_len (a + 1) n)) (filter p (range_with_len (a + 1) n))) b
      by true h = (suc h.0, omega (arith, h.1), h.2)
      by false h = h

-- the list has exactly the squares of the set
pub Contains-squares_of : (bitboard b : ℕ) → Contains (squares_of bitboard) b ↔ ((b < 64) × Holds bitboard b)
unfolding squares_of
Contains-squares_of bitboard b = (
  λ h. let k = kept (λ square. bit_at bitboard square == 1) 0 64 b h in (k.1, (Decides-eqb _ _).0 k.2),
  λ h. keeps (λ square. bit_at bitboard square == 1) 0 64 b (omega arith) h.0 ((Decides-eqb _ _).1 h.1),
)

filter-few : (p : ℕ → Bool) (a n : ℕ) → length (filter p (range_with_len a n)) ≤ n
filter-few p a zero = omega arith
filter-few p a (suc n) = by (p a) (filter-few p (a + 1) n)
  where
    by : (t : Bool) → length (filter p (range_with_len (a + 1) n)) ≤ n
        → length (cond t (a ∷ filter p (range_with_len (a + 1) n)) (filter p (range_with_len (a + 1) n))) ≤ suc n
    by true h = omega (arith, h)
    by false h = omega (arith, h)

pub length-squares_of : (bitboard : ℕ) → length (squares_of bitboard) ≤ 64
unfolding squares_of
length-squares_of bitboard = filter-few (λ square. bit_at bitboard square == 1) 0 64
