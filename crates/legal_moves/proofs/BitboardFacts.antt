-- Sets of squares: how they are built, and what two of them have in common.
use Rattle.std.proofs.Common.{◌≡◌, ◌↔◌, ℕ, ◌+◌, ◌<◌, ◌≤◌, ◌^◌, ◌⊎◌, Bool, true, false, not, ◌==◌, IsTrue, List, length, set, Option, None, bit_and, bit_or, w64, refl, sym, ap, ◌∙◌, subst, inl, inr, arith, get_or-set_same, get_or-set_other}
use Rattle.std.proofs.lemmas.Bool.{cases_eq}
use Rattle.std.proofs.lemmas.Bool.Decides.{nat_tests}
use Rattle.std.proofs.lemmas.Nat.{and_le_l}
use Rattle.std.proofs.lemmas.Nat.Bits.{bit_at-trailing_zeros}
use Rattle.step_tables.specs.Bitboard.{Holds}
use Rattle.step_tables.proofs.BitboardLemmas.{Holds-zero, Holds-or, Holds-and}
use Rattle.explorer_model.specs.declared.chess.Piece.{Piece}
use Rattle.explorer_model.specs.Board.{piece_at}
use Rattle.legal_moves.specs.EnemySets.{IsBitboardOf, HasSuch, IsClear, IsWithout, IsWith}

-- A set that is built square by square: those below n are in it where they are such.

abbrev pub IsBuilt : (ℕ → Type 0) → ℕ → ℕ → Type 0
IsBuilt IsSuch n bitboard = (b : ℕ) → b < 64 → Holds bitboard b ↔ ((b < n) × IsSuch b)

pub built-more : (IsSuch : ℕ → Type 0) (n bitboard one : ℕ) → IsBuilt IsSuch n bitboard → ((b : ℕ) → b < 64 → Holds one b ↔ (b ≡ n)) → IsSuch n
    → IsBuilt IsSuch (n + 1) (bit_or bitboard one)
built-more IsSuch n bitboard one built only such b on = (
  λ bit. elim ((Holds-or bitboard one b).0 bit) [
    | inl old ↦ (let low : b < n = ((built b on).0 old).0 in (omega arith, ((built b on).0 old).1))
    | inr new ↦ (let at : b ≡ n = (only b on).0 new in (omega arith, subst IsSuch (sym at) such))
  ],
  λ h. elim (cases_eq b n) [
    | inl at ↦ (Holds-or bitboard one b).1 (inr ((only b on).1 at))
    | inr apart ↦ (Holds-or bitboard one b).1 (inl ((built b on).1 (before b n h.0 apart, h.1)))
  ],
)
  where
    before : (b n : ℕ) → b < n + 1 → (b ≡ n → ⊥) → b < n
    before b n h apart = omega arith

pub built-skip : (IsSuch : ℕ → Type 0) (n bitboard : ℕ) → IsBuilt IsSuch n bitboard → ¬ IsSuch n → IsBuilt IsSuch (n + 1) bitboard
built-skip IsSuch n bitboard built not_such b on = (
  λ bit. (let low : b < n = ((built b on).0 bit).0 in omega arith, ((built b on).0 bit).1),
  λ h. elim (cases_eq b n) [
    | inl at ↦ absurd (not_such (subst IsSuch at h.1))
    | inr apart ↦ (built b on).1 (before b n h.0 apart, h.1)
  ],
)
  where
    before : (b n : ℕ) → b < n + 1 → (b ≡ n → ⊥) → b < n
    before b n h apart = omega arith

pub built-all : (IsSuch : ℕ → Type 0) (n bitboard : ℕ) → IsBuilt IsSuch n bitboard → 64 ≤ n → (b : ℕ) → b < 64 → Holds bitboard b ↔ IsSuch b
built-all IsSuch n bitboard built all b on = (λ bit. ((built b on).0 bit).1, λ such. (built b on).1 (omega arith, such))

-- What two sets have in common.

not_zero : (x : ℕ) → IsTrue (not (x == 0)) → 0 < x
not_zero x h = grind (arith, nat_tests)

is_not_zero : (x : ℕ) → (x ≡ 0 → ⊥) → IsTrue (not (x == 0))
is_not_zero x h = grind (arith, nat_tests)

pub meet-says : (bitboard other : ℕ) → bitboard < 2 ^ 64 → IsTrue (not (bit_and bitboard other == 0)) ↔ HasSuch bitboard (λ a. Holds other a)
meet-says bitboard other fits = (
  λ some.
      let common : ℕ = bit_and bitboard other in
      let within : bit_and bitboard other < 2 ^ 64 = omega (arith, and_le_l bitboard other) in
      let lowest = bit_at-trailing_zeros w64 (bit_and bitboard other) (not_zero (bit_and bitboard other) some) within in
      let both : Holds bitboard _ × Holds other _ = (Holds-and bitboard other _).0 lowest.1 in
      (_, lowest.0, both.0, both.1),
  λ h. is_not_zero (bit_and bitboard other)
      (λ none. Holds-zero h.0 (let P : ℕ → Type 0 = λ x. Holds x h.0 in subst P none ((Holds-and bitboard other h.0).1 (h.2, h.3)))),
)

pub line-by : (bitboard destinations : ℕ) (Line IsSuch IsMore : ℕ → Type 0) → ((b : ℕ) → b < 64 → Holds destinations b ↔ Line b)
    → ((b : ℕ) → Line b ↔ IsSuch b) → HasSuch (bit_and bitboard destinations) IsMore ↔ HasSuch bitboard (λ a. IsSuch a × IsMore a)
line-by bitboard destinations Line IsSuch IsMore tells same = (
  λ h.
      let both : Holds bitboard h.0 × Holds destinations h.0 = (Holds-and bitboard destinations h.0).0 h.2 in
      (h.0, h.1, both.0, ((same h.0).0 ((tells h.0 h.1).0 both.1), h.3)),
  λ h. (h.0, h.1, (Holds-and bitboard destinations h.0).1 (h.2, (tells h.0 h.1).1 ((same h.0).1 h.3.0)), h.3.1),
)

pub both-ways : {A B C : Type 0} → A ↔ B → B ↔ C → A ↔ C
both-ways f g = (λ a. g.0 (f.0 a), λ c. f.1 (g.1 c))

-- A square of the board that is written.

pub piece_at-same : (xs : List (Option Piece)) (i b : ℕ) (occupant : Option Piece) → length xs ≡ 64 → i < 64 → b ≡ i → piece_at (set xs i occupant) b ≡ occupant
piece_at-same xs i b occupant whole on e = ap (piece_at (set xs i occupant)) e ∙ get_or-set_same xs i occupant None (let h : length xs ≡ 64 = whole in omega arith)

pub piece_at-else : (xs : List (Option Piece)) (i b : ℕ) (occupant : Option Piece) → (b ≡ i → ⊥) → piece_at (set xs i occupant) b ≡ piece_at xs b
piece_at-else xs i b occupant apart = get_or-set_other xs i b occupant None apart

pub bitboard-without : (IsSuch : Option Piece → Type 0) (xs : List (Option Piece)) (i bitboard rest : ℕ) (occupant : Option Piece) → length xs ≡ 64 → i < 64
    → ¬ IsSuch occupant → IsBitboardOf IsSuch xs bitboard → IsWithout bitboard i rest → IsBitboardOf IsSuch (set xs i occupant) rest
bitboard-without IsSuch xs i bitboard rest occupant whole on_i not_such is without b on = elim (cases_eq b i) [
  | inl e ↦ (
    λ bit. absurd (((without b on).0 bit).1 e),
    λ such. absurd (not_such (subst IsSuch (piece_at-same xs i b occupant whole on_i e) such)),
  )
  | inr apart ↦ (
    λ bit. subst IsSuch (sym (piece_at-else xs i b occupant apart)) ((is b on).0 ((without b on).0 bit).0),
    λ such. (without b on).1 ((is b on).1 (subst IsSuch (piece_at-else xs i b occupant apart) such), apart),
  )
]

pub bitboard-with : (IsSuch : Option Piece → Type 0) (xs : List (Option Piece)) (i bitboard more : ℕ) (occupant : Option Piece) → length xs ≡ 64 → i < 64
    → IsSuch occupant → IsBitboardOf IsSuch xs bitboard → IsWith bitboard i more → IsBitboardOf IsSuch (set xs i occupant) more
bitboard-with IsSuch xs i bitboard more occupant whole on_i such is with b on = elim (cases_eq b i) [
  | inl e ↦ (λ bit. subst IsSuch (sym (piece_at-same xs i b occupant whole on_i e)) such, λ _. (with b on).1 (inr e))
  | inr apart ↦ (
    λ bit. elim ((with b on).0 bit) [
      | inl old ↦ subst IsSuch (sym (piece_at-else xs i b occupant apart)) ((is b on).0 old)
      | inr e ↦ absurd (apart e)
    ],
    λ there. (with b on).1 (inl ((is b on).1 (subst IsSuch (piece_at-else xs i b occupant apart) there))),
  )
]

-- A search through the squares of a set: those that are left are in the set, and from the others the way is not clear.

pub record IsScanned (sliders rest occupied square : ℕ) : Type 0 where
  pub within : (a : ℕ) → a < 64 → Holds rest a → Holds sliders a
  pub tried : (a : ℕ) → a < 64 → Holds sliders a → Holds rest a ⊎ ¬ IsClear occupied a square

pub scanned-more : (sliders rest occupied square slider less : ℕ) → IsScanned sliders rest occupied square → ¬ IsClear occupied slider square
    → IsWithout rest slider less → IsScanned sliders less occupied square
scanned-more sliders rest occupied square slider less scanned blocked without = record {
  within = λ a on bit. scanned.within a on ((without a on).0 bit).0;
  tried = λ a on bit. elim (scanned.tried a on bit) [
    | inl left ↦ elim (cases_eq a slider) [
      | inl e ↦ inr (let P : ℕ → Type 0 = λ x. ¬ IsClear occupied x square in subst P (sym e) blocked)
      | inr apart ↦ inl ((without a on).1 (left, apart))
    ]
    | inr blocked_there ↦ inr blocked_there
  ];
}

-- What a test says.

pub not-says : (b : Bool) (P : Type 0) → IsTrue b ↔ P → IsTrue (not b) ↔ ¬ P
not-says true P says = (λ (no_way : false ≡ true). cc, λ none. absurd (none (says.0 refl)))
not-says false P says = (λ _. λ holds. let yes : false ≡ true = says.1 holds in cc, λ _. refl)

-- A union of sets, one for each square of a set: those that are left are in the set, and the others are joined.

pub record IsJoined (sliders rest joined : ℕ) (IsAmong : ℕ → ℕ → Type 0) : Type 0 where
  pub within : (a : ℕ) → a < 64 → Holds rest a → Holds sliders a
  pub sound : (s : ℕ) → s < 64 → Holds joined s → HasSuch sliders (λ a. IsAmong a s)
  pub complete : (a : ℕ) → a < 64 → Holds sliders a → Holds rest a ⊎ ((s : ℕ) → s < 64 → IsAmong a s → Holds joined s)

pub joined-none : (sliders : ℕ) (IsAmong : ℕ → ℕ → Type 0) → IsJoined sliders sliders 0 IsAmong
joined-none sliders IsAmong = record {
  within = λ a on bit. bit;
  sound = λ s on bit. absurd (Holds-zero s bit);
  complete = λ a on bit. inl bit;
}

pub joined-more : (sliders rest joined slider more less : ℕ) (IsAmong : ℕ → ℕ → Type 0) → IsJoined sliders rest joined IsAmong → slider < 64
    → Holds rest slider → ((s : ℕ) → s < 64 → Holds more s ↔ IsAmong slider s) → IsWithout rest slider less
    → IsJoined sliders less (bit_or joined more) IsAmong
joined-more sliders rest joined slider more less IsAmong old on_slider there says without = record {
  within = λ a on bit. old.within a on ((without a on).0 bit).0;
  sound = λ s on bit. elim ((Holds-or joined more s).0 bit) [
    | inl before ↦ old.sound s on before
    | inr now ↦ (slider, on_slider, old.within slider on_slider there, (says s on).0 now)
  ];
  complete = λ a on bit. elim (old.complete a on bit) [
    | inl left ↦ elim (cases_eq a slider) [
      | inl e ↦ inr (λ s on_s among.
          let P : ℕ → Type 0 = λ x. IsAmong x s in (Holds-or joined more s).1 (inr ((says s on_s).1 (subst P e among))))
      | inr apart ↦ inl ((without a on).1 (left, apart))
    ]
    | inr done ↦ inr (λ s on_s among. (Holds-or joined more s).1 (inl (done s on_s among)))
  ];
}

pub joined-all : (sliders rest joined : ℕ) (IsAmong : ℕ → ℕ → Type 0) → IsJoined sliders rest joined IsAmong → rest ≡ 0
    → (s : ℕ) → s < 64 → Holds joined s ↔ HasSuch sliders (λ a. IsAmong a s)
joined-all sliders rest joined IsAmong old none s on = (
  λ bit. old.sound s on bit,
  λ h. elim (old.complete h.0 h.1 h.2) [
    | inl left ↦ absurd (Holds-zero h.0 (let P : ℕ → Type 0 = λ x. Holds x h.0 in subst P none left))
    | inr done ↦ done s on h.3
  ],
)
