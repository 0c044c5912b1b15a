-- What bitboards tell of pins and checks.
use Rattle.std.proofs.Common.{◌≡◌, ◌↔◌, ℕ, ◌<◌, ◌^◌, ◌⊎◌, Option, Some, None, bit_and, w64, sym, ◌∙◌, subst, inl, inr}
use Rattle.std.proofs.lemmas.Bool.{cases_eq}
use Rattle.std.proofs.lemmas.Nat.Bits.{bit_at-trailing_zeros}
use Rattle.std.proofs.Math.Nat.{pos_of_ne-zero}
use Rattle.step_tables.specs.Bitboard.{Holds}
use Rattle.step_tables.proofs.BitboardLemmas.{Holds-zero, Holds-and}
use Rattle.explorer_model.specs.declared.chess.Color.{Color}
use Rattle.explorer_model.specs.declared.chess.Role.TheVariants.{King}
use Rattle.explorer_model.specs.declared.chess.Piece.{Piece}
use Rattle.explorer_model.specs.declared.chess.Position.{Position}
use Rattle.explorer_model.specs.Board.{opponent, piece_at, IsOfColor, IsPiece, IsBetween, RookLine, BishopLine}
use Rattle.legal_moves.specs.declared.check_info.CheckInfo.{CheckInfo}
use Rattle.legal_moves.specs.EnemySets.{IsOccupied, HasSuch, IsWithout, IsInfoOf}
use Rattle.legal_moves.specs.Pins.{IsAimed, Pins, IsAlone, IsPinned}
use Rattle.legal_moves.proofs.OneKing.{has_pieces, one_king}
use Rattle.legal_moves.proofs.DestinationLemmas.{occupied-not_empty, unoccupied-empty}

pub some_square : (x : ℕ) → x < 2 ^ 64 → (x ≡ 0 → ⊥) → (b : ℕ) × (b < 64) × Holds x b
some_square x fits some = let h = bit_at-trailing_zeros w64 x (pos_of_ne-zero some) fits in (_, h.0, h.1)

pub no_bit : (x b : ℕ) → x ≡ 0 → Holds x b → ⊥
no_bit x b none bit = Holds-zero b (let P : ℕ → Type 0 = λ x. Holds x b in subst P none bit)

-- One square alone.

pub two_squares : (set more first s : ℕ) → more < 2 ^ 64 → first < 64 → Holds set first → IsWithout set first more → (more ≡ 0 → ⊥)
    → Holds set s × ((t : ℕ) → t < 64 → Holds set t → t ≡ s) → ⊥
two_squares set more first s fits on within without some alone =
    let second = some_square more fits some in
    let both = (without second.0 second.1).0 second.2 in
    both.1 (alone.1 second.0 second.1 both.0 ∙ sym (alone.1 first on within))

pub one_square : (set more first : ℕ) → IsWithout set first more → more ≡ 0 → (t : ℕ) → t < 64 → Holds set t → t ≡ first
one_square set more first without none t on bit = elim (cases_eq t first) [
  | inl e ↦ e
  | inr apart ↦ absurd (no_bit more t none ((without t on).1 (bit, apart)))
]

pub alone_says : (single passed occupied a k s : ℕ) → s < 64
    → Holds single s ↔ (Holds (bit_and passed occupied) s × ((t : ℕ) → t < 64 → Holds (bit_and passed occupied) t → t ≡ s))
    → ((t : ℕ) → t < 64 → Holds passed t ↔ IsBetween a t k) → Holds single s ↔ IsAlone occupied a s k
alone_says single passed occupied a k s on says tells = (
  λ bit.
      let h = says.0 bit in
      let both = (Holds-and passed occupied s).0 h.0 in
      (((tells s on).0 both.0, both.1), λ t on_t there. h.1 t on_t ((Holds-and passed occupied t).1 ((tells t on_t).1 there.0, there.1))),
  λ h. says.1 (
    (Holds-and passed occupied s).1 ((tells s on).1 h.0.0, h.0.1),
    λ t on_t bit. (let both = (Holds-and passed occupied t).0 bit in h.1 t on_t ((tells t on_t).0 both.0, both.1)),
  ),
)

-- The pins.

occupied_own : (color : Color) (o : Option Piece) → IsOfColor color o → IsOccupied o
occupied_own color None own = own
occupied_own color (Some piece) own = tt

module _ (p : Position) (info : CheckInfo) (informed : IsInfoOf p info) where
  aimed_alone : (a s : ℕ) → s < 64 → IsAlone info.enemy_sets.occupied a s info.king → IsAimed p.squares (opponent p.turn) a info.king
      → Pins p.squares (opponent p.turn) a s info.king
  aimed_alone a s on alone aimed = (
    aimed,
    alone.0.0,
    λ t on_t between apart.
        unoccupied-empty p.squares info.enemy_sets.occupied t informed.enemy_sets.occupied on_t (λ bit. apart (alone.1 t on_t (between, bit))),
  )

  pub pinned_of : (s straight diagonal : ℕ) → s < 64 → IsOfColor p.turn (piece_at p.squares s)
      → HasSuch info.enemy_sets.straights (λ a. RookLine a info.king × IsAlone info.enemy_sets.occupied a s info.king)
      ⊎ HasSuch info.enemy_sets.diagonals (λ a. BishopLine a info.king × IsAlone info.enemy_sets.occupied a s info.king)
      → IsPinned p s
  pinned_of s straight diagonal on own (inl (a, on_a, bit, (line, alone))) =
      (own, (info.king, informed.on_board, informed.king, (a, on_a, aimed_alone a s on alone (inl ((informed.enemy_sets.straights a on_a).0 bit, line)))))
  pinned_of s straight diagonal on own (inr (a, on_a, bit, (line, alone))) =
      (own, (info.king, informed.on_board, informed.king, (a, on_a, aimed_alone a s on alone (inr ((informed.enemy_sets.diagonals a on_a).0 bit, line)))))

  alone_of : (a s : ℕ) → s < 64 → IsOfColor p.turn (piece_at p.squares s) → Pins p.squares (opponent p.turn) a s info.king
      → IsAlone info.enemy_sets.occupied a s info.king
  alone_of a s on own pins = (
    (pins.1, (informed.enemy_sets.occupied s on).1 (occupied_own p.turn (piece_at p.squares s) own)),
    λ t on_t there. elim (cases_eq t s) [
      | inl e ↦ e
      | inr apart ↦ absurd (occupied-not_empty p.squares info.enemy_sets.occupied t informed.enemy_sets.occupied on_t there.1 (pins.2 t on_t there.0 apart))
    ],
  )

  by_aim : (a s : ℕ) → a < 64 → IsAlone info.enemy_sets.occupied a s info.king → IsAimed p.squares (opponent p.turn) a info.king
      → HasSuch info.enemy_sets.straights (λ a. RookLine a info.king × IsAlone info.enemy_sets.occupied a s info.king)
      ⊎ HasSuch info.enemy_sets.diagonals (λ a. BishopLine a info.king × IsAlone info.enemy_sets.occupied a s info.king)
  by_aim a s on_a alone (inl h) = inl (a, on_a, (informed.enemy_sets.straights a on_a).1 h.0, (h.1, alone))
  by_aim a s on_a alone (inr h) = inr (a, on_a, (informed.enemy_sets.diagonals a on_a).1 h.0, (h.1, alone))

  pub king_is : (k : ℕ) → k < 64 → IsPiece p.turn King (piece_at p.squares k) → k ≡ info.king
  king_is k on king = one_king p.squares p.turn info.king k informed.valid.board (has_pieces p p.turn informed.valid).0 informed.on_board on informed.king king

  pub of_pinned : (s : ℕ) → s < 64 → IsPinned p s
      → HasSuch info.enemy_sets.straights (λ a. RookLine a info.king × IsAlone info.enemy_sets.occupied a s info.king)
      ⊎ HasSuch info.enemy_sets.diagonals (λ a. BishopLine a info.king × IsAlone info.enemy_sets.occupied a s info.king)
  of_pinned s on (own, (k, on_k, king, (a, on_a, pins))) =
      let P : ℕ → Type 0 = λ k. Pins p.squares (opponent p.turn) a s k in
      let here : P info.king = subst P (king_is k on_k king) pins in
      by_aim a s on_a (alone_of a s on own here) here.0
