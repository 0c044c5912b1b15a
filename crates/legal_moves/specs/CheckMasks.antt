-- Bridge: what the check masks of a position tell.
use Rattle.std.specs.Prelude.{◌≡◌, ◌≢◌, ℕ, ◌<◌, ◌↔◌, false}
use Rattle.step_tables.specs.Bitboard.{Holds}
use Rattle.explorer_model.specs.declared.chess.Position.{Position}
use Rattle.explorer_model.specs.declared.chess.Move.{Move}
use Rattle.explorer_model.specs.Chess.{takes_en_passant}
use Rattle.legal_moves.specs.declared.check_masks.CheckMasks.{CheckMasks}
use Rattle.legal_moves.specs.EnemySets.{IsInfoOf}
use Rattle.legal_moves.specs.Pins.{IsPinned, IsEvasion}

-- the masks tell which pieces are pinned, and where checks are met
pub record AreMasksOf (p : Position) (masks : CheckMasks) : Type 0 where
  pub informed : IsInfoOf p masks.info
  pub pinned : (s : ℕ) → s < 64 → Holds masks.pinned s ↔ IsPinned p s
  pub evasions : (s : ℕ) → s < 64 → Holds masks.evasions s ↔ IsEvasion p s

-- a piece moves that is neither the king nor pinned, and it takes nothing en passant
pub record IsSteady (p : Position) (masks : CheckMasks) (m : Move) : Type 0 where
  pub king_stays : m.from.index ≢ masks.info.king
  pub free : ¬ IsPinned p m.from.index
  pub no_taking : takes_en_passant p m ≡ false
