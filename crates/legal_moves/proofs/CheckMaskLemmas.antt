-- A move of a piece that is neither the king nor pinned is legal where it meets each check.
use Rattle.std.proofs.Common.{◌≡◌, ◌↔◌, inl, inr}
use Rattle.explorer_model.specs.declared.chess.Role.TheVariants.{King}
use Rattle.explorer_model.specs.declared.chess.Position.{Position}
use Rattle.explorer_model.specs.declared.chess.Move.{Move}
use Rattle.explorer_model.specs.Board.{piece_at, IsPiece}
use Rattle.explorer_model.specs.Chess.{PseudoLegal, Castles, Legal}
use Rattle.legal_moves.specs.EnemySets.{IsInfoOf}
use Rattle.legal_moves.specs.CheckMasks.{AreMasksOf, IsSteady}
use Rattle.legal_moves.specs.Pins.{IsEvasion, StaysOnPins}
use Rattle.legal_moves.specs.declared.check_info.CheckInfo.{CheckInfo}
use Rattle.legal_moves.specs.declared.check_masks.CheckMasks.{CheckMasks}
use Rattle.legal_moves.proofs.OneKing.{has_pieces, one_king}
use Rattle.legal_moves.proofs.PinLemmas.{king_is}
use Rattle.legal_moves.proofs.PinsDecide.{pins-decide}

-- only a king castles
pub castles_king : (p : Position) (info : CheckInfo) (m : Move) → IsInfoOf p info → Castles p m → m.from.index ≡ info.king
castles_king p info m informed castles =
    one_king p.squares p.turn info.king m.from.index informed.valid.board (has_pieces p p.turn informed.valid).0 informed.on_board m.from.on_board informed.king (king castles)
  where
    king : Castles p m → IsPiece p.turn King (piece_at p.squares m.from.index)
    king (inl c) = c.3
    king (inr c) = c.3

pub steady_legal : (p : Position) (masks : CheckMasks) (m : Move) → AreMasksOf p masks → PseudoLegal p m → IsSteady p masks m
    → IsEvasion p m.to.index ↔ Legal p m
steady_legal p masks m masked pseudo_legal steady = (λ evades. decided.1 (evades, stays), λ legal. (decided.0 legal).0)
  where
    other : ¬ IsPiece p.turn King (piece_at p.squares m.from.index)
    other king = steady.king_stays (king_is p masks.info masked.informed m.from.index m.from.on_board king)

    stays : StaysOnPins p m.from.index m.to.index
    stays k on king a on_a pins = absurd (steady.free (pseudo_legal.0, (k, on, king, (a, on_a, pins))))

    decided : Legal p m ↔ (IsEvasion p m.to.index × StaysOnPins p m.from.index m.to.index)
    decided = pins-decide p m masked.informed.valid pseudo_legal other steady.no_taking
