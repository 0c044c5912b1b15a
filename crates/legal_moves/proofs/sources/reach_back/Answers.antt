use Rattle.std.proofs.Common.{◌≡◌, ℕ, sym, ◌∙◌, ap, subst, inl, inr}
use Rattle.step_tables.proofs.BitboardLemmas.{Holds-or}
use Rattle.explorer_model.specs.declared.chess.Color.{Color}
use Rattle.explorer_model.specs.declared.chess.Role.{Role}
use Rattle.explorer_model.specs.Board.{opponent, PawnDiagonal, RookLine}
use Rattle.legal_moves.specs.Sources.{Lands}
use Rattle.legal_moves.proofs.SourceLemmas.{pawn_from}
use Rattle.legal_moves.proofs.sources.reach_back.Goals as goal

pub returns-in-Pawn : goal.returns-in-Pawn
returns-in-Pawn c = λ p m turn to lands.
    let L : Role → Type 0 = λ role. Lands p role m in
    let color : opponent p.turn ≡ c.opponent.result = ap opponent turn ∙ sym c.opponent.ensures in
    let D : Color → Type 0 = λ color. PawnDiagonal color m.to.index m.from.index in
    let E : ℕ → Type 0 = λ a. PawnDiagonal c.opponent.result a m.from.index in
    let R : ℕ → Type 0 = λ a. RookLine a m.from.index in
    (Holds-or c.pawn_diagonals.result c.rook_targets.result m.from.index).1
    (elim (pawn_from p m (subst L c.in-Pawn.is lands)) [
      | inl h ↦ inl ((c.pawn_diagonals.ensures m.from.index m.from.on_board).1 (subst E to (subst D color h)))
      | inr h ↦ inr ((c.rook_targets.ensures m.from.index m.from.on_board).1 (subst R to h))
    ])
