-- Statement: the tidy form of a position: an en passant square stays only where a pawn can legally
-- be taken there (FIDE 9.2.3).
use Rattle.std.specs.Prelude.{◌≡◌, ℕ, ◌↔◌, List}
use Rattle.explorer_model.specs.declared.chess.Position.{Position}
use Rattle.explorer_model.specs.Chess.{IsSquare, CanCaptureEnPassant}
use Rattle.explorer_model.specs.Keys.{key}

-- q is the tidy form of p
pub record IsTidied (p q : Position) : Type 0 where
  pub squares : q.squares ≡ p.squares
  pub turn : q.turn ≡ p.turn
  pub rights : q.rights ≡ p.rights
  pub en_passant : (s : ℕ) → IsSquare q.en_passant s ↔ CanCaptureEnPassant p s

-- the key that games are counted under in the position: that of its tidy form
abbrev pub IsTidyKey : Position → List ℕ → Type 0
IsTidyKey p bytes = (q : Position) × IsTidied p q × (bytes ≡ key q)
