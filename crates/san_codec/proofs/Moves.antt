-- What legal moves have.
use Rattle.std.proofs.Common.{◌≡◌, Option, Some, None, subst, refl}
use Rattle.explorer_model.specs.declared.chess.Role.{Role}
use Rattle.explorer_model.specs.declared.chess.Piece.{Piece}
use Rattle.explorer_model.specs.declared.chess.Position.{Position}
use Rattle.explorer_model.specs.declared.chess.Move.{Move}
use Rattle.explorer_model.specs.Board.{piece_at}
use Rattle.explorer_model.specs.Chess.{RoleMoves, PieceMoves, Legal}
use Rattle.explorer_model.specs.San.{IsRole}

pub goes_as_role : (p : Position) (m : Move) (role : Role) (occupant : Option Piece) → IsRole role occupant → PieceMoves p occupant m → RoleMoves p role m
goes_as_role p m role None is goes = absurd is
goes_as_role p m role (Some piece) is goes = subst (λ r. RoleMoves p r m) is goes

pub moves_legally : (p : Position) (m : Move) (role : Role) → Legal p m → IsRole role (piece_at p.squares m.from.index) → RoleMoves p role m
moves_legally p m role ((own, free, goes), safe, path) is = goes_as_role p m role (piece_at p.squares m.from.index) is goes

pub role_there : (occupant : Option Piece) (piece : Piece) → Some piece ≡ occupant → IsRole piece.role occupant
role_there occupant piece there = subst (IsRole piece.role) there refl
