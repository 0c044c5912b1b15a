-- Positions by what FEN writes of them, and moves by what UCI writes, for cases that are worked out.
use Rattle.std.specs.Bool.{⊤}
use Rattle.std.proofs.Common.{ℕ, List, [], false, Option, Some, None, option_map}
use Rattle.explorer_model.specs.declared.chess.Color.{Color}
use Rattle.explorer_model.specs.declared.chess.Color.TheVariants.{White}
use Rattle.explorer_model.specs.declared.chess.Rights.{Rights}
use Rattle.explorer_model.specs.declared.chess.Position.{Position}
use Rattle.explorer_model.specs.declared.chess.Move.{Move}
use Rattle.explorer_model.specs.Fen.{en_passant_named, field, placement, rights_named, turn_named}
use Rattle.explorer_model.specs.Uci.{uci_form}
use Rattle.chess_reference.proofs.DecisionLemmas.{chess_computes, square_at}

-- what is read, or the other where nothing is
unfoldable pub or_else : {A : Type 0} → Option A → A → A
or_else None other = other
or_else (Some a) other = a

unfoldable pub no_rights : Rights
no_rights = record { white_short = false; white_long = false; black_short = false; black_long = false }

-- a position by the first four fields of its FEN
unfoldable pub fen : List ℕ → Position
fen text =
    let turn : Color = or_else (turn_named (field 2 text)) White in
    record {
      squares = or_else (placement (field 1 text)) [];
      turn = turn;
      rights = or_else (rights_named (field 3 text)) no_rights;
      en_passant = option_map square_at (or_else (en_passant_named turn (field 4 text)) None);
    }

-- a move by its squares and what a pawn becomes
unfoldable pub uci : List ℕ → Move
uci text =
    let form = or_else (uci_form text) (record { from = 0; to = 0; promotion = None }) in
    record { from = square_at form.from; to = square_at form.to; promotion = form.promotion }

unfoldable pub boards_compute : ⊤
unfolding chess_computes or_else no_rights fen uci
boards_compute = tt
