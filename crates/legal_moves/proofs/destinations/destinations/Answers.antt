use Rattle.std.proofs.Common.{◌≡◌, ◌↔◌, bit_or, sym, ◌∙◌, subst}
use Rattle.step_tables.specs.Bitboard.{Holds}
use Rattle.explorer_model.specs.declared.chess.Role.{Role}
use Rattle.explorer_model.specs.Board.{piece_at, IsOfColor}
use Rattle.legal_moves.specs.Listing.{RoleReaches}
use Rattle.legal_moves.proofs.BitboardFacts.{both-ways}
use Rattle.legal_moves.proofs.DestinationLemmas.{destination-by, attacks-by, pawn-destination, king-destination, king_at, and-says, piece_goes, turned}
use Rattle.legal_moves.proofs.destinations.destinations.Goals as goal

pub returns-in-Pawn : goal.returns-in-Pawn
returns-in-Pawn c = λ m here.
    let P : Role → Type 0 = λ role. Holds (bit_or c.pawn_advances.result c.pawn_captures.result) m.to.index
    ↔ ((¬ IsOfColor c.args.position.now.turn (piece_at c.args.position.now.squares m.to.index)) × RoleReaches c.args.position.now role m) in
    both-ways
    (subst P (sym c.in-Pawn.is)
    (pawn-destination c.args.position.now m c.pawn_advances.result c.pawn_captures.result c.requires.informed.valid (c.pawn_advances.ensures m here)
    (c.pawn_captures.ensures m here)))
    (destination-by c.args.position.now m c.args.from.index c.in-Some.piece here c.in-Some.is c.requires.own)

pub returns-in-King : goal.returns-in-King
returns-in-King c = λ m here.
    let P : Role → Type 0 = λ role. Holds (bit_or (bit_or c.attacks.result c.castling.result) c.castling-in-King.result) m.to.index
    ↔ ((¬ IsOfColor c.args.position.now.turn (piece_at c.args.position.now.squares m.to.index)) × RoleReaches c.args.position.now role m) in
    let at : m.from.index ≡ c.args.info.now.king =
    here ∙ king_at c.args.position.now c.args.info.now c.args.from.index c.in-Some.piece c.requires.informed c.args.from.on_board c.in-Some.is c.requires.own c.in-King.is in
    both-ways
    (subst P (sym c.in-King.is)
    (king-destination c.args.position.now m c.attacks.result c.castling.result c.castling-in-King.result
    (and-says (c.attacks.ensures m.to.index m.to.on_board)
    (attacks-by c.args.position.now m c.args.from.index c.in-Some.piece here c.in-Some.is))
    (c.castling.ensures m at) (c.castling-in-King.ensures m at)))
    (destination-by c.args.position.now m c.args.from.index c.in-Some.piece here c.in-Some.is c.requires.own)

pub returns-in-Knight : goal.returns-in-Knight
returns-in-Knight c = λ m here.
    both-ways
    (turned (and-says (c.attacks-in-Knight.ensures m.to.index m.to.on_board)
    (both-ways (attacks-by c.args.position.now m c.args.from.index c.in-Some.piece here c.in-Some.is) (piece_goes c.args.position.now m c.in-Some.piece.role c.in-Knight.is))))
    (destination-by c.args.position.now m c.args.from.index c.in-Some.piece here c.in-Some.is c.requires.own)
