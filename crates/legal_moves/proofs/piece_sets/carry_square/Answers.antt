use Rattle.std.proofs.Common.{None, sym, set}
use Rattle.explorer_model.specs.Board.{piece_at}
use Rattle.legal_moves.proofs.PieceSetLemmas.{set_told}
use Rattle.legal_moves.proofs.Writes.{length-set_64}
use Rattle.legal_moves.proofs.piece_sets.carry_square.Goals as goal

pub returns : goal.returns
returns c = λ test squares whole none same.
    c.write_square-2.ensures test (set squares c.args.from None) (piece_at squares c.args.from) (length-set_64 squares c.args.from None whole) none
    (set_told test squares c.args.bitboard c.args.from c.contains-there.result none same c.contains-there.ensures)
    (c.write_square.ensures test squares None whole none (sym none) same)
