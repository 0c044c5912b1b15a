use Rattle.std.proofs.Common.{ℕ, ◌+◌, IsTrue, refl, sym, subst}
use Rattle.explorer_model.specs.Board.{piece_at}
use Rattle.explorer_model.specs.Chess.{is_of_color}
use Rattle.legal_moves.proofs.BitboardFacts.{IsBuilt}
use Rattle.legal_moves.proofs.PieceSetLemmas.{set_built, set_with, set_passed}
use Rattle.legal_moves.proofs.piece_sets.squares_of_color.Goals.{then-is_of_color, else-is_of_color}
use Rattle.legal_moves.proofs.piece_sets.squares_of_color.Goals as goal

pub loop-s-preserved : goal.loop-s-preserved
loop-s-preserved c =
    let P : ℕ → Type 0 = λ bitboard. IsBuilt (λ b. IsTrue (is_of_color c.args.color (piece_at c.args.squares.now b))) (c.loop-s.s + 1) bitboard in
    elim c.if-is_of_color.branch [
      | then-is_of_color w ↦ subst P (sym w.bitboard-is)
          (set_with (is_of_color c.args.color) c.args.squares.now c.loop-s.s c.loop-s.bitboard w.only-bitboard.result c.is_of_color.result c.loop-s.invariant
          w.only-bitboard.ensures c.is_of_color.ensures.value w.if-is_of_color.true)
      | else-is_of_color w ↦ subst P (sym w.bitboard-is)
          (set_passed (is_of_color c.args.color) c.args.squares.now c.loop-s.s c.loop-s.bitboard c.is_of_color.result c.loop-s.invariant
          c.is_of_color.ensures.value w.if-is_of_color.false)
    ]

pub returns : goal.returns
returns c =
    set_built (is_of_color c.args.color) c.args.squares.now c.loop-s.s c.loop-s.bitboard c.loop-s.invariant c.loop-s-test.false c.loop-s.auto.bitboard-fits.fits
    c.told-squares refl
