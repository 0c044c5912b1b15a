use Rattle.std.proofs.Common.{arith, rules, sym}
use Rattle.packed_keys.proofs.Packed.{squares_written, bytes_of-is}
use Rattle.packed_keys.proofs.Names.{no_state, no_en_passant, no_low_piece, no_high_piece}
use Rattle.packed_keys.proofs.unpack.Goals.{then-state-gt-LAST_STATE-via-then-state-gt-LAST_STATE, then-state-gt-LAST_STATE-via-else-state-gt-LAST_STATE+then-en_passant-gt-LAST_EN_PASSANT, then-low-gt-LAST_PIECE-via-then-low-gt-LAST_PIECE, then-low-gt-LAST_PIECE-via-else-low-gt-LAST_PIECE+then-high-gt-LAST_PIECE}
use Rattle.packed_keys.proofs.unpack.Goals as goal

pub returns-then-state-gt-LAST_STATE-clause-none : goal.returns-then-state-gt-LAST_STATE-clause-none
returns-then-state-gt-LAST_STATE-clause-none c = λ is. elim c.then-state-gt-LAST_STATE.branch [
  | then-state-gt-LAST_STATE-via-then-state-gt-LAST_STATE w ↦ no_state is.0 _ is.1.0 w.if-state-gt-LAST_STATE.true is.1.1
  | then-state-gt-LAST_STATE-via-else-state-gt-LAST_STATE+then-en_passant-gt-LAST_EN_PASSANT w ↦
      no_en_passant is.0 _ is.1.0 w.if-en_passant-gt-LAST_EN_PASSANT.true is.1.1
]

pub returns-then-low-gt-LAST_PIECE-clause-none : goal.returns-then-low-gt-LAST_PIECE-clause-none
returns-then-low-gt-LAST_PIECE-clause-none c = λ is. elim c.then-low-gt-LAST_PIECE.branch [
  | then-low-gt-LAST_PIECE-via-then-low-gt-LAST_PIECE w ↦
      no_low_piece is.0 _ c.loop-byte.byte is.1.0 c.loop-byte-test.true w.if-low-gt-LAST_PIECE.true is.1.1
  | then-low-gt-LAST_PIECE-via-else-low-gt-LAST_PIECE+then-high-gt-LAST_PIECE w ↦
      no_high_piece is.0 _ c.loop-byte.byte is.1.0 c.loop-byte-test.true w.if-high-gt-LAST_PIECE.true is.1.1
]

pub loop-byte-preserved : goal.loop-byte-preserved
loop-byte-preserved c = record {
  board = search rules;
  pieces =
      squares_written c.loop-byte.squares c.args.bytes.now c.loop-byte.byte _ _ (omega (arith, c.loop-byte.invariant.board, c.loop-byte-test.true))
      (omega (arith, c.piece_of_code.ensures, c.piece_of_code-in-loop-byte.ensures)) c.loop-byte.invariant.pieces;
}

pub returns-clause-some : goal.returns-clause-some
returns-clause-some c = (
  c.loop-byte.invariant.board,
  bytes_of-is c.loop-byte.squares _ _ c.args.bytes.now c.loop-byte.invariant.board (search rules)
      (λ k below. c.loop-byte.invariant.pieces k (omega (arith, below, c.loop-byte-test.false)))
      (sym (c.rights_of_code.ensures _ c.turn_of_code.ensures)) (sym c.en_passant_of_code.ensures),
)
