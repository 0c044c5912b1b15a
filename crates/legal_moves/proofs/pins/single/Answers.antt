use Rattle.step_tables.proofs.BitboardLemmas.{Holds-zero}
use Rattle.legal_moves.proofs.PinLemmas.{two_squares}
use Rattle.legal_moves.proofs.pins.single.Goals as goal

pub returns-then-more-ne0 : goal.returns-then-more-ne0
returns-then-more-ne0 c = λ s on. (
  λ bit. absurd (Holds-zero s bit),
  λ alone. absurd (two_squares c.args.bitboard c.without-more.result c.lowest-first.result s c.without-more.type_inv c.lowest-first.ensures.on_board
      c.lowest-first.ensures.within c.without-more.ensures.others c.if-more-ne0.true alone),
)
