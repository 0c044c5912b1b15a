use Rattle.std.proofs.Common.{◌≡◌, suc, [], ◌∷◌, length, ap, arith}
use Rattle.step_tables.specs.Bitboard.{squares_of}
use Rattle.step_tables.proofs.BitboardLemmas.{squares_of-first, squares_of-zero}
use Rattle.step_tables.proofs.bitboard.SquaresIterator.next.Goals as goal

pub returns-clause-steps : goal.returns-clause-steps
returns-clause-steps c =
    squares_of-first c.args.self.now.bitboard c.without-self.result c.lowest-square.result c.lowest-square.ensures.on_board
    c.lowest-square.ensures.within c.lowest-square.ensures.first c.without-self.ensures.others

pub returns-clause-goes : goal.returns-clause-goes
returns-clause-goes c =
    let first : squares_of c.args.self.now.bitboard ≡ c.lowest-square.result ∷ squares_of c.without-self.result =
    squares_of-first _ _ _ c.lowest-square.ensures.on_board c.lowest-square.ensures.within c.lowest-square.ensures.first
    c.without-self.ensures.others in
    let shorter : length (squares_of c.args.self.now.bitboard) ≡ suc (length (squares_of c.without-self.result)) = ap length first in
    record { on = λ _. (tt, tt, omega (arith, shorter)); keeps = tt; rests = λ _. tt }

pub returns-then-self-eq0-clause-steps : goal.returns-then-self-eq0-clause-steps
returns-then-self-eq0-clause-steps c =
    let none : squares_of c.args.self.now.bitboard ≡ [] = rw c.if-self-eq0.true squares_of-zero in (none, none)
