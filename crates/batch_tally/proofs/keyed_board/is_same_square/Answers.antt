use Rattle.batch_tally.proofs.Deciding.{squares-decide}
use Rattle.batch_tally.proofs.keyed_board.is_same_square.Goals as goal

pub returns-in-Some-Some : goal.returns-in-Some-Some
returns-in-Some-Some c =
    squares-decide c.args.one c.args.other c.in-Some-Some.one c.in-Some-Some.other c.in-Some-Some.is-0 c.in-Some-Some.is-1
