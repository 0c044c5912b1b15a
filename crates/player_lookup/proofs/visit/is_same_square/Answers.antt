use Rattle.player_lookup.proofs.Deciding.{squares-decide}
use Rattle.player_lookup.proofs.visit.is_same_square.Goals as goal

pub returns-in-Some-Some : goal.returns-in-Some-Some
returns-in-Some-Some c =
    squares-decide c.args.a c.args.b c.in-Some-Some.a c.in-Some-Some.b c.in-Some-Some.is-0 c.in-Some-Some.is-1
