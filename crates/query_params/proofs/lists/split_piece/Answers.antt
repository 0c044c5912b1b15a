use Rattle.query_params.proofs.Splits.{no_comma, comma}
use Rattle.query_params.proofs.lists.split_piece.Goals as goal

pub returns-in-None : goal.returns-in-None
returns-in-None c = no_comma c.args.text.now c.in-None.ensures.cases

pub returns-in-Some : goal.returns-in-Some
returns-in-Some c = comma c.args.text.now c.in-Some.piece c.in-Some.rest c.in-Some.ensures.cases
