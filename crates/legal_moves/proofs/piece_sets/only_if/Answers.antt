use Rattle.legal_moves.proofs.PieceSetLemmas.{only_if_says}
use Rattle.legal_moves.proofs.piece_sets.only_if.Goals as goal

pub returns : goal.returns
returns c = λ b on_b. only_if_says c.args.there c.from.result c.args.square b c.from.ensures c.requires
