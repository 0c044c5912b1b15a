use Rattle.fen_uci.proofs.Ranks.{rank_alone, rank_above}
use Rattle.fen_uci.proofs.placement.split_rank.Goals as goal

pub returns-in-None : goal.returns-in-None
returns-in-None c =
    rank_alone c.args.text.now c.split_before.result.0.now c.split_before.result.1.now c.split_before.ensures.joined c.split_before.ensures.free c.in-None.ensures.cases

pub returns-in-Some : goal.returns-in-Some
returns-in-Some c =
    rank_above c.args.text.now c.split_before.result.0.now c.split_before.result.1.now c.in-Some.below.now c.in-Some.field-0-0.now c.split_before.ensures.joined
    c.split_before.ensures.free c.split_before.ensures.stops c.in-Some.ensures.cases.0
