use Rattle.std.proofs.Common.{rules}
use Rattle.sample_games.proofs.Whole.{sample-is}
use Rattle.sample_games.proofs.sampling.sample.Goals as goal

pub returns-clause-sample : goal.returns-clause-sample
returns-clause-sample c =
    sample-is c.args.index c.args.draws.now c.draw-plies.new.draws c.draw_movetext.new.draws c.draw-header.new.draws c.draw-plies.result c.in_ok-movetext.movetext.items
    c.in_ok-text.text.items c.write.new.text.items c.push.new.self.items c.extend_from_slice.new.self.items c.extend_from_slice-2.new.self.items c.extend_from_slice-3.new.self.items c.from_vec.result
    c.draw-header.result c.draw-plies.ensures.value c.draw-plies.ensures.later c.in_ok-movetext.ensures.drawn c.draw-header.ensures.drawn c.draw-header.ensures.behind
    c.in_ok-text.ensures.items c.in_ok-write.ensures.text (search rules) (search rules) (search rules) (search rules) (search rules)
