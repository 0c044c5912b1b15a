use Rattle.sample_games.proofs.Headers.{header-is}
use Rattle.sample_games.proofs.header.Header.draw.Goals as goal

pub returns-clause-drawn : goal.returns-clause-drawn
returns-clause-drawn c =
    header-is c.args.draws.now c.draw.new.draws c.draw-2.new.draws c.draw-3.new.draws c.draw-4.new.draws
    c.draw.result c.draw-2.result c.draw-3.result c.draw-4.result c.draw-5.result c.result_text.result.now c.time_control_text.result.now
    c.draw.ensures.later c.draw-2.ensures.later c.draw-3.ensures.later c.draw-4.ensures.later
    c.draw.ensures.value c.draw-2.ensures.value c.draw-3.ensures.value c.draw-4.ensures.value c.draw-5.ensures.value
    c.result_text.ensures.text c.time_control_text.ensures.text
