use Rattle.explorer.proofs.QueryLemmas.Spilled.{line_games, sans}
use Rattle.explorer.proofs.query.spilled.line_by.Goals as goal

pub line_of-requires-clause-plain : goal.line_of-requires-clause-plain
line_of-requires-clause-plain g c =
    let sound = c.in-Ok.ensures.through.sound in
    c.sound_answers_are_plain.ensures c.args.query.now.at c.in-Ok.found (sans c.args.query.now.at c.in-Ok.found.moves sound.moves)
    (line_games c.args.query.now.at c.in-Ok.found.moves sound.moves) sound.top sound.recent
