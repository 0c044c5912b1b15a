use Rattle.sample_games.specs.Movetexts.{Drawing}
use Rattle.sample_games.proofs.movetext.draw_movetext.Given as goal

abbrev pub invariant-loop-ply : goal.invariant-loop-ply
invariant-loop-ply l = Drawing l.plies l.initial.draws l.ply l.board l.draws l.text.items
