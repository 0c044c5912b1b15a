use Rattle.std.proofs.Common.{refl}
use Rattle.player_lookup.proofs.lines.line_of.Goals as goal

pub returns : goal.returns
returns c = record {
  next = refl;
  san = c.in_ok-san_of.ensures;
  average = c.average_of.ensures;
  totals = refl;
  game = c.in_ok-only_game.ensures;
}
