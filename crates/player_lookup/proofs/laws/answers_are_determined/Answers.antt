use Rattle.player_lookup.proofs.Determined.{one-found}
use Rattle.player_lookup.proofs.laws.answers_are_determined.Goals as goal

pub returns : goal.returns
returns c = one-found (record {
  game = c.game_is_determined.ensures;
  visit = c.first_visit_is_determined.ensures;
  writing = c.notation_is_determined.ensures.writing;
})
