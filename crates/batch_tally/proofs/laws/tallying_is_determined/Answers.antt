use Rattle.batch_tally.proofs.Determined.{Single, same-places, same-refused, same-tally}
use Rattle.batch_tally.proofs.laws.tallying_is_determined.Goals as goal

single : goal.After-tallied_rows_are_determined → Single
single c = record {
  game = c.game_is_determined.ensures;
  reflexive = c.same_is_an_equivalence.ensures.reflexive;
  tidied = c.tidy_forms_decide_same.ensures;
  rows = c.tallied_rows_are_determined.ensures;
}

pub returns-clause-places : goal.returns-clause-places
returns-clause-places c = same-places (single c)

pub returns-clause-refused : goal.returns-clause-refused
returns-clause-refused c = same-refused (single c)

pub returns-clause-tally : goal.returns-clause-tally
returns-clause-tally c = same-tally (single c)
