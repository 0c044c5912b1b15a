use Rattle.batch_tally.proofs.Determined.{Single, same-classes, same-rows}
use Rattle.batch_tally.proofs.laws.tallies_are_determined.Goals as goal

single : goal.After-tallied_rows_are_determined → Single
single c = record {
  game = c.game_is_determined.ensures;
  reflexive = c.same_is_an_equivalence.ensures.reflexive;
  tidied = c.tidy_forms_decide_same.ensures;
  rows = c.tallied_rows_are_determined.ensures;
}

pub returns-clause-classes : goal.returns-clause-classes
returns-clause-classes c = same-classes (single c)

pub returns-clause-rows : goal.returns-clause-rows
returns-clause-rows c = same-rows (single c)
