use Rattle.std.proofs.Common.{sym, ◌∙◌}
use Rattle.segment_merge.proofs.laws.merge_is_determined.Goals as goal

pub returns-clause-span : goal.returns-clause-span
returns-clause-span c left right segment other a b = a.span ∙ sym b.span

pub returns-clause-classes : goal.returns-clause-classes
returns-clause-classes c left right segment other a b = a.classes ∙ sym b.classes

pub returns-clause-rows : goal.returns-clause-rows
returns-clause-rows c left right segment other a b = a.rows ∙ sym b.rows
