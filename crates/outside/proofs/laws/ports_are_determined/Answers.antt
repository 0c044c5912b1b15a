use Rattle.outside.proofs.PortLemmas.{one_append, one_given}
use Rattle.outside.proofs.laws.ports_are_determined.Goals as goal

pub returns : goal.returns
returns c = record {
  appends = one_append;
  gives = λ at told buffer other old new after is long first second.
      one_given at buffer other long told old new after is first second;
}
