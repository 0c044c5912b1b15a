use Rattle.std.proofs.Common.{List, subst}
use Rattle.explorer_model.specs.Imports.{Verdict, Yields}
use Rattle.explorer_model.proofs.Accounts.{numbers_in_turn, in_turn-by, one_each-in_turn}
use Rattle.explorer_model.proofs.laws.alone_is_beside.Goals as goal

pub returns : goal.returns
returns c = λ label stored groups batches refused is.
    let Y : List (List Verdict) → Type 0 = λ done. Yields label done batches refused in
    record {
      examinations = is.examinations;
      are_examinations = is.are_examinations;
      numbers = numbers_in_turn stored is.examinations;
      one_each = one_each-in_turn stored groups is.examinations is.are_examinations;
      yields = subst Y (in_turn-by stored is.examinations) is.yields;
    }
