use Rattle.std.proofs.Common.{List, subst}
use Rattle.explorer_model.specs.Imports.{Verdict, Yields}
use Rattle.explorer_model.proofs.Accounts.{none_stored, apart-by, one_each-none}
use Rattle.explorer_model.proofs.laws.apart_is_beside.Goals as goal

pub returns : goal.returns
returns c = λ label groups batches refused is.
    let Y : List (List Verdict) → Type 0 = λ done. Yields label done batches refused in
    record {
      examinations = is.examinations;
      are_examinations = is.are_examinations;
      numbers = none_stored is.examinations;
      one_each = one_each-none groups is.examinations is.are_examinations;
      yields = subst Y (apart-by is.examinations) is.yields;
    }
