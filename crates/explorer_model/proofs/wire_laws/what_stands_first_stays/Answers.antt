use Rattle.explorer_model.proofs.Standing.{whole-stays, refusal-stays}
use Rattle.explorer_model.proofs.wire_laws.what_stands_first_stays.Goals as goal

pub returns : goal.returns
returns c = record {
  whole = whole-stays;
  refused = λ more bytes behind fault rest others. refusal-stays more bytes behind fault;
}
