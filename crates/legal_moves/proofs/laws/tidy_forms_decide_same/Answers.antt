use Rattle.legal_moves.proofs.TidyLemmas.{tidied_same}
use Rattle.legal_moves.proofs.laws.tidy_forms_decide_same.Goals as goal

pub returns : goal.returns
returns c = tidied_same
