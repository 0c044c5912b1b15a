use Rattle.session.proofs.AskedLemmas.{all-answered}
use Rattle.session.proofs.laws.all_that_is_asked_is_answered.Goals as goal

pub returns : goal.returns
returns c = all-answered
