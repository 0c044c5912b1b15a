use Rattle.session.proofs.LawLemmas.{all-over-fronts, numbers-ascend, unread-counted}
use Rattle.session.proofs.laws.answers_are_over_fronts.Goals as goal

pub returns : goal.returns
returns c = record {
  fronts = all-over-fronts;
  numbers = numbers-ascend;
  unread = unread-counted;
}
