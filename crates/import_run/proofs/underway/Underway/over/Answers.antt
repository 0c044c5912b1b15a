use Rattle.std.proofs.Common.{Some, ap, ◌∙◌, vec_len}
use Rattle.import_run.specs.declared.ahead.ReadEnd.{ReadEnd}
use Rattle.import_run.proofs.ClosingLemmas.{none_in}
use Rattle.import_run.proofs.UnderwayLemmas.{holds_closed}
use Rattle.import_run.proofs.underway.Underway.over.Goals as goal

pub returns-in-Some-Ended-clause-over : goal.returns-in-Some-Ended-clause-over
returns-in-Some-Ended-clause-over g c = λ none before now start told u. record {
  closed = u.closed;
  settled = u.settled;
  none = none_in (vec_len c.args.self.now.ahead.whole) c.args.self.now.ahead.whole.items c.is_empty.result c.args.self.now.ahead.whole.ok.0 c.is_empty.ensures c.if-not-is_empty.false;
  stands = (c.in-Some-Ended.is ∙ ap (λ (end : ReadEnd). Some end) (rw c.in-Some-Ended.is at c.in-Some-Ended.field-0-is), holds_closed before now start c.args.self.now told none u);
}

pub returns-in-Some-Failed-clause-over : goal.returns-in-Some-Failed-clause-over
returns-in-Some-Failed-clause-over g c = λ none before now start told u. record {
  closed = u.closed;
  settled = u.settled;
  none = none_in (vec_len c.args.self.now.ahead.whole) c.args.self.now.ahead.whole.items c.is_empty.result c.args.self.now.ahead.whole.ok.0 c.is_empty.ensures c.if-not-is_empty.false;
  stands = (c.in-Some-Failed.is ∙ ap (λ (end : ReadEnd). Some end) (rw c.in-Some-Failed.is at c.in-Some-Failed.field-0-is), holds_closed before now start c.args.self.now told none u);
}
