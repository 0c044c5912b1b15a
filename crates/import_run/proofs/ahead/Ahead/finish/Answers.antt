use Rattle.std.proofs.Common.{[], ◌∙◌, ap}
use Rattle.std.proofs.lemmas.List.{append-nil}
use Rattle.pgn_cut.specs.Cut.{cuts_in}
use Rattle.pgn_cut.specs.Cutter.{cuts_of_rest}
use Rattle.pgn_cut.specs.declared.cutter.Cutter.{Cutter}
use Rattle.import_run.proofs.AheadLemmas.{ahead_last, can_take_none, hand_under, under_more}
use Rattle.import_run.proofs.ShortLemmas.{short_first}
use Rattle.import_run.proofs.ahead.Ahead.finish.Goals as goal

pub take-requires-clause-short : goal.take-requires-clause-short
take-requires-clause-short c = short_first c.end.result c.replace-cutter.result [] [] (append-nil (cuts_in c.end.result) ∙ c.end.ensures)

pub returns-clause-all : goal.returns-clause-all
returns-clause-all c = λ given stream began.
    let last = c.end.ensures ∙ ap (λ (k : Cutter). cuts_of_rest k []) c.replace-cutter.ensures.value in
    ahead_last given stream c.end.result c.args.self.now.cutter c.args.self.now.whole.items c.take.new.self.whole.items c.close_group.new.self.whole.items c.args.self.now.group c.take.new.self.group
    last c.in_ok-take.ensures.ready c.in_ok-close_group.ensures.whole (c.in_ok-take.ensures.takes given) began

pub returns-clause-under : goal.returns-clause-under
returns-clause-under c = λ under.
    under_more c.args.self.now.group.label c.take.new.self.whole.items c.close_group.new.self.whole.items c.take.new.self.group c.in_ok-close_group.ensures.whole
    (hand_under c.args.self.now.group.label c.take.new.self.group c.take.ensures.label c.in_ok-take.ensures.ready) (c.in_ok-take.ensures.under under)

pub returns-clause-ready : goal.returns-clause-ready
returns-clause-ready c = can_take_none c.close_group.new.self.group c.close_group.ensures.none
