use Rattle.std.proofs.Common.{arith}
use Rattle.pgn_cut.specs.Cut.{meaning}
use Rattle.import_run.proofs.AheadLemmas.{can_take_none, is_under, takes_open, takes_whole, under_more}
use Rattle.import_run.proofs.TakingLemmas.{on_ok}
use Rattle.import_run.proofs.ahead.Ahead.push.Goals as goal

pub returns-then-len-lt-GROUP_LIMIT-clause-takes : goal.returns-then-len-lt-GROUP_LIMIT-clause-takes
returns-then-len-lt-GROUP_LIMIT-clause-takes c = λ given taken ascend h.
    takes_open given taken (meaning c.args.cut) c.args.self.now.whole.items c.args.self.now.group c.push.new.self c.in_ok-push.ensures.group h

pub returns-then-len-lt-GROUP_LIMIT-clause-ready : goal.returns-then-len-lt-GROUP_LIMIT-clause-ready
returns-then-len-lt-GROUP_LIMIT-clause-ready c = record { few = omega arith; short = c.in_ok-push.ensures.short c.requires.ready.short }

pub returns-clause-takes : goal.returns-clause-takes
returns-clause-takes c = on_ok c.close_group.result _ _ (λ whole given taken.
    takes_whole given taken (meaning c.args.cut) c.args.self.now.whole.items c.args.self.now.group _ c.in_ok-push.ensures.group c.close_group.new.self.whole.items c.close_group.new.self.group
    c.requires.ready.few (omega arith) whole c.close_group.ensures.group) c.close_group.ensures.whole

pub returns-clause-ready : goal.returns-clause-ready
returns-clause-ready c = on_ok c.close_group.result _ _ (λ whole. can_take_none c.close_group.new.self.group c.close_group.ensures.none) c.close_group.ensures.whole

pub returns-clause-under : goal.returns-clause-under
returns-clause-under c = on_ok c.close_group.result _ _ (λ whole under.
    under_more c.args.self.now.group.label c.args.self.now.whole.items c.close_group.new.self.whole.items _ whole
    (is_under c.args.self.now.group _ c.push.ensures.label c.in_ok-push.ensures.more (c.in_ok-push.ensures.short c.requires.ready.short) c.requires.ready) under) c.close_group.ensures.whole
