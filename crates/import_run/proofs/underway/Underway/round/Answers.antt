use Rattle.std.proofs.Common.{refl, ap, arith}
use Rattle.import_run.specs.declared.text_group.TextGroup.{TextGroup}
use Rattle.import_run.proofs.DrawLemmas.{draws-within}
use Rattle.import_run.proofs.RoundLemmas.{can_tally_all, counting_lacks, round_breaks, round_goes, rounds_less}
use Rattle.import_run.proofs.TakingLemmas.{by_lacking}
use Rattle.import_run.proofs.UnderwayLemmas.{tallied_in_hand}
use Rattle.import_run.proofs.underway.Underway.round.Goals as goal

pub both-counted-requires-clause-ready : goal.both-counted-requires-clause-ready
both-counted-requires-clause-ready g c κs within = record {
  label_is = refl;
  hand = c.requires.ready.hand;
  ahead = c.take_whole-groups.ensures.ready c.args.self.now.import.group.label c.requires.ready.ahead;
}

pub both-counted-requires-clause-tallies : goal.both-counted-requires-clause-tallies
both-counted-requires-clause-tallies g c κs within =
    can_tally_all c.args.self.now.import.group.label c.take_whole-groups.result.items (c.take_whole-groups.ensures.under c.args.self.now.import.group.label c.requires.ready.ahead)

-- ---- a group ended it, or memory was wanting for one, or for what was to be read

pub returns-in-Err-clause-goes : goal.returns-in-Err-clause-goes
returns-in-Err-clause-goes g c = λ before start u.
    let t = rw c.in-Err.is at c.both-counted.ensures.turns.2 in
    let taken = c.take_whole-groups in
    round_breaks before (g.S.Source.source c.args.source.now) (g.S.Source.source c.both-counted.new.source) start c.args.self.now taken.result.items taken.new.self (g.C.Committer.told c.args.committer.now) (g.C.Committer.told c.both-counted.new.committer)
    taken.ensures.holds u c.both-counted.new.state.import t.ends c.in-Err.stop t.settles

pub returns-in-Err-clause-drawn : goal.returns-in-Err-clause-drawn
returns-in-Err-clause-drawn g c = rw c.in-Err.is at c.both-counted.ensures.drawn

pub returns-in-Err-clause-label : goal.returns-in-Err-clause-label
returns-in-Err-clause-label g c = ap (λ (group : TextGroup). group.label) c.both-counted.ensures.turns.2.same

-- ---- memory was wanting for what was to be counted

pub returns-in_err-self-clause-goes : goal.returns-in_err-self-clause-goes
returns-in_err-self-clause-goes g c =
    let t = rw c.in-Ok.is at c.both-counted.ensures.turns.2 in
    let taken = c.take_whole-groups in
    λ before start u.
    by_lacking c.from_residual.result _ _ c.from_residual.ensures.1
    (counting_lacks before (g.S.Source.source c.args.source.now) (g.S.Source.source c.both-counted.new.source) start c.args.self.now taken.result.items taken.new.self (g.C.Committer.told c.args.committer.now) (g.C.Committer.told c.both-counted.new.committer)
    taken.ensures.holds u c.both-counted.new.state.import c.both-counted.new.state.ahead t.settles t.reads t.ready.below)

pub returns-in_err-self-clause-drawn : goal.returns-in_err-self-clause-drawn
returns-in_err-self-clause-drawn g c = λ before h. draws-within 0 _ _ before _ (omega arith) ((rw c.in-Ok.is at c.both-counted.ensures.drawn) before h)

pub returns-in_err-self-clause-label : goal.returns-in_err-self-clause-label
returns-in_err-self-clause-label g c = ap (λ (group : TextGroup). group.label) c.both-counted.ensures.turns.2.same

-- ---- all is settled, counted and read

pub returns-clause-label : goal.returns-clause-label
returns-clause-label g c = ap (λ (group : TextGroup). group.label) c.both-counted.ensures.turns.2.same

pub returns-clause-ready : goal.returns-clause-ready
returns-clause-ready g c =
    let t = rw c.in-Ok.is at c.both-counted.ensures.turns.2 in
    record {
      label_is = ap (λ (group : TextGroup). group.label) t.same;
      hand = tallied_in_hand c.take_whole-groups.result.items c.in_ok-self.field-0.items (rw c.in_ok-self.was at c.both-counted.ensures.counted);
      ahead = t.ready;
    }

pub returns-clause-less : goal.returns-clause-less
returns-clause-less g c =
    let t = rw c.in-Ok.is at c.both-counted.ensures.turns.2 in
    let taken = c.take_whole-groups in
    rounds_less c.both-counted.ensures.turns.0 c.args.self.now taken.new.self c.both-counted.new.state.ahead taken.result.items c.in_ok-self.field-0.items taken.ensures.none taken.ensures.end taken.ensures.taken taken.ensures.groups
    (rw c.in_ok-self.was at c.both-counted.ensures.counted) c.requires.work c.both-counted.ensures.turns.1 t.less t.few

pub returns-clause-goes : goal.returns-clause-goes
returns-clause-goes g c =
    let t = rw c.in-Ok.is at c.both-counted.ensures.turns.2 in
    let taken = c.take_whole-groups in
    λ before start u.
    round_goes before (g.S.Source.source c.args.source.now) (g.S.Source.source c.both-counted.new.source) start c.args.self.now taken.result.items taken.new.self (g.C.Committer.told c.args.committer.now) (g.C.Committer.told c.both-counted.new.committer)
    taken.ensures.holds u c.both-counted.new.state.import c.both-counted.new.state.ahead t.settles t.reads c.in_ok-self.field-0.items (taken.ensures.under c.args.self.now.import.group.label c.requires.ready.ahead) (rw c.in_ok-self.was at c.both-counted.ensures.counted) t.same _ refl refl refl

pub returns-clause-drawn : goal.returns-clause-drawn
returns-clause-drawn g c = rw c.in-Ok.is at c.both-counted.ensures.drawn
