use Rattle.std.proofs.Common.{refl}
use Rattle.import_run.proofs.AnsweredLemmas.{between_more, runs_none, settled_ended, settled_lacks, settled_none}
use Rattle.import_run.proofs.HandLemmas.{first}
use Rattle.import_run.proofs.settle.settle.Goals as goal

pub settling-init : goal.settling-init
settling-init g c = record {
  hand = c.requires.hand;
  between = record {
    runs = runs_none _ _ _ _ refl;
    none = refl;
    rounds = λ label cuts ascend holds. first cuts c.args.tallied ascend holds;
  };
  since = g.met.C.Committer.since_then c.args.committer.now;
}

pub settling-preserved : goal.settling-preserved
settling-preserved g c =
    let l = c.settling in
    let x = c.in-Again in
    let round = rw x.is at c.in_ok-next.ensures.comes in
    record {
      hand = round.comes.hand;
      between = between_more l.invariant.between c.in-Some.counted c.in-Some.is x.next round;
      since = g.met.C.Committer.since_before c.args.committer.now l.committer c.commit_once.new.committer l.invariant.since c.commit_once.ensures.since;
    }

pub returns-in_default-clause-comes : goal.returns-in_default-clause-comes
returns-in_default-clause-comes g c = settled_none c.settling.invariant.between c.in_default.is

pub returns-in_err-next-clause-comes : goal.returns-in_err-next-clause-comes
returns-in_err-next-clause-comes g c =
    settled_lacks c.settling.invariant.between c.in-Some.counted c.in-Some.is c.from_residual.result _ _ c.from_residual.ensures.1 c.in_err-next.ensures.comes

pub returns-in-Ended-clause-comes : goal.returns-in-Ended-clause-comes
returns-in-Ended-clause-comes g c =
    let x = c.in-Ended in
    settled_ended c.settling.invariant.between c.in-Some.counted c.in-Some.is x.done (rw x.is at c.in_ok-next.ensures.comes)
