use Rattle.import_run.proofs.AheadLemmas.{stands_for}
use Rattle.import_run.proofs.ClosingLemmas.{own_back, own_label}
use Rattle.import_run.proofs.DrawLemmas.{draws-within}
use Rattle.import_run.proofs.RoundLemmas.{turns_lacking}
use Rattle.import_run.proofs.UnderwayLemmas.{lacks_settled}
use Rattle.std.proofs.Common.{[], arith}
use Rattle.import_run.proofs.underway.Underway.turn.Goals as goal

pub settle_each-requires-clause-hand : goal.settle_each-requires-clause-hand
settle_each-requires-clause-hand g c κs within = rw c.replace-counted.ensures.value c.requires.ready.hand

pub read_on-requires : goal.read_on-requires
read_on-requires g c = record { ready = own_label c.args.self.now.import.group.label c.args.self.now.ahead c.requires.ready.ahead }

-- ---- a group ended it, or memory was wanting for one

pub returns-in-Err-clause-turns : goal.returns-in-Err-clause-turns
returns-in-Err-clause-turns g c = record {
  same = c.settle_each.ensures.group;
  ready = tt;
  settles = rw c.replace-counted.ensures.value at c.in-Err.ensures.settles;
  reads = tt;
  ends = λ before given h. stands_for before (g.S.Source.source c.args.source.now) given c.args.self.now.ahead c.requires.ready.ahead.below h;
  less = tt;
  few = tt;
}

-- ---- memory was wanting for what was to be read

pub returns-in_err-read_on-clause-turns : goal.returns-in_err-read_on-clause-turns
returns-in_err-read_on-clause-turns g c =
    let source = g.S.Source.source c.args.source.now in
    let source' = g.S.Source.source c.read_on.new.source in
    let told' = g.C.Committer.told c.settle_each.new.committer in
    let closes = rw c.replace-counted.ensures.value at c.in-Ok.ensures.settles in
    turns_lacking c.args.counting c.from_residual.result c.args.self.now _ source source' (g.C.Committer.told c.args.committer.now) told' c.from_residual.ensures.1 c.settle_each.ensures.group
    (λ start closed groups ascend tallied s. lacks_settled source source' start closed groups [] c.settle_each.new.self told' (closes start closed groups ascend tallied s)) c.in_err-read_on.ensures.lacks

-- ---- all is settled, and more is read

pub returns-clause-turns : goal.returns-clause-turns
returns-clause-turns g c = record {
  same = c.settle_each.ensures.group;
  ready = own_back c.args.self.now.import.group.label c.args.self.now.ahead c.read_on.new.self c.requires.ready.ahead c.in_ok-read_on.ensures.ready;
  settles = rw c.replace-counted.ensures.value at c.in-Ok.ensures.settles;
  reads = c.in_ok-read_on.ensures.holds;
  ends = tt;
  less = c.in_ok-read_on.ensures.less;
  few = c.in_ok-read_on.ensures.few;
}

pub returns-in_err-read_on-clause-drawn : goal.returns-in_err-read_on-clause-drawn
returns-in_err-read_on-clause-drawn g c = λ before h. draws-within 0 _ _ before _ (omega arith) (c.in-Ok.ensures.drawn before h)
