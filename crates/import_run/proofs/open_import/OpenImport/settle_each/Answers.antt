use Rattle.std.proofs.Common.{◌∙◌, ◌∷◌, List, refl, sym, subst}
use Rattle.std.specs.List.{AllZip}
use Rattle.std.proofs.lemmas.List.{nil_from_length}
use Rattle.std.proofs.lemmas.List.Elements.{All-head, All-rest, All-same}
use Rattle.import_run.specs.Apart.{IsInHand}
use Rattle.import_run.specs.Grouping.{IsTallied}
use Rattle.import_run.specs.declared.text_group.TalliedGroup.{TalliedGroup}
use Rattle.import_run.specs.declared.text_group.TextGroup.{TextGroup}
use Rattle.import_run.proofs.FrontLemmas.{front_all, front_breaks, front_first, front_next}
use Rattle.import_run.proofs.open_import.OpenImport.settle_each.Goals as goal

pub settling-init : goal.settling-init
settling-init g c =
    let same = c.into_iter-tallied-iterator.ensures.into_iter_gives.0 in
    record {
      left = All-same IsInHand c.into_iter-tallied-iterator.result.rest.items c.args.counted.items same c.requires.hand;
      group = refl;
      settled = λ start closed groups ascend tallied s.
          front_first c.args.self.now.group.label start closed groups c.into_iter-tallied-iterator.result.rest.items c.args.self.now (g.C.Committer.told c.args.committer.now) ascend
          (subst (λ (l : List TalliedGroup). AllZip (IsTallied c.args.self.now.group.label) groups l) (sym same) tallied) s;
      drawn = λ before h. h;
      since = g.met.C.Committer.since_then c.args.committer.now;
    }

pub settle_tallied-requires-clause-hand : goal.settle_tallied-requires-clause-hand
settle_tallied-requires-clause-hand g c = λ κs within.
    All-head IsInHand c.in-Some.tallied c.next.new.self.rest.items (All-same IsInHand (c.in-Some.tallied ∷ c.next.new.self.rest.items) c.settling.tallied-iterator.rest.items (sym c.in-Some.ensures.steps.0) c.settling.invariant.left)

pub settling-preserved : goal.settling-preserved
settling-preserved g c =
    let l = c.settling in
    let before = l.invariant in
    let told = g.C.Committer.told l.committer in
    let told' = g.C.Committer.told c.settle_tallied.new.committer in
    record {
      left = All-rest IsInHand c.in-Some.tallied c.next.new.self.rest.items l.tallied-iterator.rest.items c.in-Some.ensures.steps.0 before.left;
      group = c.settle_tallied.ensures.group ∙ before.group;
      settled = λ start closed groups ascend tallied s.
          front_next c.args.self.now.group.label start closed groups l.tallied-iterator.rest.items c.next.new.self.rest.items c.in-Some.tallied c.in-Some.ensures.steps.0 l.self c.settle_tallied.new.self told told'
          (before.settled start closed groups ascend tallied s)
          (λ closed next ascend tallied s. c.in-Ok.ensures.settles start closed next ascend (subst (λ (group : TextGroup). IsTallied group.label next c.in-Some.tallied) (sym before.group) tallied) s);
      drawn = λ first h. c.in-Ok.ensures.drawn first (before.drawn first h);
      since = g.met.C.Committer.since_before c.args.committer.now l.committer c.settle_tallied.new.committer before.since c.settle_tallied.ensures.since;
    }

pub returns-clause-settles : goal.returns-clause-settles
returns-clause-settles g c = λ start closed groups ascend tallied s.
    let l = c.settling in
    front_all c.args.self.now.group.label start closed groups l.tallied-iterator.rest.items l.self (g.C.Committer.told l.committer)
    (nil_from_length l.tallied-iterator.rest.items (sym l.tallied-iterator.rest.ok.0 ∙ c.in-None.ensures.steps.0)) (l.invariant.settled start closed groups ascend tallied s)

pub returns-in-Err-clause-settles : goal.returns-in-Err-clause-settles
returns-in-Err-clause-settles g c = λ start closed groups ascend tallied s.
    let l = c.settling in
    front_breaks c.args.self.now.group.label start closed groups l.tallied-iterator.rest.items c.next.new.self.rest.items c.in-Some.tallied c.in-Some.ensures.steps.0 l.self c.settle_tallied.new.self
    (g.C.Committer.told l.committer) (g.C.Committer.told c.settle_tallied.new.committer) (l.invariant.settled start closed groups ascend tallied s) c.in-Err.stop
    (λ closed next ascend tallied s. c.in-Err.ensures.settles start closed next ascend (subst (λ (group : TextGroup). IsTallied group.label next c.in-Some.tallied) (sym l.invariant.group) tallied) s)

pub returns-clause-group : goal.returns-clause-group
returns-clause-group g c = c.settling.invariant.group

pub returns-in-Err-clause-group : goal.returns-in-Err-clause-group
returns-in-Err-clause-group g c = c.settle_tallied.ensures.group ∙ c.settling.invariant.group

pub returns-in-Err-clause-since : goal.returns-in-Err-clause-since
returns-in-Err-clause-since g c = g.met.C.Committer.since_before c.args.committer.now c.settling.committer c.settle_tallied.new.committer c.settling.invariant.since c.settle_tallied.ensures.since

pub returns-clause-drawn : goal.returns-clause-drawn
returns-clause-drawn g c = c.settling.invariant.drawn

pub returns-in-Err-clause-drawn : goal.returns-in-Err-clause-drawn
returns-in-Err-clause-drawn g c = λ before h. c.in-Err.ensures.drawn before (c.settling.invariant.drawn before h)
