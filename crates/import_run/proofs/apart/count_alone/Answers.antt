use Rattle.std.proofs.Common.{sym, ◌∙◌}
use Rattle.std.proofs.lemmas.List.{nil_from_length}
use Rattle.std.proofs.lemmas.List.Elements.{All-rest, All-same}
use Rattle.import_run.specs.Apart.{CanTally}
use Rattle.import_run.proofs.ApartLemmas.{counts_all, counts_first, counts_next}
use Rattle.import_run.proofs.apart.count_alone.Goals as goal

pub counting-init : goal.counting-init
counting-init g c =
    let same = c.into_iter-group-iterator.ensures.into_iter_gives.0 in
    record {
      left = All-same CanTally c.into_iter-group-iterator.result.rest.items c.args.groups.items same c.requires.tallies;
      made = counts_first c.args.groups.items c.into_iter-group-iterator.result.rest.items c.in_ok-counted.counted.items same c.in_ok-counted.ensures.items;
    }

pub counting-preserved : goal.counting-preserved
counting-preserved g c =
    let l = c.counting in
    let first = c.in-Some.ensures.steps.0 in
    record {
      left = All-rest CanTally c.in-Some.group c.next.new.self.rest.items l.group-iterator.rest.items first l.invariant.left;
      made = counts_next c.args.groups.items l.group-iterator.rest.items c.next.new.self.rest.items c.in-Some.group l.counted.items c.push.new.self.items c.in_ok-tally.field-0 first c.in_ok-push.ensures.items
          (record { hand = c.in_ok-tally.ensures.hand; counts = c.in_ok-tally.ensures.tallied }) l.invariant.made;
    }

pub returns : goal.returns
returns g c =
    let l = c.counting in
    counts_all c.args.groups.items l.group-iterator.rest.items l.counted.items
    (nil_from_length l.group-iterator.rest.items (sym l.group-iterator.rest.ok.0 ∙ c.in-None.ensures.steps.0)) l.invariant.made
