use Rattle.std.proofs.Common.{◌≡◌, List, Option}
use Rattle.std.specs.List.{All, AllByRecursion, AllZip}
use Rattle.explorer_model.specs.Cuts.{Cut}
use Rattle.published_index.specs.Places.{Drawing}
use Rattle.ingest_desk.specs.Drawn.{DrawsFor}
use Rattle.import_run.specs.Apart.{IsInHand}
use Rattle.import_run.specs.Committing.{Store}
use Rattle.import_run.specs.Grouping.{Ascend, IsTallied}
use Rattle.import_run.specs.Settled.{IsSettledSo}
use Rattle.import_run.proofs.FrontLemmas.{SettledFront}
use Rattle.import_run.proofs.open_import.OpenImport.settle_each.Given as goal

abbrev pub invariant-settling : goal.invariant-settling
invariant-settling g l = record {
  left : All IsInHand l.tallied-iterator.rest.items;
  group : l.self.group ≡ l.fn.self.group;
  settled : (start : Option Store) (closed groups : List (List Cut)) → AllByRecursion Ascend groups → AllZip (IsTallied l.fn.self.group.label) groups l.fn.counted.items
      → IsSettledSo start closed l.fn.self (g.C.Committer.told l.fn.committer)
      → SettledFront l.fn.self.group.label start closed groups l.tallied-iterator.rest.items l.self (g.C.Committer.told l.committer);
  drawn : (before : Drawing) → DrawsFor 0 l.fn.self.receipts.items before (g.C.Committer.drawing l.fn.committer) → DrawsFor 0 l.self.receipts.items before (g.C.Committer.drawing l.committer);
  since : g.C.Committer.since l.fn.committer l.committer;
}
