use Rattle.std.specs.Prelude.{IfSome}
use Rattle.import_run.specs.Hand.{InHand}
use Rattle.import_run.specs.Rounds.{size_of}
use Rattle.import_run.proofs.AnsweredLemmas.{Between}
use Rattle.import_run.proofs.settle.settle.Given as goal

abbrev pub invariant-settling : goal.invariant-settling
invariant-settling g l = record {
  hand : IfSome l.state.tally (λ counted. InHand counted l.state.places.items);
  between : Between g.row.J.Denot l.fn.tallied l.state l.fn.clashes.items l.clashes.items (g.C.Committer.told l.fn.committer) (g.C.Committer.told l.committer)
      (g.C.Committer.drawing l.fn.committer) (g.C.Committer.drawing l.committer);
  since : g.C.Committer.since l.fn.committer l.committer;
}

abbrev pub decreases-settling : goal.decreases-settling
decreases-settling g l = size_of l.state.tally
