use Rattle.import_run.specs.Underway.{CanSettle, IsUnderway, work_left}
use Rattle.ingest_desk.specs.Drawn.{DrawsFor}
use Rattle.import_run.proofs.stream.import_stream.Given as goal

abbrev pub invariant-rounds : goal.invariant-rounds
invariant-rounds g l = record {
  ready : CanSettle l.fn.label l.state;
  goes : IsUnderway (g.S.Source.source l.fn.source) (g.S.Source.source l.source) (g.C.Committer.told l.fn.committer) l.state (g.C.Committer.told l.committer);
  since : g.C.Committer.since l.fn.committer l.committer;
  drawn : DrawsFor 0 l.state.import.receipts.items (g.C.Committer.drawing l.fn.committer) (g.C.Committer.drawing l.committer);
}

abbrev pub decreases-rounds : goal.decreases-rounds
decreases-rounds g l = work_left l.state
