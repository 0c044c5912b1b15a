use Rattle.std.proofs.Common.{◌≡◌, ◌+◌, ◌-◌, ◌≤◌, ◌++◌, ℕ, List, Option, take, length}
use Rattle.published_index.specs.Places.{Drawing}
use Rattle.ingest_desk.specs.Drawn.{DrawsFor}
use Rattle.pgn_cut.specs.Cutter.{came, cuts_of_rest}
use Rattle.import_run.specs.Committing.{Store}
use Rattle.import_run.specs.Taking.{CutSoFar, IsReady}
use Rattle.import_run.proofs.open_import.OpenImport.feed.Given as goal

abbrev pub invariant-feeding : goal.invariant-feeding
invariant-feeding g l = record {
  within : l.at ≤ length l.bytes;
  so_far : came l.cutter ≡ came l.fn.cutter + l.at;
  ready : IsReady l.self;
  label : l.self.group.label ≡ l.fn.self.group.label;
  cut : (start : Option Store) (past : List ℕ) → CutSoFar start past (cuts_of_rest l.fn.cutter) l.fn.self (g.C.Committer.told l.fn.committer)
      → CutSoFar start (past ++ take l.at l.bytes) (cuts_of_rest l.cutter) l.self (g.C.Committer.told l.committer);
  since : g.C.Committer.since l.fn.committer l.committer;
  drawn : (before : Drawing) → DrawsFor 0 l.fn.self.receipts.items before (g.C.Committer.drawing l.fn.committer)
      → DrawsFor 0 l.self.receipts.items before (g.C.Committer.drawing l.committer);
}

abbrev pub decreases-feeding : goal.decreases-feeding
decreases-feeding g l = length l.bytes - l.at
