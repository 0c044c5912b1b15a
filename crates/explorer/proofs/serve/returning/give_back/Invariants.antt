use Rattle.std.proofs.Common.{◌≡◌, map, string_bytes}
use Rattle.host.specs.Hosts.{HostState}
use Rattle.ingest_desk.specs.Stored.{journal}
use Rattle.published_index.specs.Places.{Drawing}
use Rattle.explorer.specs.Serve.Workers.{AreNamed, CanReturn, GivenBack, HasTaken, calls_of, drawings_in}
use Rattle.explorer.proofs.ServeLemmas.WorkerLists.{HasKnown}
use Rattle.explorer.proofs.serve.returning.give_back.Given as goal

abbrev pub invariant-loop-worker : goal.invariant-loop-worker
invariant-loop-worker g l = record {
  named : AreNamed (map string_bytes l.names) 0 l.list.items;
  out : CanReturn (calls_of g.H.File.Source.source g.H.Door.Door.door (map string_bytes l.names) 0 l.list.items)
      (g.H.Host.host l.host);
  same : l.cabinet.ingest ≡ l.fn.cabinet.ingest;
  drawn : (end : Drawing) → HasTaken (drawings_in l.list.items) l.cabinet.drawer end
      → HasTaken (drawings_in l.fn.list.items) l.fn.cabinet.drawer end;
  back : (end : HostState)
      → GivenBack g.H.File.Source.source g.H.Door.Door.door (map string_bytes l.names) 0 l.list.items (g.H.Host.host l.host) end
      → GivenBack g.H.File.Source.source g.H.Door.Door.door (map string_bytes l.names) 0 l.fn.list.items (g.H.Host.host l.fn.host) end;
  known : HasKnown l.fn.list.items l.list.items l.last (journal l.fn.cabinet.ingest);
}

abbrev pub decreases-loop-worker : goal.decreases-loop-worker
decreases-loop-worker g l = goal.left-loop-worker g l
