use Rattle.std.proofs.Common.{◌≡◌, ◌≤◌, ◌+◌, List, vec_len, vec_capacity}
use Rattle.std.specs.List.{AllByRecursion}
use Rattle.explorer_model.specs.declared.archive.Batch.{Batch}
use Rattle.published_index.specs.States.{watching}
use Rattle.explorer.proofs.ServeLemmas.Handed.{HasSomeReaders}
use Rattle.explorer.proofs.serve.serving.with_readers.Given as goal

abbrev pub invariant-loop-door : goal.invariant-loop-door
invariant-loop-door g l = record {
  even : vec_len l.doors ≡ vec_len l.passes;
  room : vec_len l.list + vec_len l.doors + 1 ≤ vec_capacity l.list;
  parts : l.cabinet.drawer.parts + vec_len l.fn.doors ≡ l.fn.cabinet.drawer.parts + vec_len l.doors;
  drawn : l.cabinet.drawer.drawn ≡ l.fn.cabinet.drawer.drawn;
  same : l.cabinet.ingest ≡ l.fn.cabinet.ingest;
  readers : (opening : List Batch) → AllByRecursion (λ pass. pass ≡ watching opening) l.fn.passes.items
      → HasSomeReaders g.G.Door.door opening l.fn.doors.items l.doors.items l.passes.items l.fn.list.items l.list.items;
}

abbrev pub decreases-loop-door : goal.decreases-loop-door
decreases-loop-door g l = vec_len l.doors
