use Rattle.std.proofs.Common.{◌≡◌, ◌≤◌, ◌+◌, ℕ, List, take, length}
use Rattle.std.specs.Option.{option_or}
use Rattle.ingest_desk.specs.Clashes.{ids_of, number_among}
use Rattle.ingest_desk.specs.IdTable.{number_at, room_of}
use Rattle.ingest_desk.proofs.ids.Ids.add_all.Given as goal

abbrev pub invariant-loop-n : goal.invariant-loop-n
invariant-loop-n l = record {
  room : length l.segment.classes ≤ room_of l.self + l.n;
  added : (id : List ℕ) → number_at l.self id
      ≡ option_or (number_at l.initial.self id)
      (number_among l.fn.first (ids_of (take l.n l.segment.classes)) id);
}
