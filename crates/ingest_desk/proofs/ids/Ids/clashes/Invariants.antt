use Rattle.std.proofs.Common.{◌≡◌, ◌≤◌, take, length}
use Rattle.ingest_desk.specs.Clashes.{clashes_from, ids_of}
use Rattle.ingest_desk.specs.IdTable.{number_at}
use Rattle.ingest_desk.proofs.ids.Ids.clashes.Given as goal

abbrev pub invariant-loop-game : goal.invariant-loop-game
invariant-loop-game l = record {
  place : l.place ≡ l.game-index;
  few : length l.pairs.items ≤ l.game-index;
  found : l.pairs.items ≡ clashes_from 0 (number_at l.self) (ids_of (take l.game-index l.classes));
}
