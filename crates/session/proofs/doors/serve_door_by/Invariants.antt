use Rattle.std.proofs.Common.{◌≡◌}
use Rattle.session.specs.Doors.{DoorServed}
use Rattle.session.specs.Backends.{StaysLent, state_of}
use Rattle.session.specs.Readers.{IsCovered, offer_of}
use Rattle.session.proofs.doors.serve_door_by.Given as goal

abbrev pub invariant-accepting : goal.invariant-accepting
invariant-accepting g l = record {
  served : DoorServed (offer_of l.fn.reader) (g.D.Door.door l.fn.door)
      (state_of g.I.Importer.importer l.fn.backend)
      (g.D.Door.door l.door) (state_of g.I.Importer.importer l.backend);
  faults : (g.D.Door.door l.door).faults ≡ (g.D.Door.door l.fn.door).faults;
  covered : IsCovered l.reader.players l.backend.pass.now.seen;
  offer : offer_of l.reader ≡ offer_of l.fn.reader;
  lent : StaysLent l.fn.backend l.backend;
}

abbrev pub decreases-accepting : goal.decreases-accepting
decreases-accepting g l = (g.D.Door.door l.door).left
