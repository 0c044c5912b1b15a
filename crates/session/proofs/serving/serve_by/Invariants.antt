use Rattle.std.proofs.Common.{◌≡◌, ◌<◌}
use Rattle.session.specs.Backends.{StaysLent, state_of}
use Rattle.session.specs.Readers.{IsCovered, offer_of}
use Rattle.session.specs.Steps.{IsServing}
use Rattle.session.proofs.serving.serve_by.Given as goal

abbrev pub invariant-serving : goal.invariant-serving
invariant-serving g l = record {
  serving : IsServing (offer_of l.fn.reader) (g.L.Source.source l.fn.link)
      (state_of g.I.Importer.importer l.fn.backend)
      l.wire (g.L.Source.source l.link) (state_of g.I.Importer.importer l.backend);
  more : 0 < l.wire.more;
  covered : IsCovered l.reader.players l.backend.pass.now.seen;
  offer : offer_of l.reader ≡ offer_of l.fn.reader;
  lent : StaysLent l.fn.backend l.backend;
}

abbrev pub decreases-serving : goal.decreases-serving
decreases-serving g l = l.wire.more
