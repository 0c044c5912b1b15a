use Rattle.std.proofs.Common.{lit<, refl}
use Rattle.session.specs.Backends.{state_of}
use Rattle.session.specs.Readers.{offer_of}
use Rattle.session.proofs.ConnectionLemmas.{serving-none}
use Rattle.session.proofs.serving.serve_by.Goals as goal

pub serving-init : goal.serving-init
serving-init g c = record {
  serving = serving-none (offer_of c.args.reader.now) (g.L.Source.source c.args.link.now)
      (state_of g.I.Importer.importer c.args.backend.now)
      c.new-wire.result c.new-wire.ensures;
  more = rw c.new-wire.ensures (lit< tt);
  covered = c.requires;
  offer = refl;
  lent = record { pass = refl; importer = refl };
}
