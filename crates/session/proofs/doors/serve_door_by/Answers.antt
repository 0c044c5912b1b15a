use Rattle.std.proofs.Common.{refl, subst, ◌∙◌}
use Rattle.session.specs.Backends.{state_of}
use Rattle.session.specs.Readers.{offer_of}
use Rattle.session.specs.Replies.{Offer}
use Rattle.session.specs.Serving.{Served}
use Rattle.session.proofs.DoorLemmas.{faults-stay, served-more, served-none}
use Rattle.session.proofs.doors.serve_door_by.Goals as goal

pub accepting-init : goal.accepting-init
accepting-init g c = record { served = served-none _ _ _; faults = refl; covered = c.requires; offer = refl; lent = record { pass = refl; importer = refl } }

pub accepting-preserved : goal.accepting-preserved
accepting-preserved g c =
    let accepts = rw c.in-Ok-Some.field-0-is at c.in-Ok-Some.ensures.next in
    let before = state_of g.I.Importer.importer c.args.backend.now in
    let middle = state_of g.I.Importer.importer c.accepting.backend in
    let after = state_of g.I.Importer.importer c.serve_by.new.backend in
    let came = g.D.Link.Source.source c.in-Ok-Some.link in
    let went = g.D.Link.Source.source c.serve_by.new.link in
    let served = subst (λ (offer : Offer). Served offer came middle c.serve_by.result went after)
    c.accepting.invariant.offer c.serve_by.ensures.served in
    let stay = faults-stay came went
    (g.D.Door.door c.accepting.door) (g.D.Door.door c.accept.new.self) (g.D.Door.door c.finish.new.self) accepts c.finish.ensures in
    record {
      served = served-more (offer_of c.args.reader.now) (g.D.Door.door c.args.door.now) before (g.D.Door.door c.accepting.door) middle
          came (g.D.Door.door c.accept.new.self) went c.serve_by.result (g.D.Door.door c.finish.new.self) after
          c.accepting.invariant.served accepts served c.finish.ensures;
      faults = stay ∙ c.accepting.invariant.faults;
      covered = c.serve_by.ensures.covered;
      offer = c.serve_by.ensures.offer ∙ c.accepting.invariant.offer;
      lent = record {
        pass = c.serve_by.ensures.lent.pass ∙ c.accepting.invariant.lent.pass;
        importer = c.serve_by.ensures.lent.importer ∙ c.accepting.invariant.lent.importer;
      };
    }
