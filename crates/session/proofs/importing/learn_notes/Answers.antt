use Rattle.explorer_model.proofs.Timelines.{prefix-trans}
use Rattle.session.proofs.KnownNotes.{knows-more}
use Rattle.session.proofs.importing.learn_notes.Goals as goal

pub loop-note-preserved : goal.loop-note-preserved
loop-note-preserved g c =
    let l = c.learn.ensures in
    record {
      knows = knows-more (λ note. note) c.args.notes.items c.loop-note.rest.items c.pop.new.self.items c.in-Some.note c.loop-note.pass.seen c.learn.new.self.seen c.in-Some.ensures.items l.before l.told c.loop-note.invariant.knows;
      grew = prefix-trans c.args.pass.now.seen c.loop-note.pass.seen c.learn.new.self.seen c.loop-note.invariant.grew l.before;
      readings = rw (l.entered, l.unread) c.loop-note.invariant.readings;
    }
