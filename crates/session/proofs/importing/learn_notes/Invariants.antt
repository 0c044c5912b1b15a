use Rattle.std.proofs.Common.{◌≡◌}
use Rattle.explorer_model.specs.Timeline.{IsPrefix}
use Rattle.session.specs.Replies.{readings_of}
use Rattle.session.proofs.KnownNotes.{Knows}
use Rattle.session.proofs.importing.learn_notes.Given as goal

abbrev pub invariant-loop-note : goal.invariant-loop-note
invariant-loop-note g l = record {
  knows : Knows (λ note. note) l.fn.notes.items l.rest.items l.pass.seen;
  grew : IsPrefix l.fn.pass.seen l.pass.seen;
  readings : readings_of l.pass ≡ readings_of l.fn.pass;
}

abbrev pub decreases-loop-note : goal.decreases-loop-note
decreases-loop-note g l = goal.left-loop-note g l
