use Rattle.std.proofs.Common.{◌≡◌, List, None, sym, ap, ◌∙◌, subst}
use Rattle.std.specs.Arc.{arc_value}
use Rattle.std.specs.Prelude.{MatchOption}
use Rattle.explorer_model.specs.declared.archive.Batch.{Batch}
use Rattle.explorer_model.specs.Timeline.{IsPrefix}
use Rattle.segment_blocks.specs.Segment.{CountedSpan}
use Rattle.published_index.specs.Cover.{IsList, journal_of}
use Rattle.published_index.specs.States.{Publishing}
use Rattle.ingest_desk.specs.Installs.{AreGone, StandAt}
use Rattle.ingest_desk.specs.Jobs.{StandsIn}
use Rattle.ingest_desk.proofs.JobLemmas.{stands_longer}
use Rattle.ingest_desk.proofs.KeptLemmas.{listed}
use Rattle.ingest_desk.proofs.ingest.Ingest.find.Goals as goal

pub place_of-requires-clause-list : goal.place_of-requires-clause-list
place_of-requires-clause-list g c =
    subst IsList (sym c.segments.ensures.segments) c.segments.ensures.list

pub place_of-requires-clause-left : goal.place_of-requires-clause-left
place_of-requires-clause-left g c =
    let index = c.self.inside.publisher in
    let none : index.held ≡ None = rw (← c.self.view_is) at c.requires in
    let job = c.job.inside in
    let same = c.segments.ensures.segments ∙ c.list.ensures.list
    ∙ ap (λ (p : Publishing). p.list) c.confirm_note.ensures.same in
    let begins : IsPrefix job.note (journal_of index.list) =
    subst (λ (j : List Batch). IsPrefix job.note j) (listed index none) c.confirm_note.ensures.told in
    let span = (arc_value job.left).span in
    let stands = stands_longer job.note (journal_of index.list) span begins c.job.invariant.0 in
    rw c.deref.ensures (subst (λ (l : List CountedSpan). StandsIn (journal_of l) span) (sym same) stands)

pub place_of-requires-clause-right : goal.place_of-requires-clause-right
place_of-requires-clause-right g c =
    let index = c.self.inside.publisher in
    let none : index.held ≡ None = rw (← c.self.view_is) at c.requires in
    let job = c.job.inside in
    let same = c.segments.ensures.segments ∙ c.list.ensures.list
    ∙ ap (λ (p : Publishing). p.list) c.confirm_note.ensures.same in
    let begins : IsPrefix job.note (journal_of index.list) =
    subst (λ (j : List Batch). IsPrefix job.note j) (listed index none) c.confirm_note.ensures.told in
    let span = (arc_value job.right).span in
    let stands = stands_longer job.note (journal_of index.list) span begins c.job.invariant.1 in
    rw c.deref-2.ensures (subst (λ (l : List CountedSpan). StandsIn (journal_of l) span) (sym same) stands)

pub returns-clause-place : goal.returns-clause-place
returns-clause-place g c =
    let index = c.self.inside.publisher in
    let job = c.job.inside in
    let same = c.segments.ensures.segments ∙ c.list.ensures.list
    ∙ ap (λ (p : Publishing). p.list) c.confirm_note.ensures.same in
    let left = ap (λ (x : CountedSpan). x.span) c.deref.ensures in
    let right = ap (λ (x : CountedSpan). x.span) c.deref-2.ensures in
    let P : List CountedSpan → Type 0 = λ list.
    MatchOption c.place_of.result (AreGone list (arc_value job.left).span (arc_value job.right).span)
    (λ at. StandAt list at (arc_value job.left).span (arc_value job.right).span) in
    let found = rw (left, right) at c.place_of.ensures in
    rw (← c.self.view_is, ← c.job.view_is) (subst P same found)
