use Rattle.std.proofs.Common.{List, map, sym, ap, ◌∙◌, subst}
use Rattle.std.specs.Arc.{arc_value}
use Rattle.segment_blocks.specs.Segment.{CountedSpan}
use Rattle.published_index.specs.Changes.{JoinAt}
use Rattle.ingest_desk.specs.Installs.{AreGone, StandAt, place_of}
use Rattle.ingest_desk.specs.Stored.{Stored}
use Rattle.ingest_desk.proofs.KeptLemmas.{kept_index, made, not_behind}
use Rattle.ingest_desk.proofs.PickingLemmas.{may_install}
use Rattle.ingest_desk.proofs.ingest.Ingest.replace.Goals as goal

pub returns-in_default-clause-installs : goal.returns-in_default-clause-installs
returns-in_default-clause-installs g c =
    let old = c.args.self.now.index in
    let job = c.args.job.now in
    let caught = sym (not_behind old c.requires.none_held) in
    let same = ap (λ (s : Stored g.row.D.Denot). s.index.list) c.find.ensures.same in
    let here = ap (λ (s : Stored g.row.D.Denot). s.index.list) c.self.view_is in
    let P : List CountedSpan → Type 0 = λ list. AreGone list job.left.span job.right.span in
    record {
      gone = subst P caught c.in_default.ensures.place;
      same = same ∙ caught;
      none_held = ap (λ (s : Stored g.row.D.Denot). s.index.held) c.find.ensures.same ∙ c.requires.none_held;
      spans_are = c.spans_of.ensures
          ∙ ap (map place_of) (c.segments.ensures.segments ∙ c.list.ensures.list ∙ here ∙ same ∙ caught);
    }

pub replace-requires-clause-both : goal.replace-requires-clause-both
replace-requires-clause-both g c =
    let job = c.args.job.now in
    let at = c.in-Some.at in
    let shared = arc_value c.in-Ok.shared in
    let here = ap (λ (s : Stored g.row.D.Denot). s.index.list) (c.self.view_is ∙ c.find.ensures.same) in
    let P : List CountedSpan → Type 0 = λ list. StandAt list at job.left.span job.right.span in
    may_install c.self.inside.publisher.list at job.left.span job.right.span shared
    (subst P (sym here) c.in-Some.ensures.place)
    (ap (λ (x : CountedSpan). x.span) c.in-Ok.ensures.ok ∙ c.requires.both)

pub invariant_of-self : goal.invariant_of-self
invariant_of-self g c =
    let s = c.self in
    let d = g.D.Disk in
    let old = s.inside.publisher in
    let none = ap (λ (v : Stored g.row.D.Denot). v.index.held) (s.view_is ∙ c.find.ensures.same)
    ∙ c.requires.none_held in
    kept_index d.disk d.left_since s.inside.manifest old c.replace.new.self s.inside.register s.invariant
    (made old c.replace.new.self (JoinAt c.in-Some.at (arc_value c.in-Ok.shared)) c.replace.result none c.replace.ensures)
