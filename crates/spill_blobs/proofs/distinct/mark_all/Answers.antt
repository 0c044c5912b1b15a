use Rattle.std.proofs.Common.{◌≡◌, ◌<◌, ◌++◌, List, length, map, take, get_or, sym, ap, ◌∙◌, subst, arith, append-nil}
use Rattle.std.proofs.Math.Seq.{take-length}
use Rattle.best_lists.specs.declared.entry.Entry.{Entry}
use Rattle.spill_blobs.proofs.DistinctLemmas.{IsMarked, mark-step, mark-stop}
use Rattle.spill_blobs.proofs.ListLemmas.{no_entry, at-place}
use Rattle.spill_blobs.proofs.SoundLemmas.{all-at}
use Rattle.spill_blobs.proofs.distinct.mark_all.Goals as goal

pub loop-entry-init : goal.loop-entry-init
loop-entry-init c = λ numbers marks different.
    subst (IsMarked c.args.marked.now) (sym (append-nil numbers)) (marks, different)

pub loop-entry-preserved : goal.loop-entry-preserved
loop-entry-preserved c =
    let l = c.loop-entry in
    let entries = c.args.entries.now in
    let entry = get_or entries l.entry-index no_entry in
    let below : entry.number < length c.args.marked.now =
    all-at (λ (e : Entry). e.number < length c.args.marked.now) entries l.entry-index no_entry c.loop-entry-test.true c.requires in
    λ numbers marks different. mark-step l.marked numbers entries l.entry-index entry c.loop-entry-test.true (at-place entries l.entry-index c.loop-entry-test.true)
    (omega (arith, below, l.auto.marked)) c.if-marked-place.false (l.invariant numbers marks different)

pub returns-then-marked-place : goal.returns-then-marked-place
returns-then-marked-place c =
    let l = c.loop-entry in
    let entries = c.args.entries.now in
    let entry = get_or entries l.entry-index no_entry in
    let below : entry.number < length c.args.marked.now =
    all-at (λ (e : Entry). e.number < length c.args.marked.now) entries l.entry-index no_entry c.loop-entry-test.true c.requires in
    λ numbers marks different. mark-stop l.marked numbers entries l.entry-index entry c.loop-entry-test.true (at-place entries l.entry-index c.loop-entry-test.true)
    (omega (arith, below, l.auto.marked)) c.if-marked-place.true (l.invariant numbers marks different)

pub returns : goal.returns
returns c =
    let l = c.loop-entry in
    let entries = c.args.entries.now in
    let all : l.entry-index ≡ length entries = omega (arith, l.auto.entry-index-end, c.loop-entry-test.false) in
    λ numbers marks different.
    subst (λ (es : List Entry). IsMarked l.marked (numbers ++ map (λ entry. entry.number) es)) (ap (λ k. take k entries) all ∙ take-length entries)
    (l.invariant numbers marks different)
