use Rattle.std.proofs.Common.{◌≡◌, ◌+◌, Bool, false, List, [], length, take, drop, replicate, refl, sym, ap, ◌∙◌, subst, arith, true≢false}
use Rattle.std.proofs.Math.Seq.{take-length}
use Rattle.std.proofs.lemmas.List.{length-replicate, take_at}
use Rattle.tally_rows.specs.declared.row.Row.{Row}
use Rattle.spill_blobs.specs.SoundRows.{numbers_in, AreDifferent}
use Rattle.spill_blobs.proofs.DistinctLemmas.{IsMarked, none-different, none-marked, row-more, row-none}
use Rattle.spill_blobs.proofs.distinct.are_recents_different.Goals as goal

pub loop-row-init : goal.loop-row-init
loop-row-init c =
    let items : c.in_ok-marked.marked.items ≡ replicate c.args.n false = c.in_ok-marked.ensures.items_if_clones_equal (λ y h. h) in
    record {
      size = ap (λ l. length l) items ∙ length-replicate {A = Bool} c.args.n false;
      marked = subst (λ (m : List Bool). IsMarked m []) (sym items) (none-marked c.args.n, none-different);
    }

pub loop-row-preserved : goal.loop-row-preserved
loop-row-preserved c =
    let l = c.loop-row in
    let rows = c.args.rows.now in
    let new = c.mark_all.new.marked in
    let value = c.deref_mut.ensures.value in
    let same : length new ≡ l.marked.len = omega (arith, c.mark_all.auto.marked, c.deref_mut.ensures.len) in
    let back = take_at new (drop (length new) l.marked.items) l.marked.len same in
    record {
      size = ap (λ m. length m) back ∙ omega (arith, c.mark_all.auto.marked, ap (λ m. length m) value, l.invariant.size);
      marked = subst (λ (m : List Bool). IsMarked m (numbers_in (λ (r : Row). r.recent) (take (l.row-index + 1) rows))) (sym back)
          (row-more (λ (r : Row). r.recent) rows l.row-index c.row-item.result c.loop-row-test.true c.row-item.is c.deref_mut.result.now l.marked.items new
          c.mark_all.result c.entries.result.now value c.entries.ensures.entries c.mark_all.ensures c.if-not-mark_all.false l.invariant.marked);
    }

pub returns-then-not-mark_all : goal.returns-then-not-mark_all
returns-then-not-mark_all c =
    let l = c.loop-row in (
      λ h. absurd (true≢false (sym h)),
      λ different. absurd (row-none (λ (r : Row). r.recent) c.args.rows.now l.row-index c.row-item.result c.loop-row-test.true c.row-item.is
          c.deref_mut.result.now l.marked.items c.mark_all.new.marked c.mark_all.result c.entries.result.now c.deref_mut.ensures.value c.entries.ensures.entries
          c.mark_all.ensures c.if-not-mark_all.true l.invariant.marked different),
    )

pub returns : goal.returns
returns c =
    let l = c.loop-row in
    let rows = c.args.rows.now in
    let all : l.row-index ≡ length rows = omega (arith, l.auto.row-index-end, c.loop-row-test.false) in (
      λ h. subst (λ (rs : List Row). AreDifferent (numbers_in (λ row. row.recent) rs)) (ap (λ k. take k rows) all ∙ take-length rows) l.invariant.marked.1,
      λ different. refl,
    )
