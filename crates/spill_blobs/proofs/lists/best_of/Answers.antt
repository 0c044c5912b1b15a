use Rattle.std.proofs.Common.{◌≡◌, ◌++◌, length, take, get_or, sym, ap, ◌∙◌, arith}
use Rattle.std.proofs.Math.Seq.{take-length}
use Rattle.explorer_model.specs.Best.{best}
use Rattle.spill_blobs.proofs.ListLemmas.{at-place, best-more, best-none, no_entry}
use Rattle.spill_blobs.proofs.lists.best_of.Goals as goal

pub loop-entry-init : goal.loop-entry-init
loop-entry-init g c = c.empty-list.ensures ∙ sym (best-none g.O.Ranking.before)

pub loop-entry-preserved : goal.loop-entry-preserved
loop-entry-preserved g c =
    let l = c.loop-entry in
    let entries = c.args.entries.now in
    best-more g.O.Ranking.before c.best_of_both.ensures entries l.entry-index (get_or entries l.entry-index no_entry) l.list c.join-list.result
    c.loop-entry-test.true (at-place entries l.entry-index c.loop-entry-test.true) l.invariant
    (c.join-list.ensures ∙ ap (λ e. best g.O.Ranking.before 4 (l.list ++ e)) c.one.ensures)

pub returns : goal.returns
returns g c =
    let l = c.loop-entry in
    let entries = c.args.entries.now in
    let all : l.entry-index ≡ length entries = omega (arith, l.auto.entry-index-end, c.loop-entry-test.false) in
    l.invariant ∙ ap (best g.O.Ranking.before 4) (ap (λ k. take k entries) all ∙ take-length entries)
