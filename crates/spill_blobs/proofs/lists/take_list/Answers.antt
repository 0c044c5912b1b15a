use Rattle.std.proofs.Common.{refl, sym, ap, ◌∙◌, true≢false}
use Rattle.explorer_model.specs.Best.{best}
use Rattle.spill_blobs.proofs.FieldLemmas.{joined}
use Rattle.spill_blobs.proofs.ListLemmas.{list-none, list-some, no-list}
use Rattle.spill_blobs.proofs.lists.take_list.Goals as goal

pub returns-in_err-entries-clause-none : goal.returns-in_err-entries-clause-none
returns-in_err-entries-clause-none g c =
    rw c.from_residual.ensures
    (no-list g.O.Ranking.before c.args.bytes.now c.split_at.result.0.now c.split_at.result.1.now c.split_at.ensures.front_len
    (joined 33 c.args.bytes.now _ _ _ c.split_at.ensures.front c.split_at.ensures.back refl) c.in_err-entries.ensures.none)

pub returns-else-have_same_entries-clause-none : goal.returns-else-have_same_entries-clause-none
returns-else-have_same_entries-clause-none g c =
    list-none g.O.Ranking.before c.args.bytes.now c.split_at.result.0.now c.split_at.result.1.now c.in_ok-entries.entries.items c.split_at.ensures.front_len
    (joined 33 c.args.bytes.now _ _ _ c.split_at.ensures.front c.split_at.ensures.back refl) c.in_ok-entries.ensures.some.0 c.in_ok-entries.ensures.some.1
    (λ own. true≢false (sym (c.have_same_entries.ensures.1 (c.entries.ensures.entries ∙ c.best_of-list.ensures ∙ ap (best g.O.Ranking.before 4) c.as_slice.ensures.value
    ∙ own ∙ sym c.as_slice-2.ensures.value)) ∙ c.if-have_same_entries.false))

pub returns-then-have_same_entries-clause-some : goal.returns-then-have_same_entries-clause-some
returns-then-have_same_entries-clause-some g c =
    let same = sym c.entries.ensures.entries ∙ c.have_same_entries.ensures.0 c.if-have_same_entries.true ∙ c.as_slice-2.ensures.value in
    let list = list-some g.O.Ranking.before c.args.bytes.now c.split_at.result.0.now c.split_at.result.1.now c.in_ok-entries.entries.items c.best_of-list.result
    (joined 33 c.args.bytes.now _ _ _ c.split_at.ensures.front c.split_at.ensures.back refl) c.in_ok-entries.ensures.some.0 c.in_ok-entries.ensures.some.1 same
    c.entries.ensures.own_best in
    (list.0, list.1, c.split_at.ensures.back_len)
