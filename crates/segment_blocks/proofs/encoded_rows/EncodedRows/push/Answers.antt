use Rattle.std.proofs.Common.{◌≡◌, ◌-◌, ◌++◌, ◌∷◌, [], take, drop, length, ap, subst, ◌∙◌, arith}
use Rattle.std.proofs.lemmas.List.{take_all, length-drop}
use Rattle.segment_blocks.specs.HeldRow.{row_in}
use Rattle.segment_blocks.specs.Encoded.{Encoded, IsAppended}
use Rattle.segment_blocks.specs.Prefix.{common_len}
use Rattle.segment_blocks.proofs.AppendLemmas.{encoded, Added-game, Added-whole}
use Rattle.segment_blocks.proofs.encoded_rows.EncodedRows.push.Goals as goal

pub returns-in_ok-extend_from_slice-clause-ok : goal.returns-in_ok-extend_from_slice-clause-ok
returns-in_ok-extend_from_slice-clause-ok c =
    let e = c.self.inside in
    let before = c.args.before.now in
    let row = row_in c.args.held.now in
    let mark = c.in-Some.mark in
    let shared = c.shared_len-shared.result in
    let s = c.shared_len-shared.ensures in
    let key = c.key-key.ensures in
    let long = subst (λ k. length k ≡ 34) key s.long in
    let own : take (34 - shared) (drop shared row.key) ≡ drop shared row.key =
    take_all (34 - shared) (drop shared row.key) (omega (arith, length-drop shared row.key, long)) in
    let tails : c.extend_from_slice.new.self.items ≡ e.tails.items ++ drop shared row.key =
    c.in_ok-extend_from_slice.ensures.items ∙ (λ i. e.tails.items ++ take (34 - c.from.ensures i) (drop (c.from.ensures i) (key i)))
    ∙ ap (λ l. e.tails.items ++ l) own in
    let marks : c.push_reserved.new.self.items ≡ e.marks.items ++ mark ∷ [] =
    c.push_reserved.ensures.items ∙ ap (λ l. l ++ mark ∷ []) c.reserve.ensures.items in
    let old = encoded e.marks.items e.tails.items e.whole.items in
    let new = encoded c.push_reserved.new.self.items c.extend_from_slice.new.self.items e.whole.items in
    let added = Added-game before row e.marks.items mark e.tails.items e.whole.items c.self.invariant shared long s.within (s.is ∙ ap (common_len before) key) c.in-Some.ensures in
    let here : IsAppended before row old new = rw (marks, tails) added.rows in
    subst (λ (old : Encoded). IsAppended before row old new) c.self.view_is here

pub returns-in_ok-push-clause-ok : goal.returns-in_ok-push-clause-ok
returns-in_ok-push-clause-ok c =
    let e = c.self.inside in
    let before = c.args.before.now in
    let row = row_in c.args.held.now in
    let mark = c.whole_mark.result in
    let marks : c.push_reserved-in_default.new.self.items ≡ e.marks.items ++ mark ∷ [] =
    c.push_reserved-in_default.ensures.items ∙ ap (λ l. l ++ mark ∷ []) c.reserve.ensures.items in
    let whole : c.push.new.self.items ≡ e.whole.items ++ row ∷ [] =
    c.in_ok-push.ensures.items ∙ ap (λ r. e.whole.items ++ r ∷ []) c.to_row.ensures in
    let old = encoded e.marks.items e.tails.items e.whole.items in
    let new = encoded c.push_reserved-in_default.new.self.items e.tails.items c.push.new.self.items in
    let added = Added-whole before row e.marks.items mark e.tails.items e.whole.items c.self.invariant c.whole_mark.ensures.outcome (c.whole_mark.ensures.shared ∙ c.shared_len-shared.ensures.is ∙ ap (common_len before) c.key-key.ensures) in
    let here : IsAppended before row old new = rw (marks, whole) added.rows in
    subst (λ (old : Encoded). IsAppended before row old new) c.self.view_is here
