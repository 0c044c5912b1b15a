use Rattle.std.proofs.Common.{◌≡◌, ◌++◌, ◌∷◌, [], ap, subst, ◌∙◌}
use Rattle.segment_blocks.specs.Encoded.{Encoded, IsAppended}
use Rattle.segment_blocks.proofs.AppendLemmas.{encoded, Added-whole}
use Rattle.segment_blocks.proofs.encoded_rows.EncodedRows.push_row.Goals as goal

pub returns-clause-ok : goal.returns-clause-ok
returns-clause-ok c before is =
    let e = c.self.inside in
    let row = c.args.row in
    let mark = c.whole_mark.result in
    let marks : c.push_reserved.new.self.items ≡ e.marks.items ++ mark ∷ [] =
    c.push_reserved.ensures.items ∙ ap (λ l. l ++ mark ∷ []) c.reserve.ensures.items in
    let whole : c.push.new.self.items ≡ e.whole.items ++ row ∷ [] = c.in_ok-push.ensures.items in
    let old = encoded e.marks.items e.tails.items e.whole.items in
    let new = encoded c.push_reserved.new.self.items e.tails.items c.push.new.self.items in
    let added = Added-whole before row e.marks.items mark e.tails.items e.whole.items c.self.invariant c.whole_mark.ensures.outcome (c.whole_mark.ensures.shared ∙ is) in
    let here : IsAppended before row old new = rw (marks, whole) added.rows in
    subst (λ (old : Encoded). IsAppended before row old new) c.self.view_is here
