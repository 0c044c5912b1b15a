use Rattle.std.proofs.Common.{◌≡◌, ◌++◌, ◌∷◌, [], drop, length, sym, ap, subst, ◌∙◌}
use Rattle.tally_rows.specs.Row.{row_of}
use Rattle.segment_blocks.specs.Encoded.{Encoded, IsAppended}
use Rattle.segment_blocks.specs.Prefix.{common_len}
use Rattle.segment_blocks.proofs.AppendLemmas.{encoded, Added-game}
use Rattle.segment_blocks.proofs.EncodedLemmas.{row_of-key}
use Rattle.segment_blocks.proofs.encoded_rows.EncodedRows.push_one.Goals as goal

pub returns-clause-ok : goal.returns-clause-ok
returns-clause-ok c =
    let e = c.self.inside in
    let before = c.args.before.now in
    let game = c.args.game.now in
    let row = row_of game in
    let mark = c.in-Some.mark in
    let shared = c.shared_len-shared.result in
    let s = c.shared_len-shared.ensures in
    let key : game.row_key.key ≡ row.key = sym (row_of-key game) in
    let long = subst (λ k. length k ≡ 34) key s.long in
    let tails : c.push_end.new.tails.items ≡ e.tails.items ++ drop shared row.key =
    c.in_ok-push_end.ensures.items ∙ ap (λ k. e.tails.items ++ drop shared k) (c.of.ensures ∙ key) in
    let marks : c.push_reserved.new.self.items ≡ e.marks.items ++ mark ∷ [] =
    c.push_reserved.ensures.items ∙ ap (λ l. l ++ mark ∷ []) c.reserve.ensures.items in
    let old = encoded e.marks.items e.tails.items e.whole.items in
    let new = encoded c.push_reserved.new.self.items c.push_end.new.tails.items e.whole.items in
    let added = Added-game before row e.marks.items mark e.tails.items e.whole.items c.self.invariant shared long s.within (s.is ∙ ap (common_len before) key) c.in-Some.ensures in
    let here : IsAppended before row old new = rw (marks, tails) added.rows in
    subst (λ (old : Encoded). IsAppended before row old new) c.self.view_is here
