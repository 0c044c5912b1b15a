use Rattle.std.proofs.Common.{◌≡◌, ◌-◌, ◌++◌, ◌∷◌, [], drop, set, get_or, length, sym, ap, subst, ◌∙◌, arith}
use Rattle.std.proofs.lemmas.List.{length-append}
use Rattle.tally_rows.specs.Row.{row_of}
use Rattle.segment_blocks.specs.declared.mark.Mark.{Mark}
use Rattle.segment_blocks.specs.Encoded.{Encoded, IsAppended, IsMarkOf, single_of}
use Rattle.segment_blocks.specs.Prefix.{common_len}
use Rattle.segment_blocks.proofs.AppendLemmas.{encoded, set-last, get-last, Added-game}
use Rattle.segment_blocks.proofs.encoded_rows.EncodedRows.push_game.Goals as goal

pub returns-clause-ok : goal.returns-clause-ok
returns-clause-ok c before row outcome key_is same told is =
    let e = c.self.inside in
    let given = c.args.mark.now in
    let number = c.args.number in
    let mark = c.renumber.new.mark in
    let shared = c.args.shared in
    let key : c.args.key.now ≡ row.key = sym key_is in
    let long : length row.key ≡ 34 = subst (λ k. length k ≡ 34) key c.in_ok-push_end.ensures.long in
    let pushed : c.push_reserved.new.self.items ≡ e.marks.items ++ given ∷ [] =
    c.push_reserved.ensures.items ∙ ap (λ l. l ++ given ∷ []) c.reserve.ensures.items in
    let at : c.len-at.result - 1 ≡ length e.marks.items =
    omega (arith, c.len-at.ensures, c.push_reserved.new.self.ok, ap length pushed, length-append e.marks.items (given ∷ [])) in
    let was : c.index_mut.result.now ≡ given =
    c.index_mut.ensures.value ∙ (λ i. get_or (pushed i) (at i) c.index_mut.result.now) ∙ get-last e.marks.items given c.index_mut.result.now in
    let marks : set c.push_reserved.new.self.items (c.len-at.result - 1) mark ≡ e.marks.items ++ mark ∷ [] =
    (λ i. set (pushed i) (at i) mark) ∙ set-last e.marks.items given mark in
    let tails : c.push_end.new.tails.items ≡ e.tails.items ++ drop shared row.key =
    c.in_ok-push_end.ensures.items ∙ ap (λ k. e.tails.items ++ drop shared k) key in
    let is_mark : IsMarkOf row shared mark = record {
      at = c.renumber.ensures.shared;
      outcome = outcome;
      told = c.renumber.ensures.outcome ∙ ap (λ (m : Mark). m.outcome) was ∙ told;
      is = ap row_of (c.renumber.ensures.single row.key outcome ∙ (λ i. record (single_of (key_is i) (was i) outcome) { number = number })) ∙ is;
    } in
    let old = encoded e.marks.items e.tails.items e.whole.items in
    let added = Added-game before row e.marks.items mark e.tails.items e.whole.items c.self.invariant shared long c.requires.shared (same ∙ ap (common_len before) key) is_mark in
    let here : IsAppended before row old (encoded (set c.push_reserved.new.self.items (c.len-at.result - 1) mark) c.push_end.new.tails.items e.whole.items) =
    subst (λ (new : Encoded). IsAppended before row old new) (λ i. encoded (sym marks i) (sym tails i) e.whole.items) added.rows in
    subst (λ (old : Encoded). IsAppended before row old (encoded (set c.push_reserved.new.self.items (c.len-at.result - 1) mark) c.push_end.new.tails.items e.whole.items)) c.self.view_is here
