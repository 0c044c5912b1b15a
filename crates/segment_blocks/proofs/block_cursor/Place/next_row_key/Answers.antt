use Rattle.std.proofs.Common.{◌≡◌, [], Some, sym, ap, ◌∙◌}
use Rattle.segment_blocks.specs.Encoded.{key_behind, row_key_at}
use Rattle.segment_blocks.specs.Moving.{next_row_key}
use Rattle.segment_blocks.specs.Place.{rows_left}
use Rattle.segment_blocks.proofs.EncodedLemmas.{rows_behind-nil, rows_behind-game, rows_behind-whole, own-known}
use Rattle.segment_blocks.proofs.MovingLemmas.{row_key-game}
use Rattle.segment_blocks.proofs.block_cursor.Place.next_row_key.Goals as goal

pub returns-in_err-mark : goal.returns-in_err-mark
returns-in_err-mark c =
    let none : rows_left c.args.self.now ≡ [] = rows_behind-nil _ _ _ _ c.in_err-mark.ensures.cases in
    c.from_residual.ensures ∙ ap next_row_key (sym none)

pub returns-then-self : goal.returns-then-self
returns-then-self c =
    let p = c.args.self.now in
    let mark = c.in_ok-mark.mark.now in
    let outcome = c.in-Some._outcome in
    let key : c.key.result.now ≡ key_behind p.before mark p.tails.now =
    c.key.ensures.key ∙ sym (own-known p.before mark p.tails.now p.marks.now c.in_ok-mark._marks.now c.in_ok-mark.ensures.cases.0 p.whole.now outcome c.in-Some.is (c.requires.own c.if-self.true)) in
    ap Some (c.row_key_at.ensures ∙ ap (λ k. row_key_at k mark) key ∙ sym (row_key-game (key_behind p.before mark p.tails.now) mark outcome))
    ∙ ap next_row_key (sym (rows_behind-game mark p.marks.now c.in_ok-mark._marks.now p.before p.tails.now p.whole.now c.in_ok-mark.ensures.cases.0 outcome c.in-Some.is))

pub returns-in-Some : goal.returns-in-Some
returns-in-Some c =
    let p = c.args.self.now in
    let mark = c.in_ok-mark.mark.now in
    let outcome = c.in-Some._outcome in
    ap Some (c.row_key_at-in-Some.ensures ∙ ap (λ k. row_key_at k mark) c.key_behind-key.ensures ∙ sym (row_key-game (key_behind p.before mark p.tails.now) mark outcome))
    ∙ ap next_row_key (sym (rows_behind-game mark p.marks.now c.in_ok-mark._marks.now p.before p.tails.now p.whole.now c.in_ok-mark.ensures.cases.0 outcome c.in-Some.is))

pub returns : goal.returns
returns c =
    let p = c.args.self.now in
    let mark = c.in_ok-mark.mark.now in
    let row = c.in_ok-row.row.now in
    ap Some c.row_key.ensures
    ∙ ap next_row_key (sym (rows_behind-whole mark p.marks.now c.in_ok-mark._marks.now p.before p.tails.now p.whole.now c.in_ok-mark.ensures.cases.0 row c.in_ok-row._whole.now c.in_default.is c.in_ok-row.ensures.cases.0))
