use Rattle.std.proofs.Common.{◌≡◌, [], ◌∷◌, ◌-◌, drop, sym, ap, subst, ◌∙◌, true≢false}
use Rattle.tally_rows.specs.Row.{row_of}
use Rattle.segment_blocks.specs.Encoded.{own_len, key_behind, single_of, rows_behind}
use Rattle.segment_blocks.specs.Prefix.{TellSharedBehind}
use Rattle.segment_blocks.proofs.EncodedLemmas.{rows_behind-nil, rows_behind-game, rows_behind-whole, own-known}
use Rattle.segment_blocks.proofs.PlaceLemmas.{filled-game, filled-whole, told-game, told-whole}
use Rattle.segment_blocks.proofs.PrefixLemmas.{TellShared-behind}
use Rattle.segment_blocks.proofs.block_cursor.BlockCursor.next.Goals as goal

pub returns-in_err-mark : goal.returns-in_err-mark
returns-in_err-mark c =
    let none : c.args.self.now ≡ [] = sym c.self.view_is ∙ rows_behind-nil _ _ _ _ c.in_err-mark.ensures.cases in
    rw c.from_residual.ensures (none, none)

pub complete-requires-clause-is_own : goal.complete-requires-clause-is_own
complete-requires-clause-is_own c h =
    let p = c.self.inside.place in
    own-known p.before c.in_ok-mark.mark.now p.tails.now p.marks.now c.in_ok-mark.marks.now c.in_ok-mark.ensures.cases.0 p.whole.now c.in-Some.outcome c.in-Some.is
    (c.self.invariant.own h)

pub returns-in-Some : goal.returns-in-Some
returns-in-Some c =
    let p = c.self.inside.place in
    let mark = c.in_ok-mark.mark.now in
    let key : key_behind p.before mark p.tails.now ≡ c.complete.new.key = sym c.complete.ensures in
    let rest : drop (own_len mark) p.tails.now ≡ c.split_at.result.1.now =
    sym (c.split_at.ensures.back ∙ ap (λ n. drop (34 - n) p.tails.now) c.from.ensures) in
    let row = ap row_of c.single_of.ensures ∙ ap (λ k. row_of (single_of k mark c.in-Some.outcome)) c.key.ensures.key in
    sym c.self.view_is
    ∙ rows_behind-game mark p.marks.now c.in_ok-mark.marks.now p.before p.tails.now p.whole.now c.in_ok-mark.ensures.cases.0 c.in-Some.outcome c.in-Some.is
    ∙ (λ i. row_of (single_of (key i) mark c.in-Some.outcome) ∷ rows_behind c.in_ok-mark.marks.now (key i) (rest i) p.whole.now)
    ∙ ap (λ r. r ∷ rows_behind c.in_ok-mark.marks.now c.complete.new.key c.split_at.result.1.now p.whole.now) (sym row)

pub returns-in_ok-row : goal.returns-in_ok-row
returns-in_ok-row c =
    let p = c.self.inside.place in
    let mark = c.in_ok-mark.mark.now in
    let row = c.in_ok-row.row.now in
    sym c.self.view_is
    ∙ rows_behind-whole mark p.marks.now c.in_ok-mark.marks.now p.before p.tails.now p.whole.now c.in_ok-mark.ensures.cases.0 row c.in_ok-row.whole.now c.in_default.is c.in_ok-row.ensures.cases.0
    ∙ (λ i. row ∷ rows_behind c.in_ok-mark.marks.now (sym c.of-self-inside.ensures i) p.tails.now c.in_ok-row.whole.now)

pub invariant_of-self : goal.invariant_of-self
invariant_of-self c =
    let p = c.self.inside.place in
    let mark = c.in_ok-mark.mark.now in
    let marks = c.in_ok-mark.marks.now in
    let key = c.complete.new.key in
    let ends = c.split_at.result.1.now in
    let rest : drop (own_len mark) p.tails.now ≡ ends =
    sym (c.split_at.ensures.back ∙ ap (λ n. drop (34 - n) p.tails.now) c.from.ensures) in
    record {
      filled = filled-game mark p.marks.now marks c.in_ok-mark.ensures.cases.0 p.before p.tails.now p.whole.now c.in-Some.outcome c.in-Some.is key ends
          (sym c.complete.ensures) rest c.self.invariant.filled;
      own = λ h. absurd (true≢false (sym h));
      told = TellShared-behind key marks (rows_behind marks key ends p.whole.now)
          (told-game mark p.marks.now marks c.in_ok-mark.ensures.cases.0 p.before p.tails.now p.whole.now c.in-Some.outcome c.in-Some.is key ends
          (sym c.complete.ensures) rest c.self.invariant.told);
    }

pub invariant_of-self-in_default : goal.invariant_of-self-in_default
invariant_of-self-in_default c =
    let p = c.self.inside.place in
    let mark = c.in_ok-mark.mark.now in
    let marks = c.in_ok-mark.marks.now in
    let row = c.in_ok-row.row.now in
    let others = c.in_ok-row.whole.now in
    record {
      filled = filled-whole mark p.marks.now marks c.in_ok-mark.ensures.cases.0 p.before p.tails.now p.whole.now row others c.in_default.is
          c.in_ok-row.ensures.cases.0 c.self.invariant.filled;
      own = λ h. absurd (true≢false (sym h));
      told = subst (λ k. TellSharedBehind marks (rows_behind marks k p.tails.now others)) (sym c.of-self-inside.ensures)
          (TellShared-behind row.key marks (rows_behind marks row.key p.tails.now others)
          (told-whole mark p.marks.now marks c.in_ok-mark.ensures.cases.0 p.before p.tails.now p.whole.now row others c.in_default.is
          c.in_ok-row.ensures.cases.0 c.self.invariant.told));
    }
