use Rattle.std.proofs.Common.{refl, sym, ap, subst, ◌∙◌}
use Rattle.segment_blocks.specs.Encoded.{rows_behind, HasOwnKey}
use Rattle.segment_blocks.specs.Prefix.{TellSharedBehind}
use Rattle.segment_blocks.proofs.EncodedLemmas.{own-known, rows_behind-own, own-behind, rows_behind-taken, own-taken}
use Rattle.segment_blocks.proofs.block_cursor.Place.make_ready.Goals as goal

pub complete-requires-clause-is_own : goal.complete-requires-clause-is_own
complete-requires-clause-is_own c h =
    let p = c.args.self.now in
    own-known p.before c.in_ok-mark.mark.now p.tails.now p.marks.now c.in_ok-mark._marks.now c.in_ok-mark.ensures.cases.0 p.whole.now c.in-Some._outcome c.in-Some.is
    (c.requires.filled.own (c.requires.known h))

pub returns-in-Some-clause-rows : goal.returns-in-Some-clause-rows
returns-in-Some-clause-rows c =
    let p = c.args.self.now in
    let mark = c.in_ok-mark.mark.now in
    ap (λ k. rows_behind p.marks.now k p.tails.now p.whole.now) c.complete.ensures
    ∙ rows_behind-own p.before mark p.tails.now p.marks.now c.in_ok-mark._marks.now c.in_ok-mark.ensures.cases.0 p.whole.now c.in-Some._outcome
    c.in-Some.is c.key-before.ensures.long mark.in_key

pub returns-in-Some-clause-filled : goal.returns-in-Some-clause-filled
returns-in-Some-clause-filled c =
    let p = c.args.self.now in
    let mark = c.in_ok-mark.mark.now in
    let same =
    ap (λ k. rows_behind p.marks.now k p.tails.now p.whole.now) c.complete.ensures
    ∙ rows_behind-own p.before mark p.tails.now p.marks.now c.in_ok-mark._marks.now c.in_ok-mark.ensures.cases.0 p.whole.now c.in-Some._outcome
    c.in-Some.is c.key-before.ensures.long mark.in_key in
    record {
      filled = c.requires.filled.filled;
      own = λ h. subst (λ k. HasOwnKey k (rows_behind p.marks.now k p.tails.now p.whole.now)) (sym c.complete.ensures)
          (own-behind p.before mark p.tails.now p.marks.now c.in_ok-mark._marks.now c.in_ok-mark.ensures.cases.0 p.whole.now c.in-Some._outcome
          c.in-Some.is c.key-before.ensures.long mark.in_key);
      told = subst (λ r. TellSharedBehind p.marks.now r) (sym same) c.requires.filled.told;
    }

pub returns-clause-rows : goal.returns-clause-rows
returns-clause-rows c =
    let p = c.args.self.now in
    ap (λ k. rows_behind p.marks.now k p.tails.now p.whole.now) c.take_key.ensures
    ∙ rows_behind-taken p.before c.in_ok-mark.mark.now p.tails.now p.marks.now c.in_ok-mark._marks.now c.in_ok-mark.ensures.cases.0 p.whole.now c.in_ok-row.row.now
    c.in_ok-row._whole.now c.in_default.is c.in_ok-row.ensures.cases.0

pub returns-clause-filled : goal.returns-clause-filled
returns-clause-filled c =
    let p = c.args.self.now in
    let row = c.in_ok-row.row.now in
    let same =
    ap (λ k. rows_behind p.marks.now k p.tails.now p.whole.now) c.take_key.ensures
    ∙ rows_behind-taken p.before c.in_ok-mark.mark.now p.tails.now p.marks.now c.in_ok-mark._marks.now c.in_ok-mark.ensures.cases.0 p.whole.now row
    c.in_ok-row._whole.now c.in_default.is c.in_ok-row.ensures.cases.0 in
    record {
      filled = c.requires.filled.filled;
      own = λ h. subst (λ k. HasOwnKey k (rows_behind p.marks.now k p.tails.now p.whole.now)) (sym c.take_key.ensures)
          (own-taken p.before c.in_ok-mark.mark.now p.tails.now p.marks.now c.in_ok-mark._marks.now c.in_ok-mark.ensures.cases.0 p.whole.now row
          c.in_ok-row._whole.now c.in_default.is c.in_ok-row.ensures.cases.0);
      told = subst (λ r. TellSharedBehind p.marks.now r) (sym same) c.requires.filled.told;
    }

pub returns-in-Some-clause-told : goal.returns-in-Some-clause-told
returns-in-Some-clause-told c =
    record { mark = c.in_ok-mark.mark.now; rest = c.in_ok-mark._marks.now; is = c.in_ok-mark.ensures.cases.0; told = refl }

pub returns-clause-told : goal.returns-clause-told
returns-clause-told c =
    record { mark = c.in_ok-mark.mark.now; rest = c.in_ok-mark._marks.now; is = c.in_ok-mark.ensures.cases.0; told = refl }
