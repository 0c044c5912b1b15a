use Rattle.std.proofs.Common.{◌≡◌, ◌∷◌, sym, ap, subst, ◌∙◌, true≢false, arith}
use Rattle.tally_rows.specs.declared.row.Row.{Row}
use Rattle.segment_blocks.specs.Encoded.{IsAppended, rows_behind}
use Rattle.segment_blocks.specs.Prefix.{common_len, TellShared}
use Rattle.segment_blocks.proofs.EncodedLemmas.{rows_behind-whole, whole-known}
use Rattle.segment_blocks.proofs.MovingLemmas.{shifted-key}
use Rattle.segment_blocks.proofs.PlaceLemmas.{filled-whole, told-whole}
use Rattle.segment_blocks.proofs.PrefixLemmas.{common-within, TellShared-behind}
use Rattle.segment_blocks.proofs.block_cursor.Place.push_whole.Goals as goal

pub push_row-requires : goal.push_row-requires
push_row-requires c =
    omega (arith, c.requires.shared, common-within c.args.last.now c.args.self.now.before, c.key-before.ensures.long)

pub returns-clause-moved : goal.returns-clause-moved
returns-clause-moved c =
    let p = c.args.self.now in
    let by = c.args.lane.by in
    let last = c.args.last.now in
    let mark = c.in-Some._mark.now in
    let marks = c.in-Some.marks.now in
    let is = c.in-Some.ensures.cases.0 in
    let none = c.requires.whole mark marks is in
    let row = c.in-Some-split_first.row.now in
    let others = c.in-Some-split_first.whole.now in
    let whole_is = c.in-Some-split_first.ensures.cases.0 in
    let own : row.key ≡ p.before =
    whole-known p.before mark p.tails.now p.marks.now marks is p.whole.now row others none whole_is (c.requires.filled.own c.requires.own) in
    let moved = c.in-Some-moved_row.ensures in
    let key = ap (λ (r : Row). r.key) moved ∙ shifted-key by row ∙ own in
    record {
      row = row;
      first = rows_behind-whole mark p.marks.now marks p.before p.tails.now p.whole.now is row others none whole_is
          ∙ ap (λ k. row ∷ rows_behind marks k p.tails.now others) own;
      appended = subst (λ (r : Row). IsAppended last r c.args.rows.now c.push_row.new.self) moved
          (c.in_ok-push_row.ensures.ok last (c.requires.shared ∙ ap (common_len last) (sym key)));
      ends = c.key.ensures.key ∙ sym own;
    }

pub returns-clause-behind : goal.returns-clause-behind
returns-clause-behind c =
    let p = c.args.self.now in
    let mark = c.in-Some._mark.now in
    let marks = c.in-Some.marks.now in
    let is = c.in-Some.ensures.cases.0 in
    let none = c.requires.whole mark marks is in
    let row = c.in-Some-split_first.row.now in
    let others = c.in-Some-split_first.whole.now in
    let whole_is = c.in-Some-split_first.ensures.cases.0 in
    let own : row.key ≡ p.before =
    whole-known p.before mark p.tails.now p.marks.now marks is p.whole.now row others none whole_is (c.requires.filled.own c.requires.own) in
    record {
      before = sym c.key.ensures.key;
      told = subst (λ k. TellShared k marks (rows_behind marks p.before p.tails.now others)) (sym c.key.ensures.key)
          (subst (λ k. TellShared k marks (rows_behind marks k p.tails.now others)) own
          (told-whole mark p.marks.now marks is p.before p.tails.now p.whole.now row others none whole_is c.requires.filled.told));
    }

pub returns-clause-filled : goal.returns-clause-filled
returns-clause-filled c =
    let p = c.args.self.now in
    let mark = c.in-Some._mark.now in
    let marks = c.in-Some.marks.now in
    let is = c.in-Some.ensures.cases.0 in
    let none = c.requires.whole mark marks is in
    let row = c.in-Some-split_first.row.now in
    let others = c.in-Some-split_first.whole.now in
    let whole_is = c.in-Some-split_first.ensures.cases.0 in
    let own : row.key ≡ p.before =
    whole-known p.before mark p.tails.now p.marks.now marks is p.whole.now row others none whole_is (c.requires.filled.own c.requires.own) in
    record {
      filled = filled-whole mark p.marks.now marks is p.before p.tails.now p.whole.now row others none whole_is c.requires.filled.filled;
      own = λ h. absurd (true≢false (sym h));
      told = TellShared-behind p.before marks (rows_behind marks p.before p.tails.now others)
          (subst (λ k. TellShared k marks (rows_behind marks k p.tails.now others)) own
          (told-whole mark p.marks.now marks is p.before p.tails.now p.whole.now row others none whole_is c.requires.filled.told));
    }
