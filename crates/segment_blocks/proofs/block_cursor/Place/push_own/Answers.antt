use Rattle.std.proofs.Common.{◌≡◌, ◌+◌, ◌-◌, ◌∷◌, drop, sym, ap, subst, ◌∙◌, true≢false, arith}
use Rattle.tally_rows.specs.Row.{row_of, shifted_row}
use Rattle.segment_blocks.specs.declared.mark.Mark.{Mark}
use Rattle.segment_blocks.specs.Encoded.{own_len, key_behind, single_of, rows_behind}
use Rattle.segment_blocks.specs.Prefix.{TellShared}
use Rattle.segment_blocks.proofs.EncodedLemmas.{rows_behind-game, own-known, key-game}
use Rattle.segment_blocks.proofs.LaneLemmas.{same-first}
use Rattle.segment_blocks.proofs.MovingLemmas.{game-shifted, shifted-key}
use Rattle.segment_blocks.proofs.PlaceLemmas.{filled-game, told-game}
use Rattle.segment_blocks.proofs.PrefixLemmas.{common-within, TellShared-behind}
use Rattle.segment_blocks.proofs.block_cursor.Place.push_own.Goals as goal

pub push_whole-requires-clause-whole : goal.push_whole-requires-clause-whole
push_whole-requires-clause-whole c mark marks is =
    ap (λ (m : Mark). m.outcome) (same-first c.args.self.now.marks.now mark marks c.in-Some.mark.now c.in-Some.marks.now is c.in-Some.ensures.cases.0) ∙ c.in_default-outcome.is

pub push_game-requires-clause-shared : goal.push_game-requires-clause-shared
push_game-requires-clause-shared c =
    omega (arith, c.requires.shared, common-within c.args.last.now c.args.self.now.before, c.key-before.ensures.long)

pub returns-clause-moved : goal.returns-clause-moved
returns-clause-moved c =
    let p = c.args.self.now in
    let by = c.args.lane.by in
    let mark = c.in-Some.mark.now in
    let marks = c.in-Some.marks.now in
    let is = c.in-Some.ensures.cases.0 in
    let outcome = c.in-Some-outcome._outcome in
    let told = c.in-Some-outcome.is in
    let key_is : key_behind p.before mark p.tails.now ≡ p.before = own-known p.before mark p.tails.now p.marks.now marks is p.whole.now outcome told (c.requires.filled.own c.requires.own) in
    let rest : drop (own_len mark) p.tails.now ≡ c.split_at.result.1.now =
    sym (c.split_at.ensures.back ∙ ap (λ n. drop (34 - n) p.tails.now) c.from.ensures) in
    let game = single_of p.before mark outcome in
    let row = row_of game in
    let number : c.in-Some-checked_add.number ≡ mark.number + by = omega (arith, c.in-Some-checked_add.ensures) in
    let row_key : (shifted_row by row).key ≡ p.before = shifted-key by row ∙ key-game p.before mark outcome in
    record {
      row = row;
      first = rows_behind-game mark p.marks.now marks p.before p.tails.now p.whole.now is outcome told
          ∙ (λ i. row_of (single_of (key_is i) mark outcome) ∷ rows_behind marks (key_is i) (rest i) p.whole.now);
      appended = c.in_ok-push_game.ensures.ok c.args.last.now (shifted_row by row) outcome row_key c.requires.shared told
          (ap (λ n. row_of (record game { number = n })) number ∙ game-shifted by game);
      ends = c.key.ensures.key ∙ sym (key-game p.before mark outcome);
    }

pub returns-clause-behind : goal.returns-clause-behind
returns-clause-behind c =
    let p = c.args.self.now in
    let mark = c.in-Some.mark.now in
    let marks = c.in-Some.marks.now in
    let is = c.in-Some.ensures.cases.0 in
    let outcome = c.in-Some-outcome._outcome in
    let told = c.in-Some-outcome.is in
    let key_is : key_behind p.before mark p.tails.now ≡ p.before = own-known p.before mark p.tails.now p.marks.now marks is p.whole.now outcome told (c.requires.filled.own c.requires.own) in
    let ends = c.split_at.result.1.now in
    let rest : drop (own_len mark) p.tails.now ≡ ends =
    sym (c.split_at.ensures.back ∙ ap (λ n. drop (34 - n) p.tails.now) c.from.ensures) in
    record {
      before = sym c.key.ensures.key;
      told = subst (λ k. TellShared k marks (rows_behind marks p.before ends p.whole.now)) (sym c.key.ensures.key)
          (told-game mark p.marks.now marks is p.before p.tails.now p.whole.now outcome told p.before ends key_is rest c.requires.filled.told);
    }

pub returns-clause-filled : goal.returns-clause-filled
returns-clause-filled c =
    let p = c.args.self.now in
    let mark = c.in-Some.mark.now in
    let marks = c.in-Some.marks.now in
    let is = c.in-Some.ensures.cases.0 in
    let outcome = c.in-Some-outcome._outcome in
    let told = c.in-Some-outcome.is in
    let key_is : key_behind p.before mark p.tails.now ≡ p.before = own-known p.before mark p.tails.now p.marks.now marks is p.whole.now outcome told (c.requires.filled.own c.requires.own) in
    let ends = c.split_at.result.1.now in
    let rest : drop (own_len mark) p.tails.now ≡ ends =
    sym (c.split_at.ensures.back ∙ ap (λ n. drop (34 - n) p.tails.now) c.from.ensures) in
    record {
      filled = filled-game mark p.marks.now marks is p.before p.tails.now p.whole.now outcome told p.before ends key_is rest c.requires.filled.filled;
      own = λ h. absurd (true≢false (sym h));
      told = TellShared-behind p.before marks (rows_behind marks p.before ends p.whole.now)
          (told-game mark p.marks.now marks is p.before p.tails.now p.whole.now outcome told p.before ends key_is rest c.requires.filled.told);
    }
