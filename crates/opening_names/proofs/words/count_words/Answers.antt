use Rattle.std.proofs.Common.{◌≡◌, length, false, true, sym, ap, ◌∙◌, arith}
use Rattle.std.specs.Option.{option_copied}
use Rattle.explorer_model.specs.Openings.{is_empty, without_number}
use Rattle.opening_names.specs.Reading.{size_left, words_left}
use Rattle.opening_names.proofs.WordLemmas.{empty-is, words-skipped, words-taken}
use Rattle.opening_names.proofs.words.count_words.Goals as goal

pub loop-rest-preserved-then-not-is_empty : goal.loop-rest-preserved-then-not-is_empty
loop-rest-preserved-then-not-is_empty c =
    let left = option_copied c.split_piece.result.1 in
    let piece = c.split_piece.result.0.now in
    let word = c.without_number in
    let some : is_empty (without_number piece) ≡ false =
    ap is_empty (sym word.ensures) ∙ empty-is word.result.now ∙ sym c.is_empty.ensures ∙ c.if-not-is_empty.true in
    let next = ap length (words-taken c.in-Some.text.now piece left c.split_piece.ensures.pieces some) in
    let here = ap (λ o. length (words_left (option_copied o))) c.in-Some.is in
    let size = ap (λ o. size_left (option_copied o)) c.in-Some.is in
    record {
      count = omega (arith, next, here, c.loop-rest.invariant.count);
      room = omega (arith, size, c.split_piece.ensures.shorter, c.loop-rest.invariant.room);
    }

pub loop-rest-preserved : goal.loop-rest-preserved
loop-rest-preserved c =
    let left = option_copied c.split_piece.result.1 in
    let piece = c.split_piece.result.0.now in
    let word = c.without_number in
    let none : is_empty (without_number piece) ≡ true =
    ap is_empty (sym word.ensures) ∙ empty-is word.result.now ∙ sym c.is_empty.ensures ∙ c.if-not-is_empty.false in
    let next = ap length (words-skipped c.in-Some.text.now piece left c.split_piece.ensures.pieces none) in
    let here = ap (λ o. length (words_left (option_copied o))) c.in-Some.is in
    let size = ap (λ o. size_left (option_copied o)) c.in-Some.is in
    record {
      count = omega (arith, next, here, c.loop-rest.invariant.count);
      room = omega (arith, size, c.split_piece.ensures.shorter, c.loop-rest.invariant.room);
    }
