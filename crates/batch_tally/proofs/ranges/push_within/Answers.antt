use Rattle.std.proofs.Common.{◌≡◌, ◌<◌, length, map, sym, ap, ◌∙◌, arith}
use Rattle.std.proofs.lemmas.List.{length-map}
use Rattle.batch_tally.specs.Singles.{word_of}
use Rattle.batch_tally.proofs.RangeLemmas.{TellsOf, one-kept, one-left}
use Rattle.batch_tally.proofs.ranges.push_within.Goals as goal
use Rattle.batch_tally.proofs.ranges.push_within.Goals.{then-contains_word+in_ok-push, else-contains_word}

pub loop-place-preserved : goal.loop-place-preserved
loop-place-preserved c =
    let words = c.words-words.result.now in
    let of_game = c.singles-of_game.result.now in
    let place = c.loop-place.place in
    let single = c.index-of_game-place.result in
    let are : words ≡ map word_of of_game =
    c.words-words.ensures ∙ c.requires ∙ ap (λ l. map word_of l) (sym c.singles-of_game.ensures) in
    let below : place < length of_game =
    (let e = ap (λ l. length l) are in let m = length-map of_game word_of in omega (arith, e, m, c.loop-place-test.true)) in
    let tells : TellsOf words of_game place single = record { words_are = are; below = below; is = sym c.index-of_game-place.is } in
    elim c.if-contains_word.branch [
      | then-contains_word+in_ok-push w ↦
          rw w.singles-is (one-kept c.args.range c.args.number words of_game _ c.loop-place.singles.items _ place single tells
          (sym c.contains_word.ensures ∙ w.if-contains_word.true) w.in_ok-push.ensures.items c.loop-place.invariant)
      | else-contains_word w ↦
          rw w.singles-is (one-left c.args.range c.args.number words of_game _ c.loop-place.singles.items place single tells
          (sym c.contains_word.ensures ∙ w.if-contains_word.false) c.loop-place.invariant)
    ]
