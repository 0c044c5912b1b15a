use Rattle.std.proofs.Common.{◌≡◌, ◌<◌, ◌≤◌, ◌-◌, ◌+◌, drop, length, sym, ap, ◌∙◌, arith}
use Rattle.std.specs.List.{slice_get}
use Rattle.std.proofs.lemmas.Option.{get_or_from_slice_get}
use Rattle.lookup.proofs.ReadLemmas.{Placed, kept-games, placed}
use Rattle.row_sums.specs.Listing.{classes_in}
use Rattle.row_sums.proofs.Places.{classes-here, classes-later, classes-none}
use Rattle.segment_blocks.specs.Kept.{KeptSpan}
use Rattle.segment_blocks.specs.Segment.{CountedSpan}
use Rattle.lookup.proofs.set_games.classes_through.Goals as goal

pub returns-then-left-games : goal.returns-then-left-games
returns-then-left-games c =
    let set = c.args.set.now in
    let i = c.loop-part.part in
    let left = c.loop-part.left in
    let within : i < length set = omega (arith, c.loop-part-test.true, c.parts-part-end.ensures.count) in
    let place : Placed set i = placed set i within in
    let segment : CountedSpan = place.value in
    let kept = kept-games set i segment c.kept-kept.result.now place.is c.kept-kept.ensures in
    let games : c.games-games.result ≡ length segment.classes = c.games-games.ensures ∙ ap (λ (k : KeptSpan). length k.classes) kept in
    let below : left < length segment.classes = omega (arith, c.if-left-games.true, games) in
    sym c.classes.ensures ∙ ap (λ (k : KeptSpan). slice_get k.classes left) kept
    ∙ sym (classes-here set i segment within (sym (get_or_from_slice_get set i segment segment place.is)) left below)
    ∙ c.loop-part.invariant

pub loop-part-preserved : goal.loop-part-preserved
loop-part-preserved c =
    let set = c.args.set.now in
    let i = c.loop-part.part in
    let left = c.loop-part.left in
    let within : i < length set = omega (arith, c.loop-part-test.true, c.parts-part-end.ensures.count) in
    let place : Placed set i = placed set i within in
    let segment : CountedSpan = place.value in
    let kept = kept-games set i segment c.kept-kept.result.now place.is c.kept-kept.ensures in
    let games : c.games-games.result ≡ length segment.classes = c.games-games.ensures ∙ ap (λ (k : KeptSpan). length k.classes) kept in
    let past : length segment.classes ≤ left = omega (arith, c.if-left-games.false, games) in
    ap (λ n. slice_get (classes_in (drop (i + 1) set)) (left - n)) games
    ∙ sym (classes-later set i segment within (sym (get_or_from_slice_get set i segment segment place.is)) left past)
    ∙ c.loop-part.invariant

pub returns : goal.returns
returns c =
    sym (classes-none c.args.set.now c.loop-part.part (omega (arith, c.loop-part-test.false, c.parts-part-end.ensures.count)) c.loop-part.left)
    ∙ c.loop-part.invariant
