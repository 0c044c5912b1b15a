use Rattle.std.proofs.Common.{rules, arith, ◌≡◌, ◌<◌, ◌++◌, sym, ap, subst, length, slice_get, Some, slice_index_or, List, ℕ, codes}
use Rattle.explorer_model.specs.declared.chess.Move.{Move}
use Rattle.explorer_model.specs.declared.chess.Position.{Position}
use Rattle.explorer_model.specs.Chess.{after}
use Rattle.explorer_model.specs.San.{SanText, IsMarked}
use Rattle.sample_games.specs.Samples.{drawn, number_text}
use Rattle.sample_games.proofs.Ordered.{contained, picked-from, each-same, once-same, none-legal}
use Rattle.sample_games.proofs.Drawing.{goes_on, ends_stuck, ends, number-short}
use Rattle.sample_games.proofs.movetext.draw_movetext.Goals as goal

pub returns-then-is_empty-clause-drawn : goal.returns-then-is_empty-clause-drawn
returns-then-is_empty-clause-drawn c =
    let none : length c.uci_ordered-legal.result.items ≡ 0 = search (rules, c.is_empty.ensures, c.if-is_empty.true) in
    ends_stuck c.args.plies c.loop-ply.ply c.args.draws.now c.loop-ply.draws c.loop-ply.board c.loop-ply.text.items c.loop-ply.invariant
    (none-legal c.loop-ply.board c.uci_ordered-legal.result.items c.uci_ordered-legal.ensures.ordered none)

pub play-next-requires : goal.play-next-requires
play-next-requires c =
    let lt : c.draw.result < length c.uci_ordered-legal.result.items = search (rules) in
    let is : c.index-deref-draw.result ≡ slice_index_or c.uci_ordered-legal.result.items c.draw.result c.index-deref-draw.result = search (rules) in
    (c.uci_ordered-legal.ensures.ordered.each c.index-deref-draw.result).0 (contained c.uci_ordered-legal.result.items c.draw.result c.index-deref-draw.result lt is)

pub write-san-requires-clause-each : goal.write-san-requires-clause-each
write-san-requires-clause-each c =
    each-same c.loop-ply.board c.position.result c.uci_ordered-legal.result.items c.as_slice.result.now c.position.ensures.same c.as_slice.ensures.value c.uci_ordered-legal.ensures.ordered

pub write-san-requires-clause-once : goal.write-san-requires-clause-once
write-san-requires-clause-once c = once-same c.loop-ply.board c.uci_ordered-legal.result.items c.as_slice.result.now c.as_slice.ensures.value c.uci_ordered-legal.ensures.ordered

pub write-san-requires-clause-mark : goal.write-san-requires-clause-mark
write-san-requires-clause-mark c =
    let step : Move = c.index-deref-draw.result in
    subst (λ (p : Position). IsMarked (after p step) c.check_mark.result) (sym c.position.ensures.same)
    (subst (λ (p : Position). IsMarked p c.check_mark.result) c.play-next.ensures c.check_mark.ensures)

pub loop-ply-preserved : goal.loop-ply-preserved
loop-ply-preserved c =
    let lt : c.draw.result < length c.uci_ordered-legal.result.items = search (rules) in
    let is : c.index-deref-draw.result ≡ slice_index_or c.uci_ordered-legal.result.items c.draw.result c.index-deref-draw.result = search (rules) in
    let value : c.draw.result ≡ drawn (length c.uci_ordered-legal.result.items) c.loop-ply.draws = search (rules) in
    let picks : slice_get c.uci_ordered-legal.result.items (drawn (length c.uci_ordered-legal.result.items) c.loop-ply.draws) ≡ Some c.index-deref-draw.result =
    subst (λ (k : ℕ). slice_get c.uci_ordered-legal.result.items k ≡ Some c.index-deref-draw.result) value
    (picked-from c.uci_ordered-legal.result.items c.draw.result c.index-deref-draw.result lt is) in
    let writes : SanText c.loop-ply.board c.index-deref-draw.result c.write-san.result.items =
    subst (λ (p : Position). SanText p c.index-deref-draw.result c.write-san.result.items) c.position.ensures.same c.write-san.ensures in
    let pushed : c.push.new.self.items ≡ c.loop-ply.text.items ++ number_text c.loop-ply.ply ++ c.write-san.result.items ++ codes " " = search (rules) in
    goes_on c.args.plies c.loop-ply.ply c.args.draws.now c.loop-ply.draws c.draw.new.draws c.loop-ply.board c.play-next.result c.loop-ply.text.items c.push.new.self.items
    c.uci_ordered-legal.result.items c.index-deref-draw.result c.write-san.result.items c.loop-ply.invariant c.loop-ply-test.true
    c.uci_ordered-legal.ensures.ordered picks c.draw.ensures.later c.play-next.ensures writes pushed (number-short c.loop-ply.ply (omega (arith, c.loop-ply-test.true, c.requires))) (omega (arith, c.as_slice-in-loop-ply.ensures.fits, ap (λ (t : List ℕ). length t) c.as_slice-in-loop-ply.ensures.value))

pub returns-clause-drawn : goal.returns-clause-drawn
returns-clause-drawn c =
    ends c.args.plies c.loop-ply.ply c.args.draws.now c.loop-ply.draws c.loop-ply.board c.loop-ply.text.items c.loop-ply.invariant (omega (arith, c.loop-ply-test.false))
