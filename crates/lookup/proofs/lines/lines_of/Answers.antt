use Rattle.std.proofs.Common.{◌↔◌, List, map, sym, subst, take, ◌+◌}
use Rattle.std.specs.List.{AllZip, Contains}
use Rattle.explorer_model.specs.declared.answer.MoveLine.{MoveLine}
use Rattle.explorer_model.specs.declared.chess.Move.{Move}
use Rattle.explorer_model.specs.Chess.{Legal}
use Rattle.row_sums.specs.Hits.{hit_as}
use Rattle.lookup.specs.Lines.{IsLineMade}
use Rattle.row_sums.specs.declared.moves.MoveSum.{MoveSum}
use Rattle.row_sums.proofs.LineLoops.{each-at, zip-next}
use Rattle.lookup.proofs.lines.lines_of.Goals as goal

pub line_of-requires-clause-each : goal.line_of-requires-clause-each
line_of-requires-clause-each g c =
    let E : List Move → Type 0 = λ moves. (m : Move) → Contains moves m ↔ Legal c.args.board.now m in
    subst E (sym c.as_slice.ensures.value) c.legal-legal.ensures.each

pub line_of-requires-clause-legal : goal.line_of-requires-clause-legal
line_of-requires-clause-legal g c =
    each-at (λ (sum : MoveSum). Legal c.args.board.now sum.next) c.args.sums.now c.loop-sum.sum-index c.sum-item.result c.requires.legal c.loop-sum-test.true c.sum-item.is

pub loop-sum-preserved : goal.loop-sum-preserved
loop-sum-preserved g c =
    let R : MoveSum → MoveLine → Type 0 = λ sum line. IsLineMade c.args.board.now (g.G.Games.classes c.args.games.now) (map hit_as c.args.hits.now) sum.next line in
    let Z : List MoveLine → Type 0 = λ lines. AllZip R (take (c.loop-sum.sum-index + 1) c.args.sums.now) lines in
    subst Z (sym c.in_ok-push.ensures.items)
    (zip-next R c.args.sums.now c.loop-sum.lines.items c.loop-sum.sum-index c.sum-item.result _ c.loop-sum.invariant c.loop-sum-test.true c.sum-item.is c.in_ok-line_of.ensures)
