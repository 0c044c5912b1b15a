use Rattle.std.proofs.Common.{◌+◌, ◌-◌, length, take, drop, sym, subst, arith}
use Rattle.std.proofs.lemmas.List.{length-drop, length-take}
use Rattle.pgn_lex.specs.Items.{shape_as, IsCut}
use Rattle.pgn_lex.proofs.Spans.{cut_item}
use Rattle.pgn_lex.proofs.Steps.{found_within, found_item}
use Rattle.pgn_lex.proofs.items.item_at.Goals as goal

pub returns-clause-item : goal.returns-clause-item
returns-clause-item c = found_item c.args.text.now c.args.at (shape_as c.shape_at-shape.result) c.begins_line.result c.shape_at-shape.ensures c.begins_line.ensures

pub overflow_add-result : goal.overflow_add-result
overflow_add-result c = omega (arith, found_within c.args.text.now c.args.at (shape_as c.shape_at-shape.result) c.begins_line.result c.shape_at-shape.ensures c.begins_line.ensures c.requires.within, c.requires.small)

pub slice_bounds-result-end : goal.slice_bounds-result-end
slice_bounds-result-end c =
    omega (
      arith,
      found_within c.args.text.now c.args.at (shape_as c.shape_at-shape.result) c.begins_line.result c.shape_at-shape.ensures c.begins_line.ensures c.requires.within,
      length-drop c.args.at c.args.text.now,
      length-take (length c.args.text.now - c.args.at) (drop c.args.at c.args.text.now),
      length-take (c.shape_at-shape.result.more + 1) (take (length c.args.text.now - c.args.at) (drop c.args.at c.args.text.now)),
    )

pub returns-clause-stands : goal.returns-clause-stands
returns-clause-stands c =
    subst (IsCut c.args.text.now)
    (sym (found_item c.args.text.now c.args.at (shape_as c.shape_at-shape.result) c.begins_line.result c.shape_at-shape.ensures c.begins_line.ensures))
    (cut_item c.args.text.now c.args.at)
