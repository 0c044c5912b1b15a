use Rattle.std.proofs.Common.{sym, subst}
use Rattle.segment_blocks.specs.Both.{HaveBothMoved}
use Rattle.segment_blocks.specs.Walk.{rows_until}
use Rattle.segment_blocks.proofs.BothLemmas.{HaveBothMoved-none}
use Rattle.segment_blocks.proofs.rows_cursor.RowsCursor.move_both.Goals as goal

pub returns-then-is_some-clause-moved : goal.returns-then-is_some-clause-moved
returns-then-is_some-clause-moved g c =
    let left = rows_until c.args.terms.0.until.now in
    let right = rows_until c.args.terms.1.until.now in
    let self = c.args.self.now in
    let other = c.args.other.now in
    let rows = c.args.block.now in
    subst (λ x. HaveBothMoved c.args.terms.0.by c.args.terms.1.by (left self) (left x) (right other) (right c.refill-2.new.self) rows rows) (sym c.refill.ensures)
    (subst (λ x. HaveBothMoved c.args.terms.0.by c.args.terms.1.by (left self) (left self) (right other) (right x) rows rows) (sym c.refill-2.ensures)
    (HaveBothMoved-none c.args.terms.0.by c.args.terms.1.by (left self) (right other) rows))
