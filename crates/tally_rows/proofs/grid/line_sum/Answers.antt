use Rattle.std.proofs.Common.{◌≡◌, ◌⊎◌, inl, inr, length, ap, ◌∙◌}
use Rattle.std.specs.List.{items_where_true}
use Rattle.tally_rows.specs.Grid.{no_games, plus, total}
use Rattle.tally_rows.proofs.Grids.{none-is, plus-assoc, plus-none_left, cell-taken, cell-passed, sum-ends, Fit-next}
use Rattle.tally_rows.proofs.grid.line_sum.Goals as goal

pub loop-cell-init : goal.loop-cell-init
loop-cell-init c =
    let none : c.default-sum.result ≡ no_games = none-is c.default-sum.result c.default-sum.ensures in
    let from : c.into_iter-cell-iterator.result ≡ c.zip-cell-items.result = c.into_iter-cell-iterator.ensures.into_iter_gives in
    let zipped = c.zip-cell-items.ensures in
    let line : c.zip-cell-items.result.a.rest.now ≡ c.args.line.now = ap (λ i. i.rest.now) zipped.first ∙ c.iter.ensures.rest in
    let groups : c.zip-cell-items.result.b.rest.now ≡ c.args.groups.now = zipped.second.0 in
    rw (none, from) (plus-none_left (total (items_where_true c.zip-cell-items.result.b.rest.now c.zip-cell-items.result.a.rest.now))
    ∙ (λ i. total (items_where_true (groups i) (line i))))

pub plus-sum-requires : goal.plus-sum-requires
plus-sum-requires c =
    let groups = c.args.groups.now in
    let line = c.args.line.now in
    let s = c.in-Some.ensures.steps in
    Fit-next c.loop-cell.sum c.in-Some.cell.now (total (items_where_true c.next.new.self.b.rest.now c.next.new.self.a.rest.now)) (items_where_true groups line) c.requires
    (cell-taken c.loop-cell.sum (total (items_where_true groups line)) c.in-Some.cell.now _ _ c.in-Some.is_chosen.now _ _ s.0 s.1 c.loop-cell.invariant c.if-is_chosen.true)

pub loop-cell-preserved-then-is_chosen : goal.loop-cell-preserved-then-is_chosen
loop-cell-preserved-then-is_chosen c =
    let s = c.in-Some.ensures.steps in
    let rest = total (items_where_true c.next.new.self.b.rest.now c.next.new.self.a.rest.now) in
    ap (λ a. plus a rest) c.plus-sum.ensures ∙ plus-assoc c.loop-cell.sum c.in-Some.cell.now rest
    ∙ cell-taken c.loop-cell.sum (total (items_where_true c.args.groups.now c.args.line.now)) c.in-Some.cell.now _ _ c.in-Some.is_chosen.now _ _ s.0 s.1
    c.loop-cell.invariant c.if-is_chosen.true

pub loop-cell-preserved : goal.loop-cell-preserved
loop-cell-preserved c =
    let s = c.in-Some.ensures.steps in
    cell-passed c.loop-cell.sum (total (items_where_true c.args.groups.now c.args.line.now)) c.in-Some.cell.now _ _ c.in-Some.is_chosen.now _ _ s.0 s.1
    c.loop-cell.invariant c.if-is_chosen.false

pub returns : goal.returns
returns c =
    let left = c.loop-cell.cell-iterator.a.rest.now in
    let flags = c.loop-cell.cell-iterator.b.rest.now in
    let ended : (length left ≡ 0) ⊎ (length flags ≡ 0) = elim c.in-None.ensures.steps [ inl e ↦ inl e.1.0 | inr e ↦ inr e.1.0 ] in
    sum-ends c.loop-cell.sum (total (items_where_true c.args.groups.now c.args.line.now)) flags left ended c.loop-cell.invariant
