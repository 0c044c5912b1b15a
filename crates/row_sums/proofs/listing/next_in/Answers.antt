use Rattle.std.proofs.Common.{sym, ◌∙◌}
use Rattle.row_sums.specs.Listing.{list_of}
use Rattle.row_sums.proofs.Places.{next-found, next-later, next-none}
use Rattle.row_sums.proofs.listing.next_in.Goals as goal

pub returns-then-lists : goal.returns-then-lists
returns-then-lists c =
    c.next.ensures
    ∙ sym (next-found (list_of c.args.list) c.args.hits.now c.loop-hit.hit-index c.hit-item.result c.loop-hit-test.true c.hit-item.is c.args.number
    (sym c.lists.ensures ∙ c.if-lists.true)) ∙ c.loop-hit.invariant

pub loop-hit-preserved : goal.loop-hit-preserved
loop-hit-preserved c =
    sym (next-later (list_of c.args.list) c.args.hits.now c.loop-hit.hit-index c.hit-item.result c.loop-hit-test.true c.hit-item.is c.args.number
    (sym c.lists.ensures ∙ c.if-lists.false)) ∙ c.loop-hit.invariant

pub returns : goal.returns
returns c =
    sym (next-none (list_of c.args.list) c.args.hits.now c.loop-hit.hit-index c.args.number c.loop-hit-test.false) ∙ c.loop-hit.invariant
