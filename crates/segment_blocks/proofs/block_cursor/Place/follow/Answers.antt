use Rattle.std.proofs.Common.{sym, ap, ◌∙◌}
use Rattle.std.specs.Ordering.{is_gt}
use Rattle.segment_blocks.specs.Prefix.{common_len}
use Rattle.segment_blocks.proofs.KeyLemmas.{key_order}
use Rattle.segment_blocks.proofs.LaneLemmas.{next-shared, not-true}
use Rattle.segment_blocks.proofs.block_cursor.Place.follow.Goals as goal

pub order_behind-requires-clause-shared : goal.order_behind-requires-clause-shared
order_behind-requires-clause-shared c =
    let last = c.args.last.now in
    let new = c.make_ready.new.self in
    let next = c.in-Some.ensures.told in
    next.told
    ∙ next-shared last new c.make_ready.ensures.filled c.in-Some.ensures.own c.args.self.now c.requires.behind.told c.make_ready.ensures.marks c.make_ready.ensures.rows next
    ∙ ap (common_len last) (sym c.key.ensures.key)

pub returns-clause-lane : goal.returns-clause-lane
returns-clause-lane c h =
    let last = c.args.last.now in
    let new = c.make_ready.new.self in
    let next = c.in-Some.ensures.told in
    let own = c.in-Some.ensures.own in
    record {
      own = own;
      met = record {
        is = next.told
            ∙ next-shared last new c.make_ready.ensures.filled own c.args.self.now c.requires.behind.told c.make_ready.ensures.marks c.make_ready.ensures.rows next;
        not_before = ap is_gt (ap (key_order last) (sym c.key.ensures.key) ∙ sym c.order_behind.ensures) ∙ sym c.is_gt.ensures ∙ not-true c.is_gt.result h;
      };
    }
