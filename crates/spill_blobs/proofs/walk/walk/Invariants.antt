use Rattle.std.proofs.Common.{◌≡◌, ◌+◌, ◌-◌, ◌*◌, ◌≤◌, take, length}
use Rattle.std.specs.Prelude.{IfSome}
use Rattle.std.specs.List.{AllByRecursion}
use Rattle.spill_blobs.specs.RowBlocks.{block_size}
use Rattle.spill_blobs.specs.Walks.{Continues, blocks_from, keyed as begun, lesser_limit}
use Rattle.spill_blobs.proofs.walk.walk.Given as goal

abbrev pub invariant-loop-left : goal.invariant-loop-left
invariant-loop-left g l = record {
  told : IfSome (g.P.Port.port l.fn.port).appended
      (λ bytes. Continues l.key (blocks_from bytes l.at l.left) (lesser_limit - l.lesser) l.rows.items
      (blocks_from bytes l.start l.count));
  same : g.P.Port.port l.port ≡ g.P.Port.port l.fn.port;
  few : l.lesser ≤ lesser_limit;
  inside : l.at + block_size * l.left ≡ l.start + block_size * l.count;
  keyed : AllByRecursion (λ row. row.key ≡ l.key) l.rows.items;
  cost : l.steps ≤ l.initial.steps + l.lesser + length l.rows.items;
  read : l.steps + l.left ≡ l.initial.steps + l.count;
  passed : l.lesser + length l.rows.items + l.left ≡ l.count;
  counted : IfSome (g.P.Port.port l.fn.port).appended
      (λ bytes. begun l.key (take (l.lesser + length l.rows.items) (blocks_from bytes l.start l.count)) ≡ length l.rows.items);
}

abbrev pub decreases-loop-left : goal.decreases-loop-left
decreases-loop-left g l = l.left
