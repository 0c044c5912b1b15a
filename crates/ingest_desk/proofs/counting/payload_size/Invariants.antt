use Rattle.std.proofs.Common.{◌≡◌, ◌≤◌, ◌+◌, ◌*◌, ℕ, List, length, take, sum_by}
use Rattle.ingest_desk.proofs.counting.payload_size.Given as goal

abbrev pub invariant-loop-text : goal.invariant-loop-text
invariant-loop-text l = record {
  sum : l.size ≡ l.initial.size + sum_by (λ (text : List ℕ). 4 + length text) (take l.text-index l.text-items);
  small : l.size ≤ 67 + 65540 * l.text-index;
}
