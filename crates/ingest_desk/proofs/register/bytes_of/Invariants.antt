use Rattle.std.proofs.Common.{◌≡◌, ◌*◌, ◌≤◌, ℕ, List, length, take, sum_by}
use Rattle.ingest_desk.proofs.register.bytes_of.Given as goal

abbrev pub invariant-loop-text : goal.invariant-loop-text
invariant-loop-text l = record {
  sum : l.bytes ≡ sum_by (λ (text : List ℕ). length text) (take l.text-index l.texts);
  small : l.bytes ≤ 65536 * l.text-index;
}
