use Rattle.std.proofs.Common.{◌≡◌, ℕ, ◌<◌, length, slice_index_or}
use Rattle.packed_keys.proofs.Packed.{byte_at}
use Rattle.packed_keys.proofs.squares.pack_squares.Given as goal

abbrev pub invariant-loop-byte : goal.invariant-loop-byte
invariant-loop-byte l = record {
  size : length l.bytes ≡ 32;
  pieces : (k : ℕ) → k < l.byte → slice_index_or l.bytes k 0 ≡ byte_at l.squares k;
}
