-- Laws: what the scratch file in memory owes to `Port`.
use Rattle.std.proofs.Common.{◌≡◌, List, ℕ, length, Some, None, ap, sym}
use Rattle.outside.specs.Ports.{Held, MemoryPort, scratch_of, told_of, size_of}
use Rattle.outside.specs.Ports.Held.{Bytes, Blank}

told_by : (held : Held) (bytes : List ℕ) → told_of held ≡ Some bytes → length bytes ≡ size_of held
told_by (Bytes told) bytes is = ap length (same told bytes is)
  where
    same : (one other : List ℕ) → Some one ≡ Some other → other ≡ one
    same one other e = cc
told_by (Blank size) bytes is = absurd (cc)

pub told_size : (it : MemoryPort) (bytes : List ℕ) → (scratch_of it).appended ≡ Some bytes
    → length bytes ≡ (scratch_of it).size
told_size it bytes is = told_by it.held bytes is
