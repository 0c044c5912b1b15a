-- What a call of a scratch file comes to.
use Rattle.std.proofs.Common.{◌≡◌, ℕ, List, Option, None, Some, length, take, drop, sym, ap, ◌∙◌}
use Rattle.std.specs.Prelude.{IfSome}
use Rattle.outside.specs.Ports.{Scratch, AppendsPiece, GivesBack}

pub one_append : (piece : List ℕ) (old new after : Scratch) → AppendsPiece piece old new
    → AppendsPiece piece old after → new ≡ after
one_append piece old new after first second = first ∙ sym second

module _ (at : ℕ) (buffer other : List ℕ) (long : length buffer ≡ length other) where
  same_bytes : (told : Option (List ℕ)) (bytes : List ℕ) → told ≡ Some bytes
      → IfSome told (λ told. buffer ≡ take (length buffer) (drop at told))
      → IfSome told (λ told. other ≡ take (length other) (drop at told)) → buffer ≡ other
  same_bytes None bytes is first second = absurd (cc)
  same_bytes (Some told) bytes is first second =
      first ∙ ap (λ (n : ℕ). take n (drop at told)) long ∙ sym second

  pub one_given : (told : List ℕ) (old new after : Scratch) → old.appended ≡ Some told
      → GivesBack at buffer old new → GivesBack at other old after
      → (buffer ≡ other) × (new ≡ after)
  one_given told old new after is first second =
      (same_bytes old.appended told is first.bytes second.bytes, first.rest ∙ sym second.rest)
