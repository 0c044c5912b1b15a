-- Bytes that move in parts.
use Rattle.std.proofs.Common.{◌≡◌, ℕ, ◌+◌, ◌-◌, ◌<◌, ◌≤◌, List, ◌++◌, Option, Some, length, take, drop, min, refl, sym, ap, subst, ◌∙◌, arith, length-append, length-drop}
use Rattle.std.proofs.Math.Seq.{take-add, take-length, take-append_seam}
use Rattle.std.proofs.lemmas.List.{drop-drop, take-append-drop, length-take-le, nil_from_length}
use Rattle.std.specs.Io.KnownBytes.{Appends}
use Rattle.std.proofs.KnownBytes.{Appends-trans}
use Rattle.outside.specs.Stream.{Gives, source_alone}

-- a slice from a place to the end
pub slice_from : (at : ℕ) (bytes : List ℕ) → take (length bytes - at) (drop at bytes) ≡ drop at bytes
slice_from at bytes =
    ap (λ (n : ℕ). take n (drop at bytes)) (sym (length-drop at bytes)) ∙ take-length (drop at bytes)

-- a writer that took a front of a chunk took some of the rest
pub front_grows : (old middle new : Option (List ℕ)) (at n : ℕ) (chunk : List ℕ) → Appends old middle (take at chunk)
    → Appends middle new (take n (take (length chunk - at) (drop at chunk))) → Appends old new (take (at + n) chunk)
front_grows old middle new at n chunk first second =
    let later = rw (slice_from at chunk) at second in
    rw (take-add at n chunk) (Appends-trans old middle new (take at chunk) (take n (drop at chunk)) first later)

-- a buffer begins with what was copied there
pub begins : (n : ℕ) (copied into : List ℕ) → length copied ≡ n → take n (copied ++ into) ≡ copied
begins n copied into long =
    subst (λ (k : ℕ). take k (copied ++ into) ≡ copied) long (take-append_seam copied into)

-- a read of the next n of the bytes from a place on, no more than one read gives
pub gives_next : (bytes into copied : List ℕ) (at most n faults : ℕ) → copied ≡ take n (drop at bytes)
    → n ≡ min (min (length (drop at bytes)) most) (length into) → 0 < most → 0 < length into
    → Gives n (copied ++ drop n into)
    (source_alone (Some (drop at bytes)) at faults) (source_alone (Some (drop (at + n) bytes)) (at + n) faults)
gives_next bytes into copied at most n faults is count some room =
    let rest = drop at bytes in
    let within : n ≤ length (drop at bytes) = omega (arith, count) in
    let long : length copied ≡ n = ap length is ∙ length-take-le n rest within in
    let front = begins n copied (drop n into) long ∙ is in
    record {
      within = omega (arith, long, length-append copied (drop n into));
      next =
          sym (take-append-drop n rest) ∙ ap (λ (given : List ℕ). given ++ drop n rest) (sym front)
          ∙ ap (λ (left : List ℕ). take n (copied ++ drop n into) ++ left) (drop-drop n at bytes);
      ended = λ none.
          nil_from_length _ (omega (arith, count, none, length-drop (at + n) bytes, length-drop at bytes));
      rest = refl;
    }
