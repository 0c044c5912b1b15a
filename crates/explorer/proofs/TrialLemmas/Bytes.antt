-- Bytes in memory that are read from a place on.
use Rattle.std.proofs.Common.{◌≡◌, ℕ, ◌+◌, ◌-◌, ◌<◌, ◌≤◌, List, ◌++◌, Some, length, take, drop, min, refl, sym, ap, subst, ◌∙◌, arith, length-append, length-drop}
use Rattle.std.proofs.Math.Seq.{take-append_seam}
use Rattle.std.proofs.lemmas.List.{drop-drop, take-append-drop, length-take-le, nil_from_length}
use Rattle.outside.specs.Stream.{Gives, source_alone}

-- a read of as many of the bytes from a place on as the buffer has room for
pub gives_next : (bytes into copied : List ℕ) (at n : ℕ) → copied ≡ take n (drop at bytes) → n ≡ min (length (drop at bytes)) (length into) → 0 < length into
    → Gives n (copied ++ drop n into) (source_alone (Some (drop at bytes)) at 0) (source_alone (Some (drop (at + n) bytes)) (at + n) 0)
gives_next bytes into copied at n is count room =
    let rest = drop at bytes in
    let within : n ≤ length rest = omega (arith, count) in
    let long : length copied ≡ n = ap length is ∙ length-take-le n rest within in
    let front : take n (copied ++ drop n into) ≡ take n rest =
    subst (λ (k : ℕ). take k (copied ++ drop n into) ≡ copied) long (take-append_seam copied (drop n into)) ∙ is in
    record {
      within = omega (arith, long, length-append copied (drop n into));
      next =
          sym (take-append-drop n rest) ∙ ap (λ (given : List ℕ). given ++ drop n rest) (sym front)
          ∙ ap (λ (left : List ℕ). take n (copied ++ drop n into) ++ left) (drop-drop n at bytes);
      ended = λ none. nil_from_length _ (omega (arith, count, none, room, length-drop (at + n) bytes, length-drop at bytes));
      rest = refl;
    }
