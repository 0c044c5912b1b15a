-- Bytes put over the end of a key and the room behind it.
use Rattle.std.proofs.Common.{◌≡◌, ℕ, ◌+◌, ◌-◌, ◌≤◌, List, ◌++◌, length, take, drop, sym, ap, ◌∙◌, arith}
use Rattle.std.proofs.lemmas.List.{take-take, length-take-le, take-append-le, drop-take}
use Rattle.std.proofs.Math.Seq.{take-append-add}

module _ (bytes : List ℕ) (s : ℕ) (within : s ≤ 34) where
  split : s + (34 - s) ≡ 34
  split = omega (arith, within)

  -- what is read from a byte of the key on begins with the key's bytes from there on
  pub end-of_key : (n : ℕ) → 34 - s ≤ n → take (34 - s) (take n (drop s bytes)) ≡ drop s (take 34 bytes)
  end-of_key n more =
      take-take (34 - s) n (drop s bytes) more ∙ sym (drop-take s (34 - s) bytes) ∙ ap (λ k. drop s (take k bytes)) split

  -- the key where bytes were put behind its first ones
  pub key-put : (tails ys room : List ℕ) (n : ℕ) → 34 ≤ length bytes → ys ≡ take n tails → 34 - s ≤ n → 34 - s ≤ length ys
      → take 34 (take s bytes ++ (ys ++ room)) ≡ take s (take 34 bytes) ++ take (34 - s) tails
  key-put tails ys room n long e more fits =
      let front : length (take s bytes) ≡ s = length-take-le s bytes (omega (arith, within, long)) in
      let all : length (take s bytes) + (34 - s) ≡ 34 = omega (arith, front, within) in
      ap (λ k. take k (take s bytes ++ (ys ++ room))) (sym all)
      ∙ take-append-add (take s bytes) (ys ++ room) (34 - s)
      ∙ ap (λ l. take s bytes ++ l) (take-append-le (34 - s) ys room fits ∙ ap (take (34 - s)) e ∙ take-take (34 - s) n tails more)
      ∙ ap (λ l. l ++ take (34 - s) tails) (sym (take-take s 34 bytes within))
