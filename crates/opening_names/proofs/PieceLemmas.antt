-- Pieces of a text, one after another.
use Rattle.std.proofs.Common.{◌≡◌, ℕ, ◌+◌, ◌-◌, ◌<◌, ◌==◌, Bool, true, false, if◌then◌else◌, List, [], ◌∷◌, ◌++◌, length, take, drop, refl, sym, ap, ◌∙◌, arith}
use Rattle.std.specs.List.{after_first, position_or_len, slice_split}
use Rattle.std.proofs.lemmas.List.{take_rest}
use Rattle.std.proofs.lemmas.List.Splits.{slice_split_first, slice_split_none}
use Rattle.std.proofs.lemmas.List.Sums.{fails_before_first}
use Rattle.std.proofs.lemmas.List.Elements.{All-from_get_or}
use Rattle.explorer_model.specs.Openings.{ended_lines, ends_line, lines_of, without_return}

module _ (p : ℕ → Bool) (text : List ℕ) where
  pub piece-whole : position_or_len p text ≡ length text → slice_split p text ≡ text ∷ []
  piece-whole whole =
      slice_split_none p text
      (All-from_get_or (λ b. p b ≡ false) text 0 (λ i within. fails_before_first p text i 0 (omega (arith, whole, within))))

  pub piece-first : (at : ℕ) → at ≡ position_or_len p text → at < length text
      → slice_split p text ≡ take at text ∷ slice_split p (take (length text - (at + 1)) (drop (at + 1) text))
  piece-first at is within =
      let some : position_or_len p text < length text = omega (arith, is, within) in
      slice_split_first p text 0 some ∙ (λ k. take (is_back k) text ∷ slice_split p (tail k))
    where
      is_back : position_or_len p text ≡ at
      is_back = sym is

      tail : after_first p text ≡ take (length text - (at + 1)) (drop (at + 1) text)
      tail = ap (λ n. drop (n + 1) text) is_back ∙ sym (take_rest text (at + 1))

-- ---- lines

return-last : (front : List ℕ) (last : ℕ) → without_return (front ++ last ∷ []) ≡ (if last == 13 then front else front ++ last ∷ [])
return-last [] last = refl
return-last (a ∷ []) last = return-by (last == 13)
  where
    return-by : (b : Bool) → a ∷ (if b then [] else last ∷ []) ≡ (if b then a ∷ [] else a ∷ last ∷ [])
    return-by true = refl
    return-by false = refl
return-last (a ∷ b ∷ front) last = ap (λ l. a ∷ l) (return-last (b ∷ front) last) ∙ return-by (last == 13)
  where
    return-by : (t : Bool) → a ∷ (if t then b ∷ front else b ∷ (front ++ last ∷ [])) ≡ (if t then a ∷ b ∷ front else a ∷ b ∷ (front ++ last ∷ []))
    return-by true = refl
    return-by false = refl

pub returned : (line front : List ℕ) (last : ℕ) → line ≡ front ++ last ∷ [] → (last == 13) ≡ true → front ≡ without_return line
returned line front last is test = sym (ap without_return is ∙ return-last front last ∙ ap (λ b. if b then front else front ++ last ∷ []) test)

pub unreturned : (line front : List ℕ) (last : ℕ) → line ≡ front ++ last ∷ [] → (last == 13) ≡ false → line ≡ without_return line
unreturned line front last is test = is ∙ sym (ap without_return is ∙ return-last front last ∙ ap (λ b. if b then front else front ++ last ∷ []) test)

pub line-last : (text line : List ℕ) → slice_split ends_line text ≡ line ∷ [] → lines_of text ≡ line ∷ []
unfolding lines_of
line-last text line is = ap ended_lines is

ended-more : (piece : List ℕ) (pieces : List (List ℕ)) → 0 < length pieces → ended_lines (piece ∷ pieces) ≡ without_return piece ∷ ended_lines pieces
ended-more piece [] some = absurd (omega arith)
ended-more piece (next ∷ pieces) some = refl

pub line-first : (text line more : List ℕ) → slice_split ends_line text ≡ line ∷ slice_split ends_line more → 0 < length (slice_split ends_line more)
    → lines_of text ≡ without_return line ∷ lines_of more
unfolding lines_of
line-first text line more is some = ap ended_lines is ∙ ended-more line (slice_split ends_line more) some
