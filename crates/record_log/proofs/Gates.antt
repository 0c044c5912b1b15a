-- What writes at a gate make of an image.
use Rattle.std.proofs.Common.{◌≡◌, ◌≢◌, ◌⊎◌, inl, inr, ℕ, ◌+◌, List, [], ◌∷◌, ◌++◌, length, take, drop, get_or, refl, sym, ap, ◌∙◌, arith, append_assoc, length-append, take-append-drop}
use Rattle.std.proofs.lemmas.List.{take_at, drop_at, drop_more}
use Rattle.std.proofs.lemmas.Bool.{cases_eq}
use Rattle.std.specs.Int.{w32, to_le_bytes}
use Rattle.disk_model.specs.Disk.{written, Torn}
use Rattle.explorer_model.specs.StoreFile.{record_bytes}
use Rattle.record_log.specs.Log.{IsShutBehind, behind_gate}

module _ (front : List ℕ) (gate : ℕ) (rest : List ℕ) where
  abbrev whole : List ℕ
  whole = front ++ gate ∷ rest

  split_one : whole ≡ (front ++ gate ∷ []) ++ rest
  split_one = sym (append_assoc front (gate ∷ []) rest)

  long_one : length (front ++ gate ∷ []) ≡ length front + 1
  long_one = omega (arith, length-append front (gate ∷ []))

  pub take-front : take (length front) whole ≡ front
  take-front = take_at front (gate ∷ rest) (length front) refl

  pub take-gate : take (length front + 1) whole ≡ front ++ gate ∷ []
  take-gate =
      ap (take (length front + 1)) split_one ∙ take_at (front ++ gate ∷ []) rest (length front + 1) long_one

  pub drop-gate : drop (length front + 1) whole ≡ rest
  drop-gate =
      ap (drop (length front + 1)) split_one ∙ drop_at (front ++ gate ∷ []) rest (length front + 1) long_one

  -- a write behind the gate that is cut short leaves the gate
  pub torn-behind : (n : ℕ) (image : List ℕ) → gate ≢ 1 → Torn (length front + 1) n whole image → IsShutBehind front image
  torn-behind n image shut torn =
      let tail = drop (length front + 1) image in
      record {
        gate = gate;
        rest = tail;
        shut = shut;
        bytes =
            sym (take-append-drop (length front + 1) image)
            ∙ ap (λ (l : List ℕ). l ++ tail) (torn.before ∙ take-gate) ∙ append_assoc front (gate ∷ []) tail;
      }

  -- one that is done puts its piece there
  pub written-behind : (piece : List ℕ)
      → written (length front + 1) piece whole ≡ front ++ gate ∷ (piece ++ drop (length front + 1 + length piece) whole)
  written-behind piece =
      let tail = drop (length front + 1 + length piece) whole in
      ap (λ (l : List ℕ). (l ++ piece) ++ tail) take-gate
      ∙ ap (λ (l : List ℕ). l ++ tail) (append_assoc front (gate ∷ []) piece)
      ∙ append_assoc front (gate ∷ piece) tail

  -- a write of the gate leaves some byte there
  pub torn-gate : (image : List ℕ) → Torn (length front) 1 whole image
      → image ≡ front ++ get_or image (length front) 0 ∷ rest
  torn-gate image torn =
      let at = length front in
      let long : length whole ≡ at + (1 + length rest) = omega (arith, length-append front (gate ∷ rest)) in
      sym (take-append-drop at image) ∙ ap (λ (l : List ℕ). l ++ drop at image) (torn.before ∙ take-front)
      ∙ ap (λ (l : List ℕ). front ++ l)
      (drop_more image at 0 (omega (arith, torn.no_shorter, long))
      ∙ ap (λ (l : List ℕ). get_or image at 0 ∷ l) (torn.after ∙ drop-gate))

  pub written-gate : (open_gate : ℕ) → written (length front) (open_gate ∷ []) whole ≡ front ++ open_gate ∷ rest
  written-gate open_gate =
      ap (λ (l : List ℕ). (l ++ open_gate ∷ []) ++ drop (length front + 1) whole) take-front
      ∙ ap (λ (l : List ℕ). (front ++ open_gate ∷ []) ++ l) drop-gate ∙ append_assoc front (open_gate ∷ []) rest

-- a gate in front of a whole payload
module _ (front payload rest : List ℕ) where
  abbrev behind : List ℕ
  behind = behind_gate payload ++ rest

  -- an open one adds it
  pub opened : front ++ 1 ∷ behind ≡ (front ++ record_bytes payload) ++ 0 ∷ rest
  opened =
      let size = to_le_bytes w32 (length payload) in
      ap (λ (l : List ℕ). front ++ 1 ∷ l) (append_assoc (size ++ payload) (0 ∷ []) rest)
      ∙ sym (append_assoc front (1 ∷ (size ++ payload)) (0 ∷ rest))

  pub either_gate : (gate : ℕ) → IsShutBehind front (front ++ gate ∷ behind) ⊎ IsShutBehind (front ++ record_bytes payload) (front ++ gate ∷ behind)
  either_gate gate = elim (cases_eq gate 1) [
    | inl is ↦
        inr (record { gate = 0; rest = rest; shut = (λ zero_one. absurd (omega (arith, zero_one))); bytes = ap (λ (g : ℕ). front ++ g ∷ behind) is ∙ opened })
    | inr shut ↦ inl (record { gate = gate; rest = behind; shut = shut; bytes = refl })
  ]
