-- The batches of a segment: where a game stands among them, and more of them behind others.
use Rattle.std.proofs.Common.{◌≡◌, ℕ, zero, suc, ◌+◌, ◌<◌, ◌≤◌, List, [], ◌∷◌, ◌++◌, take, length, Some, refl, sym, ap, subst, ◌∙◌, arith}
use Rattle.std.specs.List.{slice_get}
use Rattle.std.proofs.lemmas.List.{length-append}
use Rattle.std.proofs.lemmas.Option.{none-some, same_Some}
use Rattle.plain_laws.specs.Lists.{get-behind, get-front}
use Rattle.explorer_model.specs.Visits.{texts_of}
use Rattle.segment_blocks.specs.declared.held_batch.HeldBatch.{HeldBatch}
use Rattle.segment_blocks.specs.HeldBatches.{batch_of, classes_of, all_batches, all_classes, IsHeldFrom, StandFrom, IsGame}

-- ---- places in two lists

-- ---- a batch at its place

-- how many games stand before batch n
abbrev pub games_before : ℕ → List HeldBatch → ℕ
games_before n held = length (all_classes (take n held))

pub games_before-next : (all : List HeldBatch) (k : ℕ) (h : HeldBatch) → slice_get all k ≡ Some h
    → games_before (suc k) all ≡ games_before k all + length (classes_of h)
games_before-next [] k h e = absurd (none-some h e)
games_before-next (x ∷ xs) zero h e =
    omega (arith, length-append (classes_of x) [], ap (λ b. length (classes_of b)) (same_Some x h e))
games_before-next (x ∷ xs) (suc k) h e =
    omega (arith, length-append (classes_of x) (all_classes (take (suc k) xs)), length-append (classes_of x) (all_classes (take k xs)), games_before-next xs k h e)

pub games_before-within : (all : List HeldBatch) (k : ℕ) → games_before k all ≤ length (all_classes all)
games_before-within [] zero = omega arith
games_before-within [] (suc k) = omega arith
games_before-within (x ∷ xs) zero = omega arith
games_before-within (x ∷ xs) (suc k) =
    omega (arith, length-append (classes_of x) (all_classes (take k xs)), length-append (classes_of x) (all_classes xs), games_before-within xs k)

pub stand-at : (first : ℕ) (all : List HeldBatch) (k : ℕ) (h : HeldBatch) → StandFrom first all → slice_get all k ≡ Some h
    → IsHeldFrom (first + games_before k all) h
stand-at first [] k h stand e = absurd (none-some h e)
stand-at first (x ∷ xs) zero h stand e =
    let same = same_Some x h e in
    record {
      start = omega (arith, stand.0.start, ap (λ (b : HeldBatch). b.start) same);
      aligned = subst (λ b. length (batch_of b).texts ≡ length (classes_of b)) same stand.0.aligned;
    }
stand-at first (x ∷ xs) (suc k) h stand e =
    let there = stand-at (first + length (classes_of x)) xs k h stand.1 e in
    record {
      start = omega (arith, there.start, length-append (classes_of x) (all_classes (take k xs)));
      aligned = there.aligned;
    }

-- ---- a game at its place

pub game-at : (first : ℕ) (all : List HeldBatch) (k n m : ℕ) (h : HeldBatch) → StandFrom first all → slice_get all k ≡ Some h
    → n ≡ games_before k all + m → m < length (classes_of h) → IsGame all n h m
game-at first [] k n m h stand e at inside = absurd (none-some h e)
game-at first (x ∷ xs) zero n m h stand e at inside = subst (λ b. IsGame (x ∷ xs) n b m) (same_Some x h e) here
  where
    n_is : n ≡ m
    n_is = omega (arith, at)

    in_first : m < length (classes_of x)
    in_first = subst (λ b. m < length (classes_of b)) (sym (same_Some x h e)) inside

    in_texts : m < length (batch_of x).texts
    in_texts = omega (arith, in_first, stand.0.aligned)

    here : IsGame (x ∷ xs) n x m
    here = record {
      in_classes = in_first;
      in_texts = in_texts;
      classes = sym (ap (slice_get (classes_of x ++ all_classes xs)) n_is ∙ get-front (classes_of x) (all_classes xs) m in_first);
      text = sym (ap (slice_get ((batch_of x).texts ++ texts_of (all_batches xs))) n_is
          ∙ get-front (batch_of x).texts (texts_of (all_batches xs)) m in_texts);
    }
game-at first (x ∷ xs) (suc k) n m h stand e at inside =
    let n' = games_before k xs + m in
    let there = game-at (first + length (classes_of x)) xs k n' m h stand.1 e refl inside in
    let n_is : n ≡ length (classes_of x) + n' = omega (arith, at, length-append (classes_of x) (all_classes (take k xs))) in
    record {
      in_classes = there.in_classes;
      in_texts = there.in_texts;
      classes = there.classes ∙ sym (get-behind (classes_of x) (all_classes xs) n' n n_is);
      text = there.text
          ∙ sym (get-behind (batch_of x).texts (texts_of (all_batches xs)) n' n (omega (arith, n_is, stand.0.aligned)));
    }

-- ---- a batch behind others

pub stand-push : (first : ℕ) (all : List HeldBatch) (h : HeldBatch) → StandFrom first all
    → IsHeldFrom (first + length (all_classes all)) h → StandFrom first (all ++ h ∷ [])
stand-push first [] h stand is = (record { start = omega (arith, is.start); aligned = is.aligned }, tt)
stand-push first (x ∷ xs) h stand is = (
  stand.0,
  stand-push (first + length (classes_of x)) xs h stand.1
      (record { start = omega (arith, is.start, length-append (classes_of x) (all_classes xs)); aligned = is.aligned }),
)
