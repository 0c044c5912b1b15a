-- Writes that are synced.
use Rattle.std.proofs.Common.{◌≡◌, inl, ℕ, ◌+◌, List, [], ◌∷◌, ◌++◌, Option, Some, None, length, drop, get_or, refl, sym, ap, ◌∙◌, subst, arith}
use Rattle.std.specs.Option.{option_map}
use Rattle.disk_model.specs.Disk.{DiskState, Stays, Writes, Torn, written, MayLeave, Same, Elapses, IsDurable, LeavesOnly}
use Rattle.disk_model.specs.Images.{torn-same}
use Rattle.disk_model.proofs.Moments.{goes_on, one_call, weaker, joined}
use Rattle.explorer_model.specs.StoreFile.{record_bytes}
use Rattle.record_log.specs.Log.{EachImage, IsShutBehind, IsShutWithOrWithout, IsTornOf, IsWrittenOf, behind_gate}
use Rattle.record_log.proofs.Gates.{torn-behind, written-behind, torn-gate, written-gate, opened, either_gate}

mapped : (f : List ℕ → List ℕ) (told : Option (List ℕ)) (image : List ℕ) → option_map f told ≡ Some image
    → (file : List ℕ) × (told ≡ Some file) × (image ≡ f file)
mapped f None image is = absurd (cc (is))
mapped f (Some file) image is =
    let same : image ≡ f file = cc (is) in
    (file, refl, same)

module _ {D : Type 0} (disk : D → DiskState) (left_since : D → ℕ → List ℕ → Type 0) where
  torn-now : (old middle : D) (at n : ℕ) → Elapses disk left_since (Torn at n) old middle
      → EachImage disk left_since middle (IsTornOf disk left_since old at n)
  torn-now old middle at n time image left = time.now image left

  pub after_write : (old middle : D) (at n : ℕ) → Elapses disk left_since (Torn at n) old middle
      → LeavesOnly disk left_since old middle (IsTornOf disk left_since old at n)
  after_write old middle at n time =
      one_call disk left_since old middle (IsTornOf disk left_since old at n) (Torn at n) time
      (λ image left. (image, left, torn-same at n image)) (torn-now old middle at n time)

  pub after_sync : (old middle new : D) (at n : ℕ) → Elapses disk left_since (Torn at n) old middle
      → Elapses disk left_since Same middle new → LeavesOnly disk left_since old new (IsTornOf disk left_since old at n)
  after_sync old middle new at n time later =
      goes_on disk left_since old middle new (IsTornOf disk left_since old at n) Same (after_write old middle at n time) later
      (λ image left.
      let past = later.now image left in
      subst (IsTornOf disk left_since old at n) (sym past.2) (torn-now old middle at n time past.0 past.1))

  pub is-written : (old middle new : D) (at : ℕ) (piece : List ℕ) → Writes at piece (disk old) (disk middle)
      → Stays (disk middle) (disk new) → IsDurable disk left_since new
      → EachImage disk left_since new (IsWrittenOf (disk old) at piece)
  is-written old middle new at piece writes stays durable image left =
      let kept = ap (λ (s : DiskState). s.content) stays in
      mapped (written at piece) (disk old).content image (sym (kept ∙ writes.content) ∙ durable image left)

  -- what a disk tells is one of its images
  abbrev pub ToldIsLeft : Type 0
  ToldIsLeft = (it : D) (file : List ℕ) → (disk it).content ≡ Some file → MayLeave disk left_since it file

  -- ---- the two writes of a record

  module _ (told : ToldIsLeft) (old : D) (at : ℕ) (front payload behind : List ℕ) (place : at ≡ length front)
      (is : behind ≡ behind_gate payload) (shut : EachImage disk left_since old (IsShutBehind front)) where
    abbrev Either : List ℕ → Type 0
    Either = IsShutWithOrWithout front payload

    torn-first : (n : ℕ) (image : List ℕ) → IsTornOf disk left_since old (at + 1) n image → IsShutBehind front image
    torn-first n image torn =
        let was = shut torn.0 torn.1 in
        torn-behind front was.gate was.rest n image was.shut
        (subst (λ (k : ℕ). Torn (k + 1) n (front ++ was.gate ∷ was.rest) image) place
        (subst (λ (b : List ℕ). Torn (at + 1) n b image) was.bytes torn.2))

    pub first-leaves : (n : ℕ) (middle : D) → LeavesOnly disk left_since old middle (IsTornOf disk left_since old (at + 1) n)
        → LeavesOnly disk left_since old middle Either
    first-leaves n middle =
        weaker disk left_since old middle (IsTornOf disk left_since old (at + 1) n) Either (λ image torn. inl (torn-first n image torn))

    -- once the first is synced, a whole record stands behind the gate
    IsStaged : List ℕ → Type 0
    IsStaged image = (gate : ℕ) × (rest : List ℕ) × (image ≡ front ++ gate ∷ (behind_gate payload ++ rest))

    staged : (image : List ℕ) → IsWrittenOf (disk old) (at + 1) behind image → IsStaged image
    unfolding IsStaged
    staged image wrote =
        let was = shut wrote.0 (told old wrote.0 wrote.1) in
        let tail = drop (length front + 1 + length behind) (front ++ was.gate ∷ was.rest) in (
          was.gate,
          tail,
          wrote.2 ∙ (λ i. written (place i + 1) behind (was.bytes i)) ∙ written-behind front was.gate was.rest behind
              ∙ ap (λ (b : List ℕ). front ++ was.gate ∷ (b ++ tail)) is,
        )

    module _ (n : ℕ) (middle new : D) (first : LeavesOnly disk left_since old middle (IsTornOf disk left_since old (at + 1) n))
        (wrote : EachImage disk left_since middle (IsWrittenOf (disk old) (at + 1) behind)) where
      torn-second : (image : List ℕ) → IsTornOf disk left_since middle at 1 image → Either image
      unfolding IsStaged
      torn-second image torn =
          let was = staged torn.0 (wrote torn.0 torn.1) in
          let rest = behind_gate payload ++ was.1 in
          let whole = torn-gate front was.0 rest image
          (subst (λ (k : ℕ). Torn k 1 (front ++ was.0 ∷ rest) image) place
          (subst (λ (b : List ℕ). Torn at 1 b image) was.2 torn.2)) in
          subst Either (sym whole) (either_gate front payload was.1 (get_or image (length front) 0))

      pub second-leaves : LeavesOnly disk left_since middle new (IsTornOf disk left_since middle at 1)
          → LeavesOnly disk left_since old new Either
      second-leaves second =
          joined disk left_since old middle new Either (first-leaves n middle first)
          (weaker disk left_since middle new (IsTornOf disk left_since middle at 1) Either torn-second second)

      pub record-added : EachImage disk left_since new (IsWrittenOf (disk middle) at (1 ∷ []))
          → EachImage disk left_since new (IsShutBehind (front ++ record_bytes payload))
      unfolding IsStaged
      record-added again image left =
          let now = again image left in
          let was = staged now.0 (wrote now.0 (told middle now.0 now.1)) in
          let rest = behind_gate payload ++ was.1 in
          record {
            gate = 0;
            rest = was.1;
            shut = (λ zero_one. absurd (omega (arith, zero_one)));
            bytes =
                now.2 ∙ (λ i. written (place i) (1 ∷ []) (was.2 i)) ∙ written-gate front was.0 rest 1
                ∙ opened front payload was.1;
          }
