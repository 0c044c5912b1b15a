-- What an append makes of a log.
use Rattle.std.proofs.Common.{◌≡◌, inl, inr, ⊎_elim, ℕ, ◌+◌, ◌≤◌, List, [], ◌∷◌, ◌++◌, length, flat_map, None, sym, ap, ◌∙◌, subst, arith, append_assoc, append-nil, length-append}
use Rattle.std.specs.Int.{IsInRange}
use Rattle.std.proofs.lemmas.List.Concat.{flat_map-append}
use Rattle.std.proofs.lemmas.List.Elements.{All-push}
use Rattle.disk_model.specs.Disk.{DiskState, LeavesOnly}
use Rattle.disk_model.proofs.Moments.{weaker}
use Rattle.explorer_model.specs.StoreFile.{header, record_bytes, front_of, gate_limit, CanStand}
use Rattle.explorer_model.proofs.StoreReading.{records-read}
use Rattle.record_log.specs.Log.{Log, IsShutBehind, IsShutWithOrWithout, reading_of, HasPayloads, IsWithOrWithout, EachImage, IsLogOf, IsTornOf, IsWrittenOf, behind_gate}
use Rattle.record_log.specs.declared.format.Format.{Format}
use Rattle.record_log.proofs.SyncedWrites.{ToldIsLeft, first-leaves, second-leaves, record-added}

pub length-record : (payload : List ℕ) → length (record_bytes payload) ≡ 5 + length payload
length-record payload = omega arith

-- ---- one payload more

module _ (number : ℕ) (payloads : List (List ℕ)) (payload : List ℕ) where
  abbrev more : List (List ℕ)
  more = payloads ++ payload ∷ []

  pub front-more : front_of number more ≡ front_of number payloads ++ record_bytes payload
  front-more =
      ap (λ (l : List ℕ). header number ++ l)
      (flat_map-append record_bytes payloads (payload ∷ [])
      ∙ ap (λ (l : List ℕ). flat_map record_bytes payloads ++ l) (append-nil (record_bytes payload)))
      ∙ sym (append_assoc (header number) (flat_map record_bytes payloads) (record_bytes payload))

  pub length-more : length (front_of number more) ≡ length (front_of number payloads) + (5 + length payload)
  length-more =
      ap length front-more ∙ length-append (front_of number payloads) (record_bytes payload)
      ∙ ap (λ (n : ℕ). length (front_of number payloads) + n) (length-record payload)

  pub can-more : (most : ℕ) → CanStand most number payloads → IsInRange 1 most (length payload)
      → length (front_of number payloads) + 5 + length payload ≤ gate_limit → CanStand most number more
  can-more most can allowed low = record {
    number = can.number;
    lengths = All-push (λ (p : List ℕ). IsInRange 1 most (length p)) payloads payload can.lengths allowed;
    lengths_fit = can.lengths_fit;
    places = omega (arith, length-more);
  }

-- an image that ends payloads with its gate has these records
pub shut-records : (format : Format) (payloads : List (List ℕ)) (image : List ℕ)
    → CanStand format.most format.number payloads → IsShutBehind (front_of format.number payloads) image
    → HasPayloads format payloads image
shut-records format payloads image can shut =
    ap (reading_of format) shut.bytes
    ∙ records-read format.most format.number payloads shut.gate shut.rest can shut.shut

module _ {D : Type 0} (disk : D → DiskState) (left_since : D → ℕ → List ℕ → Type 0)
    (payloads : List (List ℕ)) (payload : List ℕ) (old : Log D) (holds : IsLogOf disk left_since payloads old)
    (allowed : IsInRange 1 old.format.most (length payload)) (low : old.gate + 5 + length payload ≤ gate_limit) where
  abbrev front : List ℕ
  front = front_of old.format.number payloads

  abbrev Either : List ℕ → Type 0
  Either = IsShutWithOrWithout front payload

  can : CanStand old.format.most old.format.number (payloads ++ payload ∷ [])
  can = can-more old.format.number payloads payload old.format.most holds.can_stand allowed (omega (arith, low, holds.place))

  more-records : (image : List ℕ) → IsShutBehind (front ++ record_bytes payload) image
      → HasPayloads old.format (payloads ++ payload ∷ []) image
  more-records image shut =
      shut-records old.format (payloads ++ payload ∷ []) image can
      (subst (λ (f : List ℕ). IsShutBehind f image) (sym (front-more old.format.number payloads payload)) shut)

  -- the record was written, or a part of it
  log-leaves : (new : D) → LeavesOnly disk left_since old.disk new Either
      → LeavesOnly disk left_since old.disk new (IsWithOrWithout old.format payloads payload)
  log-leaves new =
      weaker disk left_since old.disk new Either (IsWithOrWithout old.format payloads payload)
      (λ image either. ⊎_elim (λ shut. inl (shut-records old.format payloads image holds.can_stand shut)) (λ shut. inr (more-records image shut)) either)

  -- all of it was
  log-added : (new : Log D) → new.fault ≡ None → new.format ≡ old.format → new.gate ≡ old.gate + (5 + length payload)
      → EachImage disk left_since new.disk (IsShutBehind (front ++ record_bytes payload))
      → IsLogOf disk left_since (payloads ++ payload ∷ []) new
  log-added new sound format gate shut =
      let whole = front-more old.format.number payloads payload in
      record {
        sound = sound;
        can_stand = subst (λ (f : Format). CanStand f.most f.number (payloads ++ payload ∷ [])) (sym format) can;
        place =
            gate ∙ ap (λ (n : ℕ). n + (5 + length payload)) holds.place ∙ sym (length-more old.format.number payloads payload)
            ∙ ap (λ (f : Format). length (front_of f.number (payloads ++ payload ∷ []))) (sym format);
        shut = λ image left.
            subst (λ (f : Format). IsShutBehind (front_of f.number (payloads ++ payload ∷ [])) image) (sym format)
            (subst (λ (f : List ℕ). IsShutBehind f image) (sym whole) (shut image left));
        records = λ image left.
            subst (λ (f : Format). HasPayloads f (payloads ++ payload ∷ []) image) (sym format)
            (more-records image (shut image left));
      }

  -- what stands behind the gate is written, and then the gate
  module _ (told : ToldIsLeft disk left_since) (behind : List ℕ) (is : behind ≡ behind_gate payload) (middle : D)
      (first : LeavesOnly disk left_since old.disk middle (IsTornOf disk left_since old.disk (old.gate + 1) (length behind))) where
    pub one-write-leaves : LeavesOnly disk left_since old.disk middle (IsWithOrWithout old.format payloads payload)
    one-write-leaves =
        log-leaves middle
        (first-leaves disk left_since told old.disk old.gate front payload behind holds.place is holds.shut (length behind) middle first)

    module _ (wrote : EachImage disk left_since middle (IsWrittenOf (disk old.disk) (old.gate + 1) behind)) where
      pub both-writes-leave : (new : D) → LeavesOnly disk left_since middle new (IsTornOf disk left_since middle old.gate 1)
          → LeavesOnly disk left_since old.disk new (IsWithOrWithout old.format payloads payload)
      both-writes-leave new second =
          log-leaves new
          (second-leaves disk left_since told old.disk old.gate front payload behind holds.place is holds.shut (length behind) middle new
          first wrote second)

      pub both-writes-add : (new : Log D) → new.fault ≡ None → new.format ≡ old.format → new.gate ≡ old.gate + (5 + length payload)
          → EachImage disk left_since new.disk (IsWrittenOf (disk middle) old.gate (1 ∷ []))
          → IsLogOf disk left_since (payloads ++ payload ∷ []) new
      both-writes-add new sound format gate again =
          log-added new sound format gate
          (record-added disk left_since told old.disk old.gate front payload behind holds.place is holds.shut (length behind) middle new.disk
          first wrote again)
