-- What is read of a log's file is one thing.
use Rattle.std.proofs.Common.{◌≡◌, ℕ, ◌+◌, List, [], ◌∷◌, length, map, Option, Some, IfSome, Ok, Err, refl, sym, ap, ◌∙◌}
use Rattle.plain_laws.specs.Options.{IfSome-at}
use Rattle.plain_laws.specs.Results.{Ok-Err, same_Err}
use Rattle.disk_model.specs.Disk.{DiskState}
use Rattle.explorer_model.specs.StoreFile.{Reading, Record, record_bytes, front_of, records_at}
use Rattle.explorer_model.specs.declared.store.LogFault.{LogFault}
use Rattle.record_log.specs.Log.{Log, HasPayloads, IsCreated, IsOpened, reading_of}
use Rattle.record_log.specs.declared.format.Format.{Format}

payloads-at : (place : ℕ) (payloads : List (List ℕ)) → map (λ (r : Record). r.payload) (records_at place payloads) ≡ payloads
payloads-at place [] = refl
payloads-at place (payload ∷ payloads) =
    ap (λ (l : List (List ℕ)). payload ∷ l) (payloads-at (place + length (record_bytes payload)) payloads)

records_same : (reading : Reading (List Record)) (records others : List Record) → reading ≡ Ok records → reading ≡ Ok others → records ≡ others
records_same reading records others is also = cc

-- an image has one list of payloads
pub one_list : (format : Format) (payloads others : List (List ℕ)) (image : List ℕ)
    → HasPayloads format payloads image → HasPayloads format others image → payloads ≡ others
one_list format payloads others image has also =
    sym (payloads-at 12 payloads)
    ∙ ap (map (λ (r : Record). r.payload)) (records_same (reading_of format image) (records_at 12 payloads) (records_at 12 others) has also)
    ∙ payloads-at 12 others

fault_read : (format : Format) (content : Option (List ℕ)) (file : List ℕ) → content ≡ Some file → (fault : LogFault)
    → IfSome content (λ f. reading_of format f ≡ Err fault) → reading_of format file ≡ Err fault
fault_read format content file told fault read = IfSome-at (λ f. reading_of format f ≡ Err fault) content file told read

-- a content that is refused has one fault
pub one_fault : (format : Format) (content : Option (List ℕ)) (file : List ℕ) → content ≡ Some file → (fault other : LogFault)
    → IfSome content (λ f. reading_of format f ≡ Err fault) → IfSome content (λ f. reading_of format f ≡ Err other) → fault ≡ other
one_fault format content file told fault other read also =
    same_Err (reading_of format file) fault other (fault_read format content file told fault read) (fault_read format content file told other also)

-- where the closed gate of a log with these payloads stands
gate_of : (format : Format) (payloads : List (List ℕ)) → ℕ
gate_of format payloads = length (front_of format.number payloads)

module _ {D : Type 0} (disk : D → DiskState) (left_since : D → ℕ → List ℕ → Type 0) (format : Format) (before : D) where
  opened_gate : (payloads : List (List ℕ)) (log : Log D) → IsOpened disk left_since format payloads before log → log.gate ≡ gate_of format payloads
  unfolding gate_of
  opened_gate payloads log opened = opened.holds.place ∙ ap (λ (f : Format). length (front_of f.number payloads)) opened.is_format

  created_gate : (log : Log D) → IsCreated disk left_since format before log → log.gate ≡ gate_of format []
  unfolding gate_of
  created_gate log created = created.holds_none.place ∙ ap (λ (f : Format). length (front_of f.number [])) created.is_format

  pub created_one : (log after : Log D) → IsCreated disk left_since format before log → IsCreated disk left_since format before after
      → (log.gate ≡ after.gate) × (log.format ≡ after.format) × (log.fault ≡ after.fault)
  created_one log after created also = (
    created_gate log created ∙ sym (created_gate after also),
    created.is_format ∙ sym also.is_format,
    created.holds_none.sound ∙ sym also.holds_none.sound,
  )

  module _ (file : List ℕ) (told : (disk before).content ≡ Some file) where
    payloads_read : (payloads : List (List ℕ)) (log : Log D) → IsOpened disk left_since format payloads before log → HasPayloads format payloads file
    payloads_read payloads log opened = IfSome-at (HasPayloads format payloads) (disk before).content file told opened.read

    pub opened_one : (payloads others : List (List ℕ)) (log after : Log D) → IsOpened disk left_since format payloads before log
        → IsOpened disk left_since format others before after → (payloads ≡ others) × (log.gate ≡ after.gate)
    opened_one payloads others log after opened also =
        let same = one_list format payloads others file (payloads_read payloads log opened) (payloads_read others after also) in
        (same, opened_gate payloads log opened ∙ ap (gate_of format) same ∙ sym (opened_gate others after also))

    pub opened_or_refused : (payloads : List (List ℕ)) (log : Log D) (fault : LogFault) → IsOpened disk left_since format payloads before log
        → IfSome (disk before).content (λ f. reading_of format f ≡ Err fault) → ⊥
    opened_or_refused payloads log fault opened read =
        Ok-Err (reading_of format file) (records_at 12 payloads) fault (payloads_read payloads log opened) (fault_read format (disk before).content file told fault read)
