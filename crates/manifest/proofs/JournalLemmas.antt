-- Batches one after another.
use Rattle.std.proofs.Common.{◌≡◌, inl, inr, ⊎_elim, ℕ, ◌+◌, ◌≤◌, List, [], ◌∷◌, ◌++◌, length, map, flat_map, All, Option, Some, None, Result, Ok, Err, OnOk, MatchResult, refl, sym, ap, ◌∙◌, subst, arith, append-nil, append_assoc, length-append, add-zero}
use Rattle.std.specs.List.{AllByRecursion}
use Rattle.std.specs.Result.{result_map_both}
use Rattle.std.proofs.lemmas.List.{map-append}
use Rattle.std.proofs.lemmas.List.Concat.{flat_map-append}
use Rattle.std.proofs.lemmas.List.Elements.{recursion_from_All, All-from_recursion, All-push}
use Rattle.disk_model.specs.Disk.{DiskState, LeavesOnly}
use Rattle.disk_model.proofs.Moments.{weaker}
use Rattle.explorer_model.specs.declared.archive.Batch.{Batch}
use Rattle.explorer_model.specs.declared.store.LogFault.TheVariants.{Damaged}
use Rattle.explorer_model.specs.StoreFile.{record_bytes, payload_of, Reading, batch_in, and_batch, batches_in, journal_by, journal_of, IsStorable, records_at, store_of, store_format, payload_limit, gate_limit, front_of, CanStand}
use Rattle.explorer_model.proofs.StoreReading.{batch-read}
use Rattle.record_log.specs.declared.fault.AppendFault.{AppendFault}
use Rattle.record_log.specs.declared.format.Format.{Format}
use Rattle.record_log.specs.Log.{Log, Adds, IsNotAdded, HasPayloads, IsWithOrWithout, IsLogOf}
use Rattle.manifest.specs.Manifest.{batch_format, HasJournal, IsWithOrWithoutBatch, IsManifestOf}

-- ---- batches and payloads

abbrev with_front : List Batch → Reading (List Batch) → Reading (List Batch)
with_front front others = result_map_both (λ batches. front ++ batches) (λ fault. fault) others

with-none : (others : Reading (List Batch)) → others ≡ with_front [] others
with-none (Ok batches) = refl
with-none (Err fault) = refl

with-one : (gate : ℕ) (batch : Batch) (front : List Batch) (others : Reading (List Batch))
    → and_batch gate (Some batch) (with_front front others) ≡ with_front (batch ∷ front) others
with-one gate batch front (Ok batches) = refl
with-one gate batch front (Err fault) = refl

abbrev payloads_size : List Batch → ℕ
payloads_size journal = length (flat_map record_bytes (map payload_of journal))

-- batches stand before what is read behind them
batches-behind : (place : ℕ) (journal : List Batch) (payloads : List (List ℕ)) → AllByRecursion IsStorable journal
    → batches_in batch_in (records_at place (map payload_of journal ++ payloads))
    ≡ with_front journal (batches_in batch_in (records_at (place + payloads_size journal) payloads))
unfolding batches_in
batches-behind place [] payloads fit =
    with-none (batches_in batch_in (records_at place payloads))
    ∙ ap (λ (at : ℕ). with_front [] (batches_in batch_in (records_at at payloads))) (sym (add-zero place))
batches-behind place (batch ∷ journal) payloads fit =
    let size = length (record_bytes (payload_of batch)) in
    let rest = payloads_size journal in
    let whole : (place + length (record_bytes (payload_of batch))) + payloads_size journal ≡ place + payloads_size (batch ∷ journal) =
    omega (arith, length-append (record_bytes (payload_of batch)) (flat_map record_bytes (map payload_of journal))) in
    rw (batch-read batch fit.0)
    (ap (λ (r : Reading (List Batch)). and_batch place (Some batch) r) (batches-behind (place + size) journal payloads fit.1)
    ∙ with-one place batch journal (batches_in batch_in (records_at ((place + size) + rest) payloads))
    ∙ ap (λ (at : ℕ). with_front (batch ∷ journal) (batches_in batch_in (records_at at payloads))) whole)

pub batches-read : (journal : List Batch) → All IsStorable journal → batches_in batch_in (records_at 12 (map payload_of journal)) ≡ Ok journal
unfolding batches_in
batches-read journal fit =
    let done : List Batch → Reading (List Batch) = λ batches. Ok batches in
    ap (λ (l : List (List ℕ)). batches_in batch_in (records_at 12 l)) (sym (append-nil (map payload_of journal)))
    ∙ batches-behind 12 journal [] (recursion_from_All IsStorable journal fit) ∙ ap done (append-nil journal)

-- a payload off the form
pub batches-damaged : (gate : ℕ) (journal : List Batch) (payload : List ℕ) (payloads : List (List ℕ)) → All IsStorable journal
    → gate ≡ length (store_of journal) → batch_in payload ≡ None
    → batches_in batch_in (records_at 12 (map payload_of journal ++ payload ∷ payloads)) ≡ Err (Damaged gate)
unfolding batches_in
batches-damaged gate journal payload payloads fit place none =
    let at : 12 + payloads_size journal ≡ gate = omega (arith, place) in
    let fault : ℕ → Reading (List Batch) = λ g. Err (Damaged g) in
    batches-behind 12 journal (payload ∷ payloads) (recursion_from_All IsStorable journal fit)
    ∙ ap (λ (found : Option Batch). with_front journal (and_batch (12 + payloads_size journal) found
    (batches_in batch_in (records_at ((12 + payloads_size journal) + length (record_bytes payload)) payloads)))) none
    ∙ ap fault at

-- ---- where the gates stand

-- payloads in front of another one
pub length-front : (number : ℕ) (payloads : List (List ℕ)) (payload : List ℕ) (rest : List (List ℕ))
    → length (front_of number (payloads ++ payload ∷ rest))
    ≡ length (front_of number payloads) + (5 + length payload) + length (flat_map record_bytes rest)
length-front number payloads payload rest =
    omega (
      arith,
      ap length (flat_map-append record_bytes payloads (payload ∷ rest)),
      length-append (flat_map record_bytes payloads) (record_bytes payload ++ flat_map record_bytes rest),
      length-append (record_bytes payload) (flat_map record_bytes rest),
    )

front-longer : (number : ℕ) (payloads : List (List ℕ)) (payload : List ℕ)
    → length (front_of number (payloads ++ payload ∷ [])) ≡ length (front_of number payloads) + (5 + length payload)
front-longer number payloads payload = omega (arith, length-front number payloads payload [])

-- ---- journals of images

pub journal-of-payloads : (payloads : List (List ℕ)) (image : List ℕ) (reading : Reading (List Batch))
    → HasPayloads batch_format payloads image → batches_in batch_in (records_at 12 payloads) ≡ reading → journal_of image ≡ reading
unfolding journal_of
journal-of-payloads payloads image reading has read = ap (journal_by batch_in) has ∙ read

pub has-journal : (journal : List Batch) (image : List ℕ) → All IsStorable journal
    → HasPayloads batch_format (map payload_of journal) image → HasJournal journal image
has-journal journal image fit has = journal-of-payloads (map payload_of journal) image (Ok journal) has (batches-read journal fit)

pub map-more : (journal : List Batch) (batch : Batch) → map payload_of (journal ++ batch ∷ []) ≡ map payload_of journal ++ payload_of batch ∷ []
map-more journal batch = map-append payload_of journal (batch ∷ [])

module _ {D : Type 0} (disk : D → DiskState) (left_since : D → ℕ → List ℕ → Type 0) where
  -- a log with the payloads of a journal
  pub holds-journal : (journal : List Batch) (log : Log D) → All IsStorable journal → log.format ≡ batch_format
      → IsLogOf disk left_since (map payload_of journal) log → IsManifestOf disk left_since journal log
  holds-journal journal log fit format holds = record {
    sound = holds.sound;
    is_format = format;
    storable = fit;
    place = holds.place ∙ ap (λ (f : Format). length (front_of f.number (map payload_of journal))) format;
    images = λ image left.
        has-journal journal image fit
        (subst (λ (f : Format). HasPayloads f (map payload_of journal) image) format (holds.records image left));
    payloads = holds;
  }

  module _ (batch : Batch) (fits : IsStorable batch) (old new : Log D) where
    more-storable : (journal : List Batch) → All IsStorable journal → All IsStorable (journal ++ batch ∷ [])
    more-storable journal storable = All-push IsStorable journal batch storable fits

    holds-more : (journal : List Batch) → IsManifestOf disk left_since journal old → new.format ≡ old.format
        → IsLogOf disk left_since (map payload_of journal ++ payload_of batch ∷ []) new
        → IsManifestOf disk left_since (journal ++ batch ∷ []) new
    holds-more journal holds format more =
        holds-journal (journal ++ batch ∷ []) new (more-storable journal holds.storable) (format ∙ holds.is_format)
        (subst (λ (l : List (List ℕ)). IsLogOf disk left_since l new) (sym (map-more journal batch)) more)

    either : (journal : List Batch) → IsManifestOf disk left_since journal old → (image : List ℕ)
        → IsWithOrWithout old.format (map payload_of journal) (payload_of batch) image → IsWithOrWithoutBatch journal batch image
    either journal holds image has =
        let at_format = subst (λ (f : Format). IsWithOrWithout f (map payload_of journal) (payload_of batch) image) holds.is_format has in
        ⊎_elim (λ without. inl (has-journal journal image holds.storable without))
        (λ with_batch. inr (has-journal (journal ++ batch ∷ []) image (more-storable journal holds.storable)
        (subst (λ (l : List (List ℕ)). HasPayloads batch_format l image) (sym (map-more journal batch)) with_batch)))
        at_format

    module _ (bytes : List ℕ) (is : bytes ≡ payload_of batch) where
      -- an append that was done, or was not
      pub stored-by : (result : Result (Unit {0}) AppendFault)
          → MatchResult result (λ _. Adds disk (length bytes) old new) (λ fault. IsNotAdded disk fault old new)
          → OnOk result ((payloads : List (List ℕ)) → IsLogOf disk left_since payloads old → IsLogOf disk left_since (payloads ++ bytes ∷ []) new)
          → OnOk result ((journal : List Batch) → IsManifestOf disk left_since journal old → IsManifestOf disk left_since (journal ++ batch ∷ []) new)
      stored-by (Ok x) adds added = λ journal holds.
          let more = added (map payload_of journal) holds.payloads in
          holds-more journal holds (ap (λ (l : Log D). l.format) adds.rest)
          (subst (λ (b : List ℕ). IsLogOf disk left_since (map payload_of journal ++ b ∷ []) new) is more)
      stored-by (Err e) fails added = tt

      pub leaves-journal :
          ((payloads : List (List ℕ)) → IsLogOf disk left_since payloads old
          → LeavesOnly disk left_since old.disk new.disk (IsWithOrWithout old.format payloads bytes))
          → (journal : List Batch) → IsManifestOf disk left_since journal old
          → LeavesOnly disk left_since old.disk new.disk (IsWithOrWithoutBatch journal batch)
      leaves-journal leaves journal holds =
          let only = subst (λ (b : List ℕ). LeavesOnly disk left_since old.disk new.disk (IsWithOrWithout old.format (map payload_of journal) b)) is
          (leaves (map payload_of journal) holds.payloads) in
          weaker disk left_since old.disk new.disk (IsWithOrWithout old.format (map payload_of journal) (payload_of batch))
          (IsWithOrWithoutBatch journal batch) (either journal holds) only

-- ---- payloads decoded one after another

-- the payloads before a gate are those of these batches, and others stand behind it
pub record IsDecodedUpTo (payloads : List (List ℕ)) (gate : ℕ) (batches : List Batch) (others : List (List ℕ)) : Type 0 where
  pub storable : All IsStorable batches
  pub split : payloads ≡ map payload_of batches ++ others
  pub place : gate ≡ length (store_of batches)

pub decoded-none : (payloads others : List (List ℕ)) → others ≡ payloads → IsDecodedUpTo payloads 12 [] others
decoded-none payloads others same = record {
  storable = All-from_recursion IsStorable [] tt;
  split = sym same;
  place = refl;
}

pub length-more : (batches : List Batch) (batch : Batch)
    → length (store_of (batches ++ batch ∷ [])) ≡ length (store_of batches) + (5 + length (payload_of batch))
length-more batches batch =
    ap (λ (l : List (List ℕ)). length (front_of store_format l)) (map-more batches batch)
    ∙ front-longer store_format (map payload_of batches) (payload_of batch)

module _ (payloads : List (List ℕ)) (gate : ℕ) (batches : List Batch) (payload : List ℕ) (others rest : List (List ℕ))
    (so_far : IsDecodedUpTo payloads gate batches others) (next : others ≡ payload ∷ rest) where
  split_next : payloads ≡ map payload_of batches ++ payload ∷ rest
  split_next = so_far.split ∙ ap (λ (l : List (List ℕ)). map payload_of batches ++ l) next

  pub decoded-more : (batch : Batch) (further : ℕ) → IsStorable batch → payload ≡ payload_of batch → further ≡ gate + (5 + length payload)
      → IsDecodedUpTo payloads further (batches ++ batch ∷ []) rest
  decoded-more batch further fits is place = record {
    storable = All-push IsStorable batches batch so_far.storable fits;
    split =
        split_next ∙ ap (λ (p : List ℕ). map payload_of batches ++ p ∷ rest) is
        ∙ sym (append_assoc (map payload_of batches) (payload_of batch ∷ []) rest)
        ∙ ap (λ (l : List (List ℕ)). l ++ rest) (sym (map-more batches batch));
    place = omega (arith, place, so_far.place, length-more batches batch, ap length is);
  }

  pub decoded-damaged : None ≡ batch_in payload → batches_in batch_in (records_at 12 payloads) ≡ Err (Damaged gate)
  decoded-damaged none =
      ap (λ (l : List (List ℕ)). batches_in batch_in (records_at 12 l)) split_next
      ∙ batches-damaged gate batches payload rest so_far.storable so_far.place (sym none)

  -- the gate behind the next payload is not too far
  pub decoded-low : CanStand payload_limit store_format payloads → gate + (5 + length payload) ≤ gate_limit
  decoded-low can =
      let whole = ap (λ (l : List (List ℕ)). length (front_of store_format l)) split_next in
      omega (arith, can.places, so_far.place, whole, length-front store_format (map payload_of batches) payload rest)

pub decoded-all : (payloads : List (List ℕ)) (gate : ℕ) (batches : List Batch) (others : List (List ℕ))
    → IsDecodedUpTo payloads gate batches others → others ≡ [] → payloads ≡ map payload_of batches
decoded-all payloads gate batches others so_far none =
    so_far.split ∙ ap (λ (l : List (List ℕ)). map payload_of batches ++ l) none ∙ append-nil (map payload_of batches)

pub decoded-read : (payloads : List (List ℕ)) (batches : List Batch) → All IsStorable batches → payloads ≡ map payload_of batches
    → batches_in batch_in (records_at 12 payloads) ≡ Ok batches
decoded-read payloads batches fit are =
    ap (λ (l : List (List ℕ)). batches_in batch_in (records_at 12 l)) are ∙ batches-read batches fit
