-- Batches that are stored one after another.
use Rattle.std.proofs.Common.{◌≡◌, inl, inr, ℕ, suc, ◌+◌, ◌<◌, ◌≤◌, List, [], ◌∷◌, ◌++◌, length, take, drop, map, get_or, All, refl, sym, ap, ◌∙◌, subst, arith, add-zero, append-nil, append_assoc}
use Rattle.std.proofs.Math.Seq.{split_at, take-suc}
use Rattle.std.proofs.lemmas.List.{map-append}
use Rattle.disk_model.specs.Disk.{DiskState, LeavesOnly}
use Rattle.disk_model.proofs.Moments.{joined, started, weaker}
use Rattle.explorer_model.specs.declared.archive.Batch.{Batch}
use Rattle.explorer_model.specs.StoreFile.{payload_of, store_format, front_of, IsStorable}
use Rattle.record_log.specs.declared.fault.AppendFault.{AppendFault}
use Rattle.record_log.specs.Log.{Log, Adds, IsNotAdded}
use Rattle.manifest.specs.Manifest.{size_of_records, AddsAll, HasFrontOf, HasJournal, IsManifestOf, IsWithOrWithoutBatch, StopsAt, StoresAll}
use Rattle.manifest.proofs.JournalLemmas.{length-front}

-- ---- sizes

size-split : (front : List Batch) (batch : Batch) (rest : List Batch)
    → size_of_records (front ++ batch ∷ rest) ≡ size_of_records front + (5 + length (payload_of batch)) + size_of_records rest
size-split front batch rest =
    let whole = ap (λ (l : List (List ℕ)). length (front_of store_format l)) (map-append payload_of front (batch ∷ rest)) in
    omega (arith, whole, length-front store_format (map payload_of front) (payload_of batch) (map payload_of rest))

size-more : (front : List Batch) (batch : Batch)
    → size_of_records (front ++ batch ∷ []) ≡ size_of_records front + (5 + length (payload_of batch))
size-more front batch = omega (arith, size-split front batch [])

-- ---- images

longer-front : (journal batches rest : List Batch) (image : List ℕ) → HasFrontOf journal batches image → HasFrontOf journal (batches ++ rest) image
longer-front journal batches rest image has = (
  has.0,
  has.1 ++ rest,
  ap (λ (l : List Batch). l ++ rest) has.2 ∙ append_assoc has.0 has.1 rest,
  has.3,
)

front-and-one : (journal batches : List Batch) (batch : Batch) (image : List ℕ) → IsWithOrWithoutBatch (journal ++ batches) batch image
    → HasFrontOf journal (batches ++ batch ∷ []) image
front-and-one journal batches batch image (inl has) = (batches, batch ∷ [], refl, has)
front-and-one journal batches batch image (inr has) = (
  batches ++ batch ∷ [],
  [],
  sym (append-nil (batches ++ batch ∷ [])),
  subst (λ (l : List Batch). HasJournal l image) (append_assoc journal batches (batch ∷ [])) has,
)

module _ {D : Type 0} (disk : D → DiskState) (left_since : D → ℕ → List ℕ → Type 0) where
  -- these were stored, and a crash meanwhile leaves some of them
  pub record IsStoredUpTo (batches : List Batch) (old new : Log D) : Type 0 where
    pub stored : StoresAll disk left_since batches old new
    pub meanwhile : (journal : List Batch) → IsManifestOf disk left_since journal old
        → LeavesOnly disk left_since old.disk new.disk (HasFrontOf journal batches)

  pub stored-none : (log : Log D) → IsStoredUpTo [] log log
  stored-none log = record {
    stored = record {
      adds = record {
        sound = inl refl;
        no_fault = refl;
        told = λ is. is;
        rest = ap (λ (n : ℕ). record log { gate = n }) (sym (add-zero log.gate));
      };
      holds = λ journal holds. subst (λ (l : List Batch). IsManifestOf disk left_since l log) (sym (append-nil journal)) holds;
    };
    meanwhile = λ journal holds.
        started disk left_since log.disk (HasFrontOf journal [])
        (λ image left. (
          [],
          [],
          refl,
          subst (λ (l : List Batch). HasJournal l image) (sym (append-nil journal)) (holds.images image left),
        ));
  }

  module _ (batches : List Batch) (batch : Batch) (old middle new : Log D) (so_far : IsStoredUpTo batches old middle) where
    abbrev WithOne : List Batch → List ℕ → Type 0
    WithOne journal = HasFrontOf journal (batches ++ batch ∷ [])

    pub meanwhile-more :
        ((journal : List Batch) → IsManifestOf disk left_since journal middle
        → LeavesOnly disk left_since middle.disk new.disk (IsWithOrWithoutBatch journal batch))
        → (journal : List Batch) → IsManifestOf disk left_since journal old
        → LeavesOnly disk left_since old.disk new.disk (WithOne journal)
    meanwhile-more leaves journal holds =
        joined disk left_since old.disk middle.disk new.disk (WithOne journal)
        (weaker disk left_since old.disk middle.disk (HasFrontOf journal batches) (WithOne journal)
        (longer-front journal batches (batch ∷ [])) (so_far.meanwhile journal holds))
        (weaker disk left_since middle.disk new.disk (IsWithOrWithoutBatch (journal ++ batches) batch) (WithOne journal)
        (front-and-one journal batches batch) (leaves (journal ++ batches) (so_far.stored.holds journal holds)))

    pub stored-more : Adds disk (length (payload_of batch)) middle new
        → ((journal : List Batch) → IsManifestOf disk left_since journal middle → IsManifestOf disk left_since (journal ++ batch ∷ []) new)
        → ((journal : List Batch) → IsManifestOf disk left_since journal middle
        → LeavesOnly disk left_since middle.disk new.disk (IsWithOrWithoutBatch journal batch))
        → IsStoredUpTo (batches ++ batch ∷ []) old new
    stored-more adds holds-more leaves =
        let n = length (payload_of batch) in
        let far : old.gate + size_of_records batches + 5 + length (payload_of batch) ≡ old.gate + size_of_records (batches ++ batch ∷ []) =
        omega (arith, size-more batches batch) in
        record {
          stored = record {
            adds = record {
              sound = inr (sym (ap (λ (l : Log D). l.fault) so_far.stored.adds.rest) ∙ adds.sound);
              no_fault = adds.no_fault ∙ so_far.stored.adds.no_fault;
              told = λ is. adds.told (so_far.stored.adds.told is);
              rest =
                  adds.rest
                  ∙ ap (λ (l : Log D). record l { disk = new.disk; gate = l.gate + 5 + n }) so_far.stored.adds.rest
                  ∙ ap (λ (g : ℕ). record old { disk = new.disk; gate = g }) far;
            };
            holds = λ journal holds.
                subst (λ (l : List Batch). IsManifestOf disk left_since l new) (append_assoc journal batches (batch ∷ []))
                (holds-more (journal ++ batches) (so_far.stored.holds journal holds));
          };
          meanwhile = meanwhile-more leaves;
        }

  -- ---- the loop

  module _ (batches : List Batch) (i : ℕ) (batch : Batch) (is : batch ≡ get_or batches i batch) (inside : i < length batches)
      (old middle new : Log D) (so_far : IsStoredUpTo (take i batches) old middle) where
    split : batches ≡ take i batches ++ batch ∷ drop (suc i) batches
    split = split_at batches i batch inside ∙ ap (λ (b : Batch). take i batches ++ b ∷ drop (suc i) batches) (sym is)

    one-more : take (i + 1) batches ≡ take i batches ++ batch ∷ []
    one-more =
        let more : i + 1 ≡ suc i = omega arith in
        ap (λ n. take n batches) more ∙ take-suc batches i batch inside ∙ ap (λ (b : Batch). take i batches ++ b ∷ []) (sym is)

    pub next-fits : (most : ℕ) → old.gate + size_of_records batches ≤ most → middle.gate + 5 + length (payload_of batch) ≤ most
    next-fits most low =
        let whole = ap size_of_records split in
        let at = ap (λ (l : Log D). l.gate) so_far.stored.adds.rest in
        omega (arith, low, whole, at, size-split (take i batches) batch (drop (suc i) batches))

    pub next-stored : Adds disk (length (payload_of batch)) middle new
        → ((journal : List Batch) → IsManifestOf disk left_since journal middle → IsManifestOf disk left_since (journal ++ batch ∷ []) new)
        → ((journal : List Batch) → IsManifestOf disk left_since journal middle
        → LeavesOnly disk left_since middle.disk new.disk (IsWithOrWithoutBatch journal batch))
        → IsStoredUpTo (take (i + 1) batches) old new
    next-stored adds holds-more leaves =
        subst (λ (l : List Batch). IsStoredUpTo l old new) (sym one-more)
        (stored-more (take i batches) batch old middle new so_far adds holds-more leaves)

    pub next-stops : (fault : AppendFault) → IsNotAdded disk fault middle new → StopsAt disk left_since batches fault old new
    next-stops fault fails = record {
      front = take i batches;
      batch = batch;
      rest = drop (suc i) batches;
      split = split;
      middle = middle;
      stored = so_far.stored;
      fails = fails;
    }

    pub next-leaves :
        ((journal : List Batch) → IsManifestOf disk left_since journal middle
        → LeavesOnly disk left_since middle.disk new.disk (IsWithOrWithoutBatch journal batch))
        → (journal : List Batch) → IsManifestOf disk left_since journal old
        → LeavesOnly disk left_since old.disk new.disk (HasFrontOf journal batches)
    next-leaves leaves journal holds =
        let most = meanwhile-more (take i batches) batch old middle new so_far leaves journal holds in
        let whole : (take i batches ++ batch ∷ []) ++ drop (suc i) batches ≡ batches =
        append_assoc (take i batches) (batch ∷ []) (drop (suc i) batches) ∙ sym split in
        weaker disk left_since old.disk new.disk (HasFrontOf journal (take i batches ++ batch ∷ [])) (HasFrontOf journal batches)
        (λ image has.
        subst (λ (l : List Batch). HasFrontOf journal l image) whole
        (longer-front journal (take i batches ++ batch ∷ []) (drop (suc i) batches) image has))
        most
