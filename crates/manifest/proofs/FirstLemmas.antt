-- Stores of the first format.
use Rattle.std.proofs.Common.{◌≡◌, inl, inr, ℕ, zero, suc, ◌+◌, ◌<◌, ◌≤◌, List, [], ◌∷◌, ◌++◌, length, take, drop, get_or, flat_map, All, Option, Some, None, IfSome, Ok, Err, refl, sym, ap, ◌∙◌, subst, arith, append-nil, append_assoc, length-append}
use Rattle.std.specs.Result.{result_map_both}
use Rattle.std.proofs.lemmas.List.Elements.{All-from_recursion, All-push}
use Rattle.disk_model.specs.Disk.{DiskState}
use Rattle.explorer_model.specs.declared.archive.Batch.{Batch}
use Rattle.explorer_model.specs.declared.fault.Stop.{Stop}
use Rattle.explorer_model.specs.declared.fault.Stop.TheVariants as stops
use Rattle.explorer_model.specs.declared.store.LogFault.{LogFault}
use Rattle.explorer_model.specs.declared.store.LogFault.TheVariants.{Damaged}
use Rattle.explorer_model.specs.Items.{◌>>=◌}
use Rattle.explorer_model.specs.Labels.{is_label, no_label}
use Rattle.explorer_model.specs.Stop.{Fails}
use Rattle.explorer_model.specs.StoreFile.{Reading, record_bytes, label_at, batch_in, all_texts_in, first_batch_in, and_batch, batches_in, records_at, journal_by, first_journal_of, first_format, first_payload_limit, gate_limit, CanStand}
use Rattle.explorer_model.proofs.LabelLemmas.{none-is-label}
use Rattle.record_log.specs.declared.fault.OpenFault.{OpenFault}
use Rattle.record_log.specs.declared.fault.OpenFault.TheVariants as opening
use Rattle.record_log.specs.Log as log
use Rattle.manifest.specs.First.{first_batch_format, HasFirstJournal, IsBare, IsNotOpenedFirst, IsWrongFirst, PassesFirst}
use Rattle.manifest.specs.Manifest.{open_fault}
use Rattle.manifest.proofs.ReadingLemmas.{batch-is, label-found, was-stored}
use Rattle.manifest.proofs.OpeningLemmas.{told-weaker}

-- ---- one batch

none-before : (payload : List ℕ) → take 0 payload ≡ []
none-before [] = refl
none-before (b ∷ payload) = refl

all-behind : (payload : List ℕ) → payload ≡ drop 0 payload
all-behind [] = refl
all-behind (b ∷ payload) = refl

small-behind : (payload : List ℕ) → ((i : ℕ) → get_or payload i 0 < 256) → (i : ℕ) → get_or (0 ∷ payload) i 0 < 256
small-behind payload small zero = omega arith
small-behind payload small (suc i) = small i

-- texts alone are read as texts behind an empty label are
pub first-bare : (payload : List ℕ) (texts : List (List ℕ)) → ((i : ℕ) → get_or payload i 0 < 256)
    → Some texts ≡ all_texts_in payload → IsBare (record { label = no_label; texts = texts })
first-bare payload texts small is =
    let batch : Batch = record { label = no_label; texts = texts } in
    let label : Some ([], payload) ≡ label_at (0 ∷ payload) =
    label-found 0 payload (omega arith) [] payload (ap is_label (none-before payload) ∙ none-is-label)
    (sym (none-before payload)) (all-behind payload) in
    let read : Some batch ≡ batch_in (0 ∷ payload) = batch-is (0 ∷ payload) [] payload (Some texts) label is in
    let stored = was-stored (0 ∷ payload) batch (small-behind payload small) read in
    record { label = refl; storable = stored.0 }

abbrev first_by : Option (List (List ℕ)) → Option Batch
first_by found = found >>= (λ texts. Some (record { label = no_label; texts = texts }))

pub no-texts-then : (payload : List ℕ) → None ≡ all_texts_in payload → None ≡ first_batch_in payload
no-texts-then payload none = ap first_by none

pub first-is : (payload : List ℕ) (texts : List (List ℕ)) → Some texts ≡ all_texts_in payload
    → Some (record { label = no_label; texts = texts }) ≡ first_batch_in payload
first-is payload texts is = ap first_by is

-- ---- one batch after another

abbrev with_front : List Batch → Reading (List Batch) → Reading (List Batch)
with_front front others = result_map_both (λ batches. front ++ batches) (λ fault. fault) others

with-none : (others : Reading (List Batch)) → with_front [] others ≡ others
with-none (Ok batches) = refl
with-none (Err fault) = refl

with-more : (gate : ℕ) (batch : Batch) (front : List Batch) (others : Reading (List Batch))
    → with_front (front ++ batch ∷ []) others ≡ with_front front (and_batch gate (Some batch) others)
with-more gate batch front (Ok batches) =
    let done : List Batch → Reading (List Batch) = λ l. Ok l in ap done (append_assoc front (batch ∷ []) batches)
with-more gate batch front (Err fault) = refl

-- what was read so far stands before what is read of the others
pub record IsReadUpTo (payloads : List (List ℕ)) (gate : ℕ) (batches : List Batch) (others : List (List ℕ)) : Type 0 where
  pub bare : All IsBare batches
  pub whole : with_front batches (batches_in first_batch_in (records_at gate others)) ≡ batches_in first_batch_in (records_at 12 payloads)
  pub low : gate + length (flat_map record_bytes others) ≤ gate_limit

pub first-none : (payloads others : List (List ℕ)) → CanStand first_payload_limit first_format payloads → others ≡ payloads
    → IsReadUpTo payloads 12 [] others
first-none payloads others can same =
    let P : List (List ℕ) → Type 0 = λ l. IsReadUpTo payloads 12 [] l in
    subst P (sym same) (record {
      bare = All-from_recursion IsBare [] tt;
      whole = with-none (batches_in first_batch_in (records_at 12 payloads));
      low = omega (arith, can.places);
    })

module _ (payloads : List (List ℕ)) (gate : ℕ) (batches : List Batch) (payload : List ℕ) (others rest : List (List ℕ))
    (so_far : IsReadUpTo payloads gate batches others) (next : others ≡ payload ∷ rest) where
  abbrev behind : ℕ → Reading (List Batch)
  behind place = batches_in first_batch_in (records_at place rest)

  next-whole : with_front batches (and_batch gate (first_batch_in payload) (behind (gate + length (record_bytes payload))))
      ≡ batches_in first_batch_in (records_at 12 payloads)
  unfolding batches_in
  next-whole = ap (λ (l : List (List ℕ)). with_front batches (batches_in first_batch_in (records_at gate l))) (sym next) ∙ so_far.whole

  pub first-low : gate + (5 + length payload) ≤ gate_limit
  first-low =
      let size = ap (λ (l : List (List ℕ)). length (flat_map record_bytes l)) next in
      omega (arith, so_far.low, size, length-append (record_bytes payload) (flat_map record_bytes rest))

  pub first-more : (batch : Batch) (further : ℕ) → IsBare batch → Some batch ≡ first_batch_in payload
      → further ≡ gate + (5 + length payload) → IsReadUpTo payloads further (batches ++ batch ∷ []) rest
  first-more batch further bare is place =
      let size = ap (λ (l : List (List ℕ)). length (flat_map record_bytes l)) next in
      let at : further ≡ gate + length (record_bytes payload) = omega (arith, place) in
      record {
        bare = All-push IsBare batches batch so_far.bare bare;
        whole =
            with-more gate batch batches (behind further)
            ∙ ap (λ (n : ℕ). with_front batches (and_batch gate (Some batch) (behind n))) at
            ∙ ap (λ (found : Option Batch). with_front batches (and_batch gate found (behind (gate + length (record_bytes payload))))) is
            ∙ next-whole;
        low = omega (arith, so_far.low, size, place, length-append (record_bytes payload) (flat_map record_bytes rest));
      }

  pub first-damaged : None ≡ first_batch_in payload → batches_in first_batch_in (records_at 12 payloads) ≡ Err (Damaged gate)
  first-damaged none =
      sym next-whole
      ∙ ap (λ (found : Option Batch). with_front batches (and_batch gate found (behind (gate + length (record_bytes payload))))) (sym none)

pub first-all : (payloads : List (List ℕ)) (gate : ℕ) (batches : List Batch) (others : List (List ℕ))
    → IsReadUpTo payloads gate batches others → others ≡ [] → batches_in first_batch_in (records_at 12 payloads) ≡ Ok batches
unfolding batches_in
first-all payloads gate batches others so_far none =
    let done : List Batch → Reading (List Batch) = λ l. Ok l in
    sym so_far.whole ∙ ap (λ (l : List (List ℕ)). with_front batches (batches_in first_batch_in (records_at gate l))) none
    ∙ ap done (append-nil batches)

-- ---- what is read of a log

first-journal-of : (payloads : List (List ℕ)) (file : List ℕ) (reading : Reading (List Batch))
    → log.HasPayloads first_batch_format payloads file → batches_in first_batch_in (records_at 12 payloads) ≡ reading
    → first_journal_of file ≡ reading
unfolding first_journal_of
first-journal-of payloads file reading has read = ap (journal_by first_batch_in) has ∙ read

first-log-fault : (file : List ℕ) (fault : LogFault) → log.reading_of first_batch_format file ≡ Err fault → first_journal_of file ≡ Err fault
unfolding first_journal_of
first-log-fault file fault is = ap (journal_by first_batch_in) is

module _ {D : Type 0} (disk : D → DiskState) where
  pub not-opened-first : (fault : OpenFault) (old new : D) → log.IsNotOpened disk first_batch_format fault old new
      → IsNotOpenedFirst disk fault old new
  not-opened-first (opening.Log fault) old new is =
      told-weaker (disk old).content (λ file. log.reading_of first_batch_format file ≡ Err fault) (IsWrongFirst fault)
      (λ file read. inl (first-log-fault file fault read)) is
  not-opened-first (opening.DiskFault before after) old new is = is
  not-opened-first opening.OutOfMemory old new is = tt

  module _ (left_since : D → ℕ → List ℕ → Type 0) (payloads : List (List ℕ)) (before : D) (manifest : log.Log D)
      (is : log.IsOpened disk left_since first_batch_format payloads before manifest) where
    pub first-can-stand : CanStand first_payload_limit first_format payloads
    first-can-stand = subst (λ f. CanStand f.most f.number payloads) is.is_format is.holds.can_stand

    pub first-read : (journal : List Batch) → batches_in first_batch_in (records_at 12 payloads) ≡ Ok journal
        → IfSome (disk before).content (HasFirstJournal journal)
    first-read journal read =
        told-weaker (disk before).content (log.HasPayloads first_batch_format payloads) (HasFirstJournal journal)
        (λ file has. first-journal-of payloads file (Ok journal) has read) is.read

    pub first-refused : (stop : Stop LogFault) (new : D) → Fails stop (batches_in first_batch_in (records_at 12 payloads))
        → IsNotOpenedFirst disk (open_fault stop) before new
    first-refused (stops.Fault fault) new fails =
        told-weaker (disk before).content (log.HasPayloads first_batch_format payloads) (IsWrongFirst fault)
        (λ file has. inl (first-journal-of payloads file (Err fault) has fails)) is.read
    first-refused stops.OutOfMemory new fails = tt

    -- more than the first format had
    pub first-passed : (journal : List Batch) (gate : ℕ) → batches_in first_batch_in (records_at 12 payloads) ≡ Ok journal
        → PassesFirst journal gate → IfSome (disk before).content (IsWrongFirst (Damaged gate))
    first-passed journal gate read passes =
        told-weaker (disk before).content (log.HasPayloads first_batch_format payloads) (IsWrongFirst (Damaged gate))
        (λ file has. inr (journal, first-journal-of payloads file (Ok journal) has read, passes)) is.read
