-- How much a journal of the first format has.
use Rattle.std.proofs.Common.{◌≡◌, ℕ, suc, ◌+◌, ◌*◌, ◌<◌, ◌≤◌, List, [], ◌∷◌, ◌++◌, length, take, drop, map, get_or, sum_by, flat_map, All, refl, sym, ap, ◌∙◌, subst, arith, append-nil, length-append}
use Rattle.std.proofs.Math.Seq.{split_at, take-suc}
use Rattle.std.proofs.lemmas.Grind.{flat_map-append}
use Rattle.std.proofs.lemmas.List.{map-append}
use Rattle.std.proofs.lemmas.List.Elements.{recursion_from_All}
use Rattle.std.proofs.lemmas.List.Sums.{sum_by-append}
use Rattle.std.specs.List.{AllByRecursion}
use Rattle.explorer_model.specs.declared.archive.Batch.{Batch}
use Rattle.explorer_model.specs.Journal.{byte_count, game_count}
use Rattle.explorer_model.specs.StoreFile.{front_of, first_format, gate_limit, payload_of, record_bytes, store_of, texts_field}
use Rattle.explorer_model.specs.Visits.{texts_of}
use Rattle.manifest.specs.First.{IsBare, IsWithinFirst, PassesFirst, first_store_of}
use Rattle.manifest.proofs.JournalLemmas.{length-front}
use Rattle.manifest.proofs.PayloadLemmas.{length-texts}

abbrev sizes : List (List ℕ) → ℕ
sizes texts = sum_by (λ (text : List ℕ). length text) texts

-- how much these batches have
pub record HaveSoFar (batches : List Batch) (games bytes gate : ℕ) : Type 0 where
  pub games_are : games ≡ game_count batches
  pub bytes_are : bytes ≡ byte_count batches
  pub gate_is : gate ≡ length (first_store_of batches)
  pub within : IsWithinFirst batches
  pub low : gate ≤ 12 + 11 * games + bytes

pub have-none : HaveSoFar [] 0 0 12
have-none = record {
  games_are = refl;
  bytes_are = refl;
  gate_is = refl;
  within = (omega arith, omega arith);
  low = omega arith;
}

module _ (front : List Batch) (batch : Batch) where
  texts-more : texts_of (front ++ batch ∷ []) ≡ texts_of front ++ batch.texts
  texts-more =
      flat_map-append (λ (b : Batch). b.texts) front (batch ∷ [])
      ∙ ap (λ (l : List (List ℕ)). texts_of front ++ l) (append-nil batch.texts)

  games-more : game_count (front ++ batch ∷ []) ≡ game_count front + length batch.texts
  games-more = ap (λ (l : List (List ℕ)). length l) texts-more ∙ length-append (texts_of front) batch.texts

  bytes-more : byte_count (front ++ batch ∷ []) ≡ byte_count front + sizes batch.texts
  bytes-more = ap sizes texts-more ∙ sum_by-append (λ (text : List ℕ). length text) (texts_of front) batch.texts

  gate-more : length (first_store_of (front ++ batch ∷ []))
      ≡ length (first_store_of front) + (7 + 4 * length batch.texts + sizes batch.texts)
  gate-more =
      let payload : Batch → List ℕ = λ (b : Batch). texts_field b.texts in
      let more = ap (λ (l : List (List ℕ)). length (front_of first_format l)) (map-append payload front (batch ∷ [])) in
      omega (
        arith,
        more,
        length-front first_format (map payload front) (payload batch) [],
        length-texts batch.texts,
      )

  module _ (games bytes gate count size : ℕ) (have : HaveSoFar front games bytes gate)
      (many : count ≡ length batch.texts) (long : size ≡ sizes batch.texts) where
    pub have-more : 1 ≤ count → games + count ≤ 131072 → bytes + size ≤ 268435456
        → HaveSoFar (front ++ batch ∷ []) (games + count) (bytes + size) (gate + (7 + 4 * count + size))
    have-more some few short = record {
      games_are = omega (arith, have.games_are, many, games-more);
      bytes_are = omega (arith, have.bytes_are, long, bytes-more);
      gate_is = omega (arith, have.gate_is, many, long, gate-more);
      within = (omega (arith, have.games_are, many, games-more, few), omega (arith, have.bytes_are, long, bytes-more, short));
      low = omega (arith, have.low, some);
    }

    pub too-many : 131072 < games + count → ¬ IsWithinFirst (front ++ batch ∷ [])
    too-many over within = absurd (omega (arith, over, within.0, have.games_are, many, games-more))

    pub too-long : 268435456 < bytes + size → ¬ IsWithinFirst (front ++ batch ∷ [])
    too-long over within = absurd (omega (arith, over, within.1, have.bytes_are, long, bytes-more))

module _ (batches : List Batch) (i : ℕ) (item : Batch) (is : item ≡ get_or batches i item) (inside : i < length batches)
    (games bytes gate count size : ℕ) (have : HaveSoFar (take i batches) games bytes gate)
    (many : count ≡ length item.texts) (long : size ≡ sizes item.texts) where
  one-more : take (i + 1) batches ≡ take i batches ++ item ∷ []
  one-more =
      let more : i + 1 ≡ suc i = omega arith in
      ap (λ n. take n batches) more ∙ take-suc batches i item inside ∙ ap (λ (b : Batch). take i batches ++ b ∷ []) (sym is)

  pub goes-on : 1 ≤ count → games + count ≤ 131072 → bytes + size ≤ 268435456
      → HaveSoFar (take (i + 1) batches) (games + count) (bytes + size) (gate + (7 + 4 * count + size))
  goes-on some few short =
      let P : List Batch → Type 0 = λ l. HaveSoFar l (games + count) (bytes + size) (gate + (7 + 4 * count + size)) in
      subst P (sym one-more) (have-more (take i batches) item games bytes gate count size have many long some few short)

  passes : ¬ IsWithinFirst (take i batches ++ item ∷ []) → PassesFirst batches gate
  passes over = record {
    before = take i batches;
    batch = item;
    rest = drop (suc i) batches;
    is = split_at batches i item inside ∙ ap (λ (b : Batch). take i batches ++ b ∷ drop (suc i) batches) (sym is);
    within = have.within;
    over = over;
    place = have.gate_is;
  }

  pub passes-by-games : 131072 < games + count → PassesFirst batches gate
  passes-by-games over = passes (too-many (take i batches) item games bytes gate count size have many long over)

  pub passes-by-bytes : 268435456 < bytes + size → PassesFirst batches gate
  passes-by-bytes over = passes (too-long (take i batches) item games bytes gate count size have many long over)

-- the texts of one batch
pub bare-at : (batches : List Batch) (i : ℕ) (item : Batch) → item ≡ get_or batches i item → i < length batches → All IsBare batches
    → IsBare item
bare-at batches i item is inside all = subst IsBare (sym is) (all i item inside)

-- ---- room in the format of today

record-sizes : (journal : List Batch) → AllByRecursion IsBare journal
    → length (flat_map record_bytes (map payload_of journal)) ≤ 12 * game_count journal + byte_count journal
record-sizes [] bare = omega arith
record-sizes (batch ∷ journal) bare =
    omega (
      arith,
      record-sizes journal bare.1,
      length-append (record_bytes (payload_of batch)) (flat_map record_bytes (map payload_of journal)),
      length-append batch.label (texts_field batch.texts),
      ap length bare.0.label,
      length-texts batch.texts,
      bare.0.storable.texts.0,
      length-append batch.texts (texts_of journal),
      sum_by-append (λ (text : List ℕ). length text) batch.texts (texts_of journal),
    )

pub has-room : (journal : List Batch) → All IsBare journal → IsWithinFirst journal → length (store_of journal) ≤ gate_limit
has-room journal bare within =
    omega (arith, record-sizes journal (recursion_from_All IsBare journal bare), within.0, within.1)
