-- What is written into a store file is read.
use Rattle.std.proofs.Common.{◌≡◌, ◌≢◌, ℕ, zero, suc, ◌+◌, ◌*◌, ◌<◌, ◌≤◌, ◌^◌, ◌==◌, true, false, not, ◌&&◌, nat_le, nat_lt, if◌then◌else◌, List, [], ◌∷◌, ◌++◌, length, take, drop, map, flat_map, Option, Some, None, Result, Ok, Err, refl, sym, ap, ◌∙◌, arith, append-nil, append_assoc, length-append, add-zero}
use Rattle.std.specs.Int.{w16, w32, to_le_bytes, from_le_bytes, IsInRange}
use Rattle.std.specs.List.{AllByRecursion}
use Rattle.std.specs.Result.{result_map_both}
use Rattle.std.proofs.lemmas.Bool.Decides.{nat_tests}
use Rattle.std.proofs.lemmas.List.Elements.{recursion_from_All, All-from_recursion}
use Rattle.std.proofs.lemmas.Nat.{from_le_bytes-to_le_bytes_2, from_le_bytes-to_le_bytes_4}
use Rattle.explorer_model.specs.declared.archive.Batch.{Batch}
use Rattle.explorer_model.specs.declared.store.LogFault.{LogFault}
use Rattle.explorer_model.specs.declared.store.LogFault.TheVariants.{NotALog, OtherFormat, Damaged}
use Rattle.explorer_model.specs.Imports.{group_limit}
use Rattle.explorer_model.specs.Cuts.{text_limit}
use Rattle.explorer_model.specs.Labels.{is_label}
use Rattle.explorer_model.proofs.LabelLemmas.{label-short}
use Rattle.explorer_model.specs.StoreFile.{header, store_format, record_bytes, front_of, text_field, payload_of, Record, gate_limit, and_record, records_from, records_of, number_at, split_behind, text_at, texts_in, texts_field, all_texts_in, label_at, batch_in, payload_limit, batches_in, journal_by, journal_of, CanStand, IsStorable, IsStoreOf, records_at, store_of}

-- ---- lists

take-front : {A : Type 0} (xs ys : List A) → take (length xs) (xs ++ ys) ≡ xs
take-front [] ys = refl
take-front {A} (x ∷ xs) ys = let onto : List A → List A = λ zs. x ∷ zs in ap onto (take-front xs ys)

drop-front : {A : Type 0} (xs ys : List A) → drop (length xs) (xs ++ ys) ≡ ys
drop-front [] ys = refl
drop-front (x ∷ xs) ys = drop-front xs ys

-- ---- payloads

abbrev number_found : ℕ → List ℕ → Option (ℕ × List ℕ)
number_found n rest = Some (n, rest)

given : (read n most size room : ℕ) (rest : List ℕ) → read ≡ n → 1 ≤ n → n ≤ most → size ≤ room
    → (if nat_le size room && nat_le 1 read && nat_le read most then number_found read rest else None) ≡ Some (n, rest)
given read n most size room rest is low high fits =
    let passes : (nat_le size room && nat_le 1 read && nat_le read most) ≡ true = grind (arith, nat_tests) in
    rw passes (ap (λ k. number_found k rest) is)

number-of-2 : (n most : ℕ) (rest : List ℕ) → 1 ≤ n → n ≤ most → n < 2 ^ 16
    → number_at w16 most (to_le_bytes w16 n ++ rest) ≡ Some (n, rest)
unfolding number_at
number-of-2 n most rest low high fits =
    given (from_le_bytes w16 (to_le_bytes w16 n)) n most 2 (suc (suc (length rest))) rest (from_le_bytes-to_le_bytes_2 n fits) low high (omega arith)

number-of-4 : (n most : ℕ) (rest : List ℕ) → 1 ≤ n → n ≤ most → n < 2 ^ 32
    → number_at w32 most (to_le_bytes w32 n ++ rest) ≡ Some (n, rest)
unfolding number_at
number-of-4 n most rest low high fits =
    given (from_le_bytes w32 (to_le_bytes w32 n)) n most 4 (suc (suc (suc (suc (length rest))))) rest (from_le_bytes-to_le_bytes_4 n fits) low high (omega arith)

split-front : (text rest : List ℕ) → split_behind (length text) (text ++ rest) ≡ Some (text, rest)
split-front text rest =
    let passes : nat_le (length text) (length (text ++ rest)) ≡ true = grind (arith, nat_tests, length-append text rest) in
    rw passes (rw (take-front text rest) (rw (drop-front text rest) refl))

abbrev HasTextLength : List ℕ → Type 0
HasTextLength text = IsInRange 1 text_limit (length text)

text-read : (text rest : List ℕ) → HasTextLength text → text_at (text_field text ++ rest) ≡ Some (text, rest)
text-read text rest fits =
    rw (number-of-4 (length text) text_limit (text ++ rest) fits.0 fits.1 (omega arith)) (split-front text rest)

texts-read : (texts : List (List ℕ)) → AllByRecursion HasTextLength texts → texts_in (length texts) (flat_map text_field texts) ≡ Some texts
unfolding texts_in
texts-read [] fit = refl
texts-read (text ∷ texts) fit =
    rw (text-read text (flat_map text_field texts) fit.0) (rw (texts-read texts fit.1) refl)

all-texts-read : (texts : List (List ℕ)) → IsInRange 1 group_limit (length texts) → AllByRecursion HasTextLength texts → all_texts_in (texts_field texts) ≡ Some texts
all-texts-read texts few fit =
    rw (number-of-2 (length texts) group_limit (flat_map text_field texts) few.0 few.1 (omega arith)) (texts-read texts fit)

label-read : (label rest : List ℕ) → is_label label ≡ true → label_at (length label ∷ label ++ rest) ≡ Some (label, rest)
unfolding label_at
label-read label rest is = rw (split-front label rest) (rw is refl)

pub batch-read : (batch : Batch) → IsStorable batch → batch_in (payload_of batch) ≡ Some batch
batch-read batch fits =
    rw (label-read batch.label (texts_field batch.texts) fits.label)
    (rw (all-texts-read batch.texts fits.texts (recursion_from_All HasTextLength batch.texts fits.lengths)) refl)

-- ---- records

-- so many bytes are passed over
pub skip : (most skipped place : ℕ) (bytes : List ℕ) → records_from most skipped place bytes ≡ records_from most 0 (place + skipped) (drop skipped bytes)
unfolding records_from
skip most zero place bytes = ap (λ at. records_from most 0 at bytes) (sym (add-zero place))
skip most (suc skipped) place [] = refl
skip most (suc skipped) place (b ∷ bytes) =
    let at : (place + 1) + skipped ≡ place + suc skipped = omega arith in
    skip most skipped (place + 1) bytes ∙ ap (λ at. records_from most 0 at (drop skipped bytes)) at

abbrev ok_records : List Record → Result (List Record) LogFault
ok_records records = Ok records

abbrev and_records : List Record → Result (List Record) LogFault → Result (List Record) LogFault
and_records front others = result_map_both (λ records. front ++ records) (λ fault. fault) others

and-none : (others : Result (List Record) LogFault) → and_records [] others ≡ others
and-none (Ok records) = refl
and-none (Err fault) = refl

and-one : (place : ℕ) (payload : List ℕ) (front : List Record) (others : Result (List Record) LogFault)
    → and_record place payload (and_records front others) ≡ and_records (record { gate = place; payload = payload } ∷ front) others
and-one place payload front (Ok records) = refl
and-one place payload front (Err fault) = refl

abbrev HasPayloadLength : ℕ → List ℕ → Type 0
HasPayloadLength most payload = IsInRange 1 most (length payload)

-- a record whose length is read, before the bytes behind it
record-by : (most place count a b c d : ℕ) (payload rest : List ℕ) → count ≡ length payload → HasPayloadLength most payload
    → 0 < length rest → place + 5 + length payload ≤ gate_limit
    → (if nat_le 1 count && nat_le count most && nat_lt (4 + count) (suc (suc (suc (suc (length (payload ++ rest))))))
    && nat_le (place + 5 + count) gate_limit
    then and_record place (take count (payload ++ rest)) (records_from most (4 + count) (place + 1) (a ∷ b ∷ c ∷ d ∷ (payload ++ rest)))
    else Err (Damaged place))
    ≡ and_record place payload (records_from most 0 (place + 5 + length payload) rest)
record-by most place count a b c d payload rest is fits some low =
    let passes : (nat_le 1 count && nat_le count most && nat_lt (4 + count) (suc (suc (suc (suc (length (payload ++ rest))))))
    && nat_le (place + 5 + count) gate_limit) ≡ true = grind (arith, nat_tests, length-append payload rest) in
    let size : 4 + count ≡ suc (suc (suc (suc (length payload)))) = omega arith in
    let at : (place + 1) + suc (suc (suc (suc (length payload)))) ≡ place + 5 + length payload = omega arith in
    rw passes (rw size (rw (skip most (suc (suc (suc (suc (length payload))))) (place + 1) (a ∷ b ∷ c ∷ d ∷ (payload ++ rest)))
    (rw at (rw is (rw (take-front payload rest) (rw (drop-front payload rest) refl))))))

record-read : (most place : ℕ) (payload rest : List ℕ) → most < 2 ^ 32 → HasPayloadLength most payload
    → 0 < length rest → place + 5 + length payload ≤ gate_limit
    → records_from most 0 place (record_bytes payload ++ rest)
    ≡ and_record place payload (records_from most 0 (place + 5 + length payload) rest)
unfolding records_from
record-read most place payload rest small fits some low =
    record-by most place (from_le_bytes w32 (to_le_bytes w32 (length payload))) _ _ _ _ payload rest
    (from_le_bytes-to_le_bytes_4 (length payload) (omega arith)) fits some low

-- records stand before what is read behind them
pub records-behind : (most place : ℕ) (payloads : List (List ℕ)) (bytes : List ℕ) → most < 2 ^ 32
    → AllByRecursion (HasPayloadLength most) payloads → 0 < length bytes → place + length (flat_map record_bytes payloads) ≤ gate_limit
    → records_from most 0 place (flat_map record_bytes payloads ++ bytes)
    ≡ and_records (records_at place payloads) (records_from most 0 (place + length (flat_map record_bytes payloads)) bytes)
records-behind most place [] bytes small fit some low =
    ap (λ at. records_from most 0 at bytes) (sym (add-zero place)) ∙ sym (and-none (records_from most 0 (place + 0) bytes))
records-behind most place (payload ∷ payloads) bytes small fit some low =
    let others = flat_map record_bytes payloads in
    let whole : length (record_bytes payload ++ others) ≡ 5 + length payload + length others = omega (arith, length-append payload others) in
    let room : 0 < length (others ++ bytes) = omega (arith, length-append others bytes) in
    let next : place + 5 + length payload ≡ place + length (record_bytes payload) = omega arith in
    let end : (place + 5 + length payload) + length others ≡ place + length (record_bytes payload ++ others) = omega arith in
    let fits_low : (place + 5 + length payload) + length others ≤ gate_limit = omega arith in
    let later = records-behind most (place + 5 + length payload) payloads bytes small fit.1 some fits_low in
    ap (λ list. records_from most 0 place list) (append_assoc (record_bytes payload) others bytes)
    ∙ record-read most place payload (others ++ bytes) small fit.0 room (omega arith)
    ∙ ap (λ read. and_record place payload read) later
    ∙ and-one place payload (records_at (place + 5 + length payload) payloads) (records_from most 0 ((place + 5 + length payload) + length others) bytes)
    ∙ ap (λ at. and_records (record { gate = place; payload = payload } ∷ records_at at payloads) (records_from most 0 ((place + 5 + length payload) + length others) bytes)) next
    ∙ ap (λ at. and_records (records_at place (payload ∷ payloads)) (records_from most 0 at bytes)) end

-- a gate that is not open ends the records
closed-gate : (most place gate : ℕ) (rest : List ℕ) → gate ≢ 1 → records_from most 0 place (gate ∷ rest) ≡ Ok []
unfolding records_from
closed-gate most place gate rest shut =
    let not_open : (gate == 1) ≡ false = grind (arith, nat_tests) in
    rw not_open refl

-- what stands behind the header of the format
header-by : (number format : ℕ) (room : ℕ) (read : Result (List Record) LogFault) → number ≡ format
    → (if not (nat_le 13 (suc (suc (suc (suc (suc (suc (suc (suc (suc (suc (suc (suc (suc room))))))))))))) && true) then Err NotALog
    else (if number == format then read else Err (OtherFormat number))) ≡ read
header-by number format room read is =
    let long : nat_le 13 (suc (suc (suc (suc (suc (suc (suc (suc (suc (suc (suc (suc (suc room))))))))))))) ≡ true = grind (arith, nat_tests) in
    let same : (number == format) ≡ true = grind (arith, nat_tests) in
    rw long (rw same refl)

pub header-read : (most format gate : ℕ) (bytes : List ℕ) → format < 2 ^ 32
    → records_of most format (header format ++ (gate ∷ bytes)) ≡ records_from most 0 12 (gate ∷ bytes)
header-read most format gate bytes fits =
    header-by (from_le_bytes w32 (to_le_bytes w32 format)) format (length bytes) (records_from most 0 12 (gate ∷ bytes))
    (from_le_bytes-to_le_bytes_4 format fits)

-- the bytes behind a header begin with some byte
header-before : (most format : ℕ) (bytes : List ℕ) → format < 2 ^ 32 → 0 < length bytes
    → records_of most format (header format ++ bytes) ≡ records_from most 0 12 bytes
header-before most format [] fits some = absurd (omega arith)
header-before most format (b ∷ bytes) fits some = header-read most format b bytes fits

pub records-read : (most format : ℕ) (payloads : List (List ℕ)) (gate : ℕ) (rest : List ℕ) → CanStand most format payloads → gate ≢ 1
    → records_of most format (front_of format payloads ++ (gate ∷ rest)) ≡ Ok (records_at 12 payloads)
records-read most format payloads gate rest can shut =
    let others = flat_map record_bytes payloads in
    let some : 0 < length (others ++ (gate ∷ rest)) = omega (arith, length-append others (gate ∷ rest)) in
    let low : 12 + length others ≤ gate_limit = omega (arith, can.places) in
    ap (λ file. records_of most format file) (append_assoc (header format) others (gate ∷ rest))
    ∙ header-before most format (others ++ (gate ∷ rest)) can.number some
    ∙ records-behind most 12 payloads (gate ∷ rest) can.lengths_fit
    (recursion_from_All (HasPayloadLength most) payloads can.lengths) (omega arith) low
    ∙ ap (λ read. and_records (records_at 12 payloads) read) (closed-gate most (12 + length others) gate rest shut)
    ∙ ap (λ records. ok_records records) (append-nil (records_at 12 payloads))

-- ---- journals

length-texts : (texts : List (List ℕ)) → AllByRecursion HasTextLength texts → length (flat_map text_field texts) ≤ length texts * 65540
length-texts [] fit = omega arith
length-texts (text ∷ texts) fit =
    omega (arith, length-append text (flat_map text_field texts), length-texts texts fit.1, fit.0.1)

payload-fits : (batch : Batch) → IsStorable batch → HasPayloadLength payload_limit (payload_of batch)
payload-fits batch fits =
    let texts = length-texts batch.texts (recursion_from_All HasTextLength batch.texts fits.lengths) in
    let size = length-append batch.label (texts_field batch.texts) in
    (omega arith, omega (arith, texts, fits.texts.1, size, label-short batch.label fits.label))

payloads-fit : (journal : List Batch) → AllByRecursion IsStorable journal → AllByRecursion (HasPayloadLength payload_limit) (map payload_of journal)
payloads-fit [] fit = tt
payloads-fit (batch ∷ journal) fit = (payload-fits batch fit.0, payloads-fit journal fit.1)

batches-read : (place : ℕ) (journal : List Batch) → AllByRecursion IsStorable journal → batches_in batch_in (records_at place (map payload_of journal)) ≡ Ok journal
unfolding batches_in
batches-read place [] fit = refl
batches-read place (batch ∷ journal) fit =
    rw (batch-read batch fit.0) (rw (batches-read (place + length (record_bytes (payload_of batch))) journal fit.1) refl)

pub journal-read : (file : List ℕ) (journal : List Batch) → IsStoreOf journal file → length (store_of journal) ≤ gate_limit
    → journal_of file ≡ Ok journal
unfolding journal_of
journal-read file journal held low =
    let each = recursion_from_All IsStorable journal held.storable in
    let can : CanStand payload_limit store_format (map payload_of journal) = record {
      number = omega arith;
      lengths = All-from_recursion (HasPayloadLength payload_limit) (map payload_of journal) (payloads-fit journal each);
      lengths_fit = omega arith;
      places = low;
    } in
    ap (λ file. journal_by batch_in (records_of payload_limit store_format file)) held.is
    ∙ ap (journal_by batch_in) (records-read payload_limit store_format (map payload_of journal) held.gate held.rest can held.shut)
    ∙ batches-read 12 journal each
