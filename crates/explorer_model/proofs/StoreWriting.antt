-- What is read from a store file was written so.
use Rattle.std.proofs.Common.{◌≡◌, ◌≢◌, ℕ, zero, suc, ◌+◌, ◌-◌, ◌<◌, ◌≤◌, ◌==◌, Bool, true, false, not, ◌&&◌, nat_le, if◌then◌else◌, List, [], ◌∷◌, ◌++◌, length, take, drop, map, get_or, flat_map, option_and_then, All, Option, Some, None, IfSome, Ok, Err, IfOk, refl, sym, ap, ◌∙◌, subst, arith, append_assoc, take-append-drop, length-take, length-drop, drop-drop, bytes_eq, true≢false}
use Rattle.std.specs.Cmp.Lexicographic.{bytes_decides}
use Rattle.std.specs.Int.{w16, w32, to_le_bytes, from_le_bytes, IsInRange}
use Rattle.std.specs.List.{AllByRecursion}
use Rattle.std.proofs.lemmas.Bool.Decides.{nat_tests}
use Rattle.std.proofs.lemmas.List.Elements.{recursion_from_All, All-from_recursion}
use Rattle.std.proofs.lemmas.Nat.{le_bytes_2, le_bytes_4}
use Rattle.explorer_model.specs.declared.archive.Batch.{Batch}
use Rattle.explorer_model.specs.declared.store.LogFault.TheVariants.{NotALog, OtherFormat, Damaged}
use Rattle.explorer_model.specs.Imports.{group_limit}
use Rattle.explorer_model.specs.Cuts.{text_limit}
use Rattle.explorer_model.specs.Labels.{is_label}
use Rattle.explorer_model.specs.StoreFile.{magic, header, record_bytes, text_field, payload_of, Reading, Record, length_behind, is_whole, and_record, records_from, format_of, is_log, number_at, split_behind, text_at, texts_in, texts_field, all_texts_in, label_by, label_at, batch_in, store_format, payload_limit, and_batch, batches_in, journal_by, journal_of, IsStorable, IsStoreOf}
use Rattle.explorer_model.proofs.StoreReading.{skip}

-- ---- bytes

abbrev IsByte : ℕ → Type 0
IsByte b = b < 256

abbrev AreBytes : List ℕ → Type 0
AreBytes bytes = AllByRecursion IsByte bytes

byte-at : (bytes : List ℕ) → AreBytes bytes → (i : ℕ) → get_or bytes i 0 < 256
byte-at [] small i = omega arith
byte-at (b ∷ bytes) small zero = small.0
byte-at (b ∷ bytes) small (suc i) = byte-at bytes small.1 i

bytes-taken : (count : ℕ) (bytes : List ℕ) → AreBytes bytes → AreBytes (take count bytes)
bytes-taken zero bytes small = tt
bytes-taken (suc count) [] small = tt
bytes-taken (suc count) (b ∷ bytes) small = (small.0, bytes-taken count bytes small.1)

bytes-dropped : (count : ℕ) (bytes : List ℕ) → AreBytes bytes → AreBytes (drop count bytes)
bytes-dropped zero bytes small = small
bytes-dropped (suc count) [] small = tt
bytes-dropped (suc count) (b ∷ bytes) small = bytes-dropped count bytes small.1

-- bytes that begin with a number
four-bytes : (bytes : List ℕ) → 4 ≤ length bytes → AreBytes bytes → to_le_bytes w32 (from_le_bytes w32 (take 4 bytes)) ++ drop 4 bytes ≡ bytes
four-bytes bytes long small =
    let four : length (take 4 bytes) ≡ 4 = omega (arith, length-take 4 bytes) in
    let same = le_bytes_4 (take 4 bytes) (from_le_bytes w32 (take 4 bytes)) four (byte-at (take 4 bytes) (bytes-taken 4 bytes small)) refl in
    ap (λ front. front ++ drop 4 bytes) same ∙ take-append-drop 4 bytes

two-bytes : (bytes : List ℕ) → 2 ≤ length bytes → AreBytes bytes → to_le_bytes w16 (from_le_bytes w16 (take 2 bytes)) ++ drop 2 bytes ≡ bytes
two-bytes bytes long small =
    let two : length (take 2 bytes) ≡ 2 = omega (arith, length-take 2 bytes) in
    let same = le_bytes_2 (take 2 bytes) (from_le_bytes w16 (take 2 bytes)) two (byte-at (take 2 bytes) (bytes-taken 2 bytes small)) refl in
    ap (λ front. front ++ drop 2 bytes) same ∙ take-append-drop 2 bytes

-- ---- payloads

if-then : {A B : Type 0} (P : A → Type 0) (Q : B → Type 0) (found : Option A) (next : A → Option B)
    → IfSome found P → ((x : A) → P x → IfSome (next x) Q) → IfSome (option_and_then next found) Q
if-then P Q None next holds each = tt
if-then P Q (Some x) next holds each = each x holds

-- the bytes were a number of a width, from 1 to the most, and others
abbrev WasNumber : (ℕ → List ℕ) → ℕ → List ℕ → ℕ × List ℕ → Type 0
WasNumber written most bytes found = IsInRange 1 most found.0 × (bytes ≡ written found.0 ++ found.1) × AreBytes found.1

abbrev number_if : Bool → ℕ → List ℕ → Option (ℕ × List ℕ)
number_if passes number rest = if passes then Some (number, rest) else None

number-was-4 : (most : ℕ) (bytes : List ℕ) → AreBytes bytes → IfSome (number_at w32 most bytes) (WasNumber (to_le_bytes w32) most bytes)
unfolding number_at
number-was-4 most bytes small =
    by (nat_le 4 (length bytes) && nat_le 1 (from_le_bytes w32 (take 4 bytes)) && nat_le (from_le_bytes w32 (take 4 bytes)) most) refl
  where
    by : (passes : Bool)
        → (nat_le 4 (length bytes) && nat_le 1 (from_le_bytes w32 (take 4 bytes)) && nat_le (from_le_bytes w32 (take 4 bytes)) most) ≡ passes
        → IfSome (number_if passes (from_le_bytes w32 (take 4 bytes)) (drop 4 bytes)) (WasNumber (to_le_bytes w32) most bytes)
    by true is =
        let long : 4 ≤ length bytes = grind (arith, nat_tests) in
        let low : 1 ≤ from_le_bytes w32 (take 4 bytes) = grind (arith, nat_tests) in
        let high : from_le_bytes w32 (take 4 bytes) ≤ most = grind (arith, nat_tests) in
        ((low, high), sym (four-bytes bytes long small), bytes-dropped 4 bytes small)
    by false is = tt

number-was-2 : (most : ℕ) (bytes : List ℕ) → AreBytes bytes → IfSome (number_at w16 most bytes) (WasNumber (to_le_bytes w16) most bytes)
unfolding number_at
number-was-2 most bytes small =
    by (nat_le 2 (length bytes) && nat_le 1 (from_le_bytes w16 (take 2 bytes)) && nat_le (from_le_bytes w16 (take 2 bytes)) most) refl
  where
    by : (passes : Bool)
        → (nat_le 2 (length bytes) && nat_le 1 (from_le_bytes w16 (take 2 bytes)) && nat_le (from_le_bytes w16 (take 2 bytes)) most) ≡ passes
        → IfSome (number_if passes (from_le_bytes w16 (take 2 bytes)) (drop 2 bytes)) (WasNumber (to_le_bytes w16) most bytes)
    by true is =
        let long : 2 ≤ length bytes = grind (arith, nat_tests) in
        let low : 1 ≤ from_le_bytes w16 (take 2 bytes) = grind (arith, nat_tests) in
        let high : from_le_bytes w16 (take 2 bytes) ≤ most = grind (arith, nat_tests) in
        ((low, high), sym (two-bytes bytes long small), bytes-dropped 2 bytes small)
    by false is = tt

abbrev HasTextLength : List ℕ → Type 0
HasTextLength text = IsInRange 1 text_limit (length text)

abbrev WasText : List ℕ → List ℕ × List ℕ → Type 0
WasText bytes found = HasTextLength found.0 × (bytes ≡ text_field found.0 ++ found.1) × AreBytes found.1

abbrev split_if : Bool → ℕ → List ℕ → Option (List ℕ × List ℕ)
split_if passes count bytes = if passes then Some (take count bytes, drop count bytes) else None

split-was : (bytes : List ℕ) (count : ℕ × List ℕ) → WasNumber (to_le_bytes w32) text_limit bytes count
    → IfSome (split_behind count.0 count.1) (WasText bytes)
split-was bytes (count, others) was = by (nat_le count (length others)) refl
  where
    by : (passes : Bool) → nat_le count (length others) ≡ passes → IfSome (split_if passes count others) (WasText bytes)
    by true is =
        let long : count ≤ length others = grind (arith, nat_tests) in
        let size : length (take count others) ≡ count = omega (arith, length-take count others) in (
          (omega (arith, was.0.0), omega (arith, was.0.1)),
          was.1 ∙ ap (λ rest. to_le_bytes w32 count ++ rest) (sym (take-append-drop count others))
              ∙ ap (λ n. to_le_bytes w32 n ++ (take count others ++ drop count others)) (sym size),
          bytes-dropped count others was.2,
        )
    by false is = tt

text-was : (bytes : List ℕ) → AreBytes bytes → IfSome (text_at bytes) (WasText bytes)
text-was bytes small =
    if-then (WasNumber (to_le_bytes w32) text_limit bytes) (WasText bytes) (number_at w32 text_limit bytes) (λ count. split_behind count.0 count.1)
    (number-was-4 text_limit bytes small) (split-was bytes)

abbrev WereTexts : ℕ → List ℕ → List (List ℕ) → Type 0
WereTexts count bytes texts = (length texts ≡ count) × AllByRecursion HasTextLength texts × (bytes ≡ flat_map text_field texts)

texts-were : (count : ℕ) (bytes : List ℕ) → AreBytes bytes → IfSome (texts_in count bytes) (WereTexts count bytes)
unfolding texts_in
texts-were zero [] small = (refl, tt, refl)
texts-were zero (b ∷ bytes) small = tt
texts-were (suc count) bytes small =
    if-then (WasText bytes) (WereTexts (suc count) bytes) (text_at bytes)
    (λ text. option_and_then (λ others. Some (text.0 ∷ others)) (texts_in count text.1)) (text-was bytes small) (λ text was.
    if-then (WereTexts count text.1) (WereTexts (suc count) bytes) (texts_in count text.1) (λ others. Some (text.0 ∷ others))
    (texts-were count text.1 was.2) (λ others were.
    (ap suc were.0, (was.0, were.1), was.1 ∙ ap (λ rest. text_field text.0 ++ rest) were.2)))

abbrev WasBatch : List ℕ → Batch → Type 0
WasBatch payload batch = IsStorable batch × (payload ≡ payload_of batch)

-- the bytes were texts behind their number
record WereAllTexts (bytes : List ℕ) (texts : List (List ℕ)) : Type 0 where
  few : IsInRange 1 group_limit (length texts)
  lengths : AllByRecursion HasTextLength texts
  are : bytes ≡ texts_field texts

all-texts-were : (bytes : List ℕ) → AreBytes bytes → IfSome (all_texts_in bytes) (WereAllTexts bytes)
all-texts-were bytes small =
    if-then (WasNumber (to_le_bytes w16) group_limit bytes) (WereAllTexts bytes) (number_at w16 group_limit bytes)
    (λ count. texts_in count.0 count.1) (number-was-2 group_limit bytes small) (λ count was.
    more (texts_in count.0 count.1) count was (texts-were count.0 count.1 was.2))
  where
    more : (found : Option (List (List ℕ))) (count : ℕ × List ℕ) → WasNumber (to_le_bytes w16) group_limit bytes count
        → IfSome found (WereTexts count.0 count.1) → IfSome found (WereAllTexts bytes)
    more None count was were = tt
    more (Some texts) count was were = record {
      few = (omega (arith, were.0, was.0.0), omega (arith, were.0, was.0.1));
      lengths = were.1;
      are = was.1 ∙ ap (λ rest. to_le_bytes w16 count.0 ++ rest) were.2
          ∙ ap (λ n. to_le_bytes w16 n ++ flat_map text_field texts) (sym were.0);
    }

-- the bytes were a label behind its length, and others
record WasLabel (bytes : List ℕ) (found : List ℕ × List ℕ) : Type 0 where
  is : is_label found.0 ≡ true
  bytes_are : bytes ≡ length found.0 ∷ found.0 ++ found.1
  small : AreBytes found.1

label-was : (bytes : List ℕ) → AreBytes bytes → IfSome (label_at bytes) (WasLabel bytes)
unfolding label_at
label-was [] small = tt
label-was (count ∷ bytes) small = by (nat_le count (length bytes)) refl
  where
    kept : (passes : Bool) → is_label (take count bytes) ≡ passes → count ≤ length bytes
        → IfSome (if passes then Some (take count bytes, drop count bytes) else None) (WasLabel (count ∷ bytes))
    kept true is long =
        let size : length (take count bytes) ≡ count = omega (arith, length-take count bytes) in
        record {
          is = is;
          bytes_are = ap (λ rest. count ∷ rest) (sym (take-append-drop count bytes))
              ∙ ap (λ n. n ∷ (take count bytes ++ drop count bytes)) (sym size);
          small = bytes-dropped count bytes small.1;
        }
    kept false is long = tt

    by : (passes : Bool) → nat_le count (length bytes) ≡ passes → IfSome (option_and_then label_by (split_if passes count bytes)) (WasLabel (count ∷ bytes))
    by true is = kept (is_label (take count bytes)) refl (grind (arith, nat_tests))
    by false is = tt

abbrev batch_as : List ℕ → List (List ℕ) → Batch
batch_as label texts = record { label = label; texts = texts }

batch-was : (payload : List ℕ) → AreBytes payload → IfSome (batch_in payload) (WasBatch payload)
batch-was payload small =
    if-then (WasLabel payload) (WasBatch payload) (label_at payload)
    (λ label. option_and_then (λ texts. Some (batch_as label.0 texts)) (all_texts_in label.1)) (label-was payload small) (λ label was.
    if-then (WereAllTexts label.1) (WasBatch payload) (all_texts_in label.1) (λ texts. Some (batch_as label.0 texts))
    (all-texts-were label.1 was.small) (λ texts were. (
      record {
        label = was.is;
        texts = were.few;
        lengths = All-from_recursion HasTextLength texts were.lengths;
      },
      was.bytes_are ∙ ap (λ rest. length label.0 ∷ label.0 ++ rest) were.are,
    )))

pub batch-was-stored : (payload : List ℕ) (batch : Batch) → All IsByte payload → batch_in payload ≡ Some batch → WasBatch payload batch
batch-was-stored payload batch small is =
    let P : Option Batch → Type 0 = λ found. IfSome found (WasBatch payload) in
    subst P is (batch-was payload (recursion_from_All IsByte payload small))

-- ---- records

abbrev payload_in : Record → List ℕ
payload_in stored = stored.payload

-- the bytes from a gate on were these records, and a gate that is not open
record Were (bytes : List ℕ) (records : List Record) : Type 0 where
  gate : ℕ
  rest : List ℕ
  shut : gate ≢ 1
  is : bytes ≡ flat_map record_bytes (map payload_in records) ++ (gate ∷ rest)
  small : AllByRecursion (λ stored. AreBytes stored.payload) records

and-were : (bytes payload later : List ℕ) (place : ℕ) (others : Reading (List Record)) → bytes ≡ record_bytes payload ++ later
    → AreBytes payload → IfOk others (Were later) → IfOk (and_record place payload others) (Were bytes)
and-were bytes payload later place (Ok records) is small were = record {
  gate = were.gate;
  rest = were.rest;
  shut = were.shut;
  is = is ∙ ap (λ behind. record_bytes payload ++ behind) were.is
      ∙ sym (append_assoc (record_bytes payload) (flat_map record_bytes (map payload_in records)) (were.gate ∷ were.rest));
  small = (small, were.small);
}
and-were bytes payload later place (Err fault) is small were = tt

-- what stands behind an open gate, where the record is whole
record-was : (b : ℕ) (tail : List ℕ) → (b == 1) ≡ true → 4 + length_behind tail < length tail → AreBytes tail
    → b ∷ tail ≡ record_bytes (take (length_behind tail) (drop 4 tail)) ++ drop (4 + length_behind tail) tail
record-was b tail opens long small =
    let count = length_behind tail in
    let payload = take (length_behind tail) (drop 4 tail) in
    let one : b ≡ 1 = grind (arith, nat_tests) in
    let four : 4 ≤ length tail = omega arith in
    let size : length (take (length_behind tail) (drop 4 tail)) ≡ length_behind tail =
    omega (arith, length-take (length_behind tail) (drop 4 tail), length-drop 4 tail) in
    let behind = drop-drop (length_behind tail) 4 tail in
    ap (λ first. first ∷ tail) one
    ∙ ap (λ others. 1 ∷ others) (sym (four-bytes tail four small))
    ∙ ap (λ others. 1 ∷ (to_le_bytes w32 (length_behind tail) ++ others)) (sym (take-append-drop (length_behind tail) (drop 4 tail)))
    ∙ ap (λ others. 1 ∷ (to_le_bytes w32 (length_behind tail) ++ (take (length_behind tail) (drop 4 tail) ++ others))) behind
    ∙ ap (λ n. 1 ∷ (to_le_bytes w32 n ++ (take (length_behind tail) (drop 4 tail) ++ drop (4 + length_behind tail) tail))) (sym size)

records-were : (fuel most place : ℕ) (bytes : List ℕ) → length bytes ≤ fuel → 0 < length bytes → AreBytes bytes
    → IfOk (records_from most 0 place bytes) (Were bytes)
unfolding records_from
records-were fuel most place [] fits some small = absurd (omega arith)
records-were zero most place (b ∷ tail) fits some small = absurd (omega arith)
records-were (suc fuel) most place (b ∷ tail) fits some small =
    by (b == 1) (is_whole most place tail) refl refl (λ at rest short room bytes. records-were fuel most at rest short room bytes)
  where
    by : (opens whole : Bool) → (b == 1) ≡ opens → is_whole most place tail ≡ whole
        → ((at : ℕ) (rest : List ℕ) → length rest ≤ fuel → 0 < length rest → AreBytes rest → IfOk (records_from most 0 at rest) (Were rest))
        → IfOk (if not opens then Ok []
        else (if whole then and_record place (take (length_behind tail) (drop 4 tail)) (records_from most (4 + length_behind tail) (place + 1) tail)
        else Err (Damaged place))) (Were (b ∷ tail))
    by false whole opens is later = record { gate = b; rest = tail; shut = grind (arith, nat_tests); is = refl; small = tt }
    by true false opens is later = tt
    by true true opens is later =
        let long : 4 + length_behind tail < length tail = grind (arith, nat_tests) in
        let next = drop (4 + length_behind tail) tail in
        let at = (place + 1) + (4 + length_behind tail) in
        let read : Reading (List Record) → Type 0 = λ others. IfOk others (Were (drop (4 + length_behind tail) tail)) in
        let rest : length (drop (4 + length_behind tail) tail) ≡ length tail - (4 + length_behind tail) = length-drop (4 + length_behind tail) tail in
        and-were (b ∷ tail) (take (length_behind tail) (drop 4 tail)) next place
        (records_from most (4 + length_behind tail) (place + 1) tail) (record-was b tail opens long small.1)
        (bytes-taken (length_behind tail) (drop 4 tail) (bytes-dropped 4 tail small.1))
        (subst read (sym (skip most (4 + length_behind tail) (place + 1) tail))
        (later at next (omega (arith, rest)) (omega (arith, rest)) (bytes-dropped (4 + length_behind tail) tail small.1)))

-- ---- journals

abbrev WereBatches : List (List ℕ) → List Batch → Type 0
WereBatches payloads batches = AllByRecursion IsStorable batches × (payloads ≡ map payload_of batches)

and-batch-was : (gate : ℕ) (payload : List ℕ) (payloads : List (List ℕ)) (found : Option Batch) (others : Reading (List Batch))
    → IfSome found (WasBatch payload) → IfOk others (WereBatches payloads) → IfOk (and_batch gate found others) (WereBatches (payload ∷ payloads))
and-batch-was gate payload payloads None others was were = tt
and-batch-was gate payload payloads (Some batch) (Err fault) was were = tt
and-batch-was gate payload payloads (Some batch) (Ok batches) was were =
    ((was.0, were.0), λ i. was.1 i ∷ were.1 i)

batches-were : (records : List Record) → AllByRecursion (λ stored. AreBytes stored.payload) records
    → IfOk (batches_in batch_in records) (WereBatches (map payload_in records))
unfolding batches_in
batches-were [] small = (tt, refl)
batches-were (first ∷ records) small =
    and-batch-was first.gate first.payload (map payload_in records) (batch_in first.payload) (batches_in batch_in records)
    (batch-was first.payload small.0) (batches-were records small.1)

-- a log of the format begins with the header
header-was : (file : List ℕ) → is_log file ≡ true → (format_of file == store_format) ≡ true → AreBytes file
    → (file ≡ header store_format ++ drop 12 file) × (13 ≤ length file)
header-was file log format small = by (nat_le 13 (length file)) (bytes_eq (take 8 file) magic) refl refl log
  where
    by : (long same : Bool) → nat_le 13 (length file) ≡ long → bytes_eq (take 8 file) magic ≡ same → (long && same) ≡ true
        → (file ≡ header store_format ++ drop 12 file) × (13 ≤ length file)
    by true true long same is =
        let size : 13 ≤ length file = grind (arith, nat_tests) in
        let number : format_of file ≡ store_format = grind (arith, nat_tests) in
        let four : 4 ≤ length (drop 8 file) = omega (arith, length-drop 8 file) in (
          sym (take-append-drop 8 file)
              ∙ ap (λ front. front ++ drop 8 file) ((bytes_decides (take 8 file) magic).0 same)
              ∙ ap (λ behind. magic ++ behind) (sym (four-bytes (drop 8 file) four (bytes-dropped 8 file small)))
              ∙ ap (λ n. magic ++ (to_le_bytes w32 n ++ drop 4 (drop 8 file))) number
              ∙ ap (λ behind. magic ++ (to_le_bytes w32 store_format ++ behind)) (drop-drop 4 8 file),
          size,
        )
    by true false long same is = absurd (true≢false (sym is))
    by false same long other is = absurd (true≢false (sym is))

journal-by-was : (file : List ℕ) (records : Reading (List Record)) → file ≡ header store_format ++ drop 12 file
    → IfOk records (Were (drop 12 file)) → IfOk (journal_by batch_in records) (λ journal. IsStoreOf journal file)
journal-by-was file (Err fault) is were = tt
journal-by-was file (Ok records) is were = by (batches_in batch_in records) (batches-were records were.small)
  where
    by : (batches : Reading (List Batch)) → IfOk batches (WereBatches (map payload_in records)) → IfOk batches (λ journal. IsStoreOf journal file)
    by (Err fault) holds = tt
    by (Ok journal) holds = record {
      gate = were.gate;
      rest = were.rest;
      shut = were.shut;
      is = is ∙ ap (λ behind. header store_format ++ behind) (were.is ∙ ap (λ payloads. flat_map record_bytes payloads ++ (were.gate ∷ were.rest)) holds.1);
      storable = All-from_recursion IsStorable journal holds.0;
    }

journal-was : (file : List ℕ) → AreBytes file → IfOk (journal_of file) (λ journal. IsStoreOf journal file)
unfolding journal_of
journal-was file small = by (is_log file) (format_of file == store_format) refl refl
  where
    by : (log same : Bool) → is_log file ≡ log → (format_of file == store_format) ≡ same
        → IfOk (journal_by batch_in (if not log then Err NotALog
        else (if same then records_from payload_limit 0 12 (drop 12 file) else Err (OtherFormat (format_of file))))) (λ journal. IsStoreOf journal file)
    by true true log same =
        let was = header-was file log same small in
        let some : 0 < length (drop 12 file) = omega (arith, length-drop 12 file, was.1) in
        journal-by-was file (records_from payload_limit 0 12 (drop 12 file)) was.0
        (records-were (length (drop 12 file)) payload_limit 12 (drop 12 file) (omega arith) some (bytes-dropped 12 file small))
    by true false log same = tt
    by false same log other = tt

pub journal-was-stored : (file : List ℕ) (journal : List Batch) → All IsByte file → journal_of file ≡ Ok journal → IsStoreOf journal file
journal-was-stored file journal small is =
    let P : Reading (List Batch) → Type 0 = λ read. IfOk read (λ journal. IsStoreOf journal file) in
    subst P is (journal-was file (recursion_from_All IsByte file small))
