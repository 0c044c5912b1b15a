-- Statement: the store file: payloads behind gates, and the journal of the batches in them. Numbers
-- are little-endian.
use Rattle.std.specs.Prelude.{◌≡◌, ◌≢◌, true, ◌<◌, ◌≤◌, ℕ, zero, suc, ◌+◌, ◌^◌, Bool, not, ◌&&◌, ◌==◌, nat_le, nat_lt, List, [], ◌∷◌, ◌++◌, length, take, drop, map, All, codes, bytes_eq, if◌then◌else◌, Option, Some, None, Result, Ok, Err}
use Rattle.std.specs.Int.{Width, w16, w32, byte_len, to_le_bytes, from_le_bytes, IsInRange}
use Rattle.std.specs.List.{flat_map}
use Rattle.std.specs.Result.{result_map_both}
use Rattle.explorer_model.specs.declared.archive.Batch.{Batch}
use Rattle.explorer_model.specs.declared.store.LogFault.{LogFault}
use Rattle.explorer_model.specs.declared.store.LogFault.TheVariants.{NotALog, OtherFormat, Damaged}
use Rattle.explorer_model.specs.Cuts.{text_limit}
use Rattle.explorer_model.specs.Imports.{group_limit}
use Rattle.explorer_model.specs.Items.{◌>>=◌}
use Rattle.explorer_model.specs.Labels.{is_label, no_label}

-- ---- what is written

-- the first eight bytes
abbrev pub magic : List ℕ
magic = codes "OPENEXP1"

-- what stands before the first gate
abbrev pub header : ℕ → List ℕ
header format = magic ++ to_le_bytes w32 format

-- an open gate, and behind it the payload's length and the payload
abbrev pub record_bytes : List ℕ → List ℕ
record_bytes payload = 1 ∷ to_le_bytes w32 (length payload) ++ payload

-- a file up to its closed gate
abbrev pub front_of : ℕ → List (List ℕ) → List ℕ
front_of format payloads = header format ++ flat_map record_bytes payloads

-- a text behind its length
abbrev pub text_field : List ℕ → List ℕ
text_field text = to_le_bytes w32 (length text) ++ text

-- the texts behind their number
abbrev pub texts_field : List (List ℕ) → List ℕ
texts_field texts = to_le_bytes w16 (length texts) ++ flat_map text_field texts

-- the texts behind the label, which stands behind its length
abbrev pub payload_of : Batch → List ℕ
payload_of batch = length batch.label ∷ batch.label ++ texts_field batch.texts

-- ---- the records of a file

-- what is read, or what is wrong with the file
abbrev pub Reading : Type 0 → Type 0
Reading A = Result A LogFault

-- a payload, and the offset of its gate
pub record Record : Type 0 where
  pub gate : ℕ
  pub payload : List ℕ

-- no gate stands further
abbrev pub gate_limit : ℕ
gate_limit = 2 ^ 39

-- the payload's length, with which the bytes behind a gate begin
abbrev pub length_behind : List ℕ → ℕ
length_behind bytes = from_le_bytes w32 (take 4 bytes)

-- The bytes behind an open gate: a payload that is not empty and no longer than the most, and the
-- next gate, which is not too far.
abbrev pub is_whole : ℕ → ℕ → List ℕ → Bool
is_whole most gate bytes =
    let count = length_behind bytes in
    nat_le 1 count && nat_le count most
    && nat_lt (4 + count) (length bytes) && nat_le (gate + 5 + count) gate_limit

abbrev pub and_record : ℕ → List ℕ → Reading (List Record) → Reading (List Record)
and_record gate payload others =
    let first : Record = record { gate = gate; payload = payload } in
    result_map_both (λ records. first ∷ records) (λ fault. fault) others

-- The records from a place on, without the first bytes, which belong to the record before. A gate
-- that is not open ends them.
unfoldable pub records_from : ℕ → ℕ → ℕ → List ℕ → Reading (List Record)
records_from most skipped place [] = Ok []
records_from most (suc skipped) place (b ∷ bytes) = records_from most skipped (place + 1) bytes
records_from most zero place (b ∷ bytes) =
    let count = length_behind bytes in
    let others = records_from most (4 + count) (place + 1) bytes in
    if not (b == 1) then Ok []
    else (if is_whole most place bytes then and_record place (take count (drop 4 bytes)) others
    else Err (Damaged place))

-- the number of the file's format
abbrev pub format_of : List ℕ → ℕ
format_of file = from_le_bytes w32 (take 4 (drop 8 file))

abbrev pub is_log : List ℕ → Bool
is_log file = nat_le 13 (length file) && bytes_eq (take 8 file) magic

-- the records of a file of a format, with payloads of at most so many bytes
abbrev pub records_of : ℕ → ℕ → List ℕ → Reading (List Record)
records_of most format file =
    if not (is_log file) then Err NotALog
    else (if format_of file == format then records_from most 0 12 (drop 12 file)
    else Err (OtherFormat (format_of file)))

-- ---- the batch of a payload

-- a number from 1 to the most, and what follows it
unfoldable pub number_at : Width → ℕ → List ℕ → Option (ℕ × List ℕ)
number_at width most bytes =
    let number = from_le_bytes width (take (byte_len width) bytes) in
    if nat_le (byte_len width) (length bytes) && nat_le 1 number && nat_le number most
    then Some (number, drop (byte_len width) bytes) else None

-- so many bytes, and what follows them
abbrev pub split_behind : ℕ → List ℕ → Option (List ℕ × List ℕ)
split_behind count bytes =
    if nat_le count (length bytes) then Some (take count bytes, drop count bytes) else None

abbrev pub text_at : List ℕ → Option (List ℕ × List ℕ)
text_at bytes = do
  count ← number_at w32 text_limit bytes
  split_behind count.0 count.1

-- so many texts, and nothing behind them
unfoldable pub texts_in : ℕ → List ℕ → Option (List (List ℕ))
texts_in zero [] = Some []
texts_in zero (b ∷ bytes) = None
texts_in (suc count) bytes = do
  text ← text_at bytes
  others ← texts_in count text.1
  Some (text.0 ∷ others)

-- the texts behind their number, and nothing behind them
abbrev pub all_texts_in : List ℕ → Option (List (List ℕ))
all_texts_in bytes = do
  count ← number_at w16 group_limit bytes
  texts_in count.0 count.1

-- the bytes before a place, where they are a label, and those behind it
abbrev pub label_by : List ℕ × List ℕ → Option (List ℕ × List ℕ)
label_by parts = if is_label parts.0 then Some parts else None

-- a label behind its length, and what follows it
unfoldable pub label_at : List ℕ → Option (List ℕ × List ℕ)
label_at [] = None
label_at (count ∷ bytes) = split_behind count bytes >>= label_by

abbrev pub batch_in : List ℕ → Option Batch
batch_in payload = do
  label ← label_at payload
  texts ← all_texts_in label.1
  Some (record { label = label.0; texts = texts })

-- ---- the journal of a file

-- the number of the format of a store of batches
abbrev pub store_format : ℕ
store_format = 2

-- the longest payload: a label of 64 bytes, and 512 texts of 65,536 bytes
abbrev pub payload_limit : ℕ
payload_limit = 33556547

abbrev pub and_batch : ℕ → Option Batch → Reading (List Batch) → Reading (List Batch)
and_batch gate None others = Err (Damaged gate)
and_batch gate (Some batch) others =
    result_map_both (λ batches. batch ∷ batches) (λ fault. fault) others

-- the batches of records, by what a payload is read as; or the gate of the first whose payload is none
unfoldable pub batches_in : (List ℕ → Option Batch) → List Record → Reading (List Batch)
batches_in read [] = Ok []
batches_in read (first ∷ others) =
    and_batch first.gate (read first.payload) (batches_in read others)

abbrev pub journal_by : (List ℕ → Option Batch) → Reading (List Record) → Reading (List Batch)
journal_by read (Ok records) = batches_in read records
journal_by read (Err fault) = Err fault

-- the journal of a file. What is wrong with its records comes before what is wrong with a payload
unfoldable pub journal_of : List ℕ → Reading (List Batch)
journal_of file = journal_by batch_in (records_of payload_limit store_format file)

-- ---- the first format, in which batches have no label

abbrev pub first_format : ℕ
first_format = 1

-- its longest payload: 512 texts of 65,536 bytes
abbrev pub first_payload_limit : ℕ
first_payload_limit = 33556482

-- texts alone, which are taken as a batch with the empty label
abbrev pub first_batch_in : List ℕ → Option Batch
first_batch_in payload = do
  texts ← all_texts_in payload
  Some (record { label = no_label; texts = texts })

-- the journal of a file of the first format
unfoldable pub first_journal_of : List ℕ → Reading (List Batch)
first_journal_of file =
    journal_by first_batch_in (records_of first_payload_limit first_format file)

-- ---- what can be written

-- payloads that a file of a format can have, one after another, each of at most so many bytes
pub record CanStand (most format : ℕ) (payloads : List (List ℕ)) : Type 0 where
  pub number : format < 2 ^ 32
  pub lengths : All (λ payload. IsInRange 1 most (length payload)) payloads
  pub lengths_fit : most < 2 ^ 32
  pub places : length (front_of format payloads) ≤ gate_limit

pub record IsStorable (batch : Batch) : Type 0 where
  pub label : is_label batch.label ≡ true
  pub texts : IsInRange 1 group_limit (length batch.texts)
  pub lengths : All (λ text. IsInRange 1 text_limit (length text)) batch.texts

-- the records of payloads from a place on
abbrev pub records_at : ℕ → List (List ℕ) → List Record
records_at place [] = []
records_at place (payload ∷ payloads) =
    record { gate = place; payload = payload }
    ∷ records_at (place + length (record_bytes payload)) payloads

-- the file of a journal, up to its closed gate
abbrev pub store_of : List Batch → List ℕ
store_of journal = front_of store_format (map payload_of journal)

-- the file holds the journal, and behind it a gate that is not open
pub record IsStoreOf (journal : List Batch) (file : List ℕ) : Type 0 where
  pub gate : ℕ
  pub rest : List ℕ
  pub shut : gate ≢ 1
  pub is : file ≡ store_of journal ++ (gate ∷ rest)
  pub storable : All IsStorable journal
