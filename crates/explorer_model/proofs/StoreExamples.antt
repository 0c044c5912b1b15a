-- Store files worked out by hand, byte by byte.
use Rattle.std.proofs.Common.{◌≡◌, ℕ, List, [], ◌∷◌, ◌++◌, Some, None, Ok, Err, codes, refl}
use Rattle.explorer_model.specs.declared.archive.Batch.{Batch}
use Rattle.explorer_model.specs.declared.store.LogFault.TheVariants.{NotALog, OtherFormat, Damaged}
use lib.Utf8.{encode}
use Rattle.std.specs.Str.{chars, is_utf8}
use Rattle.explorer_model.specs.Labels.{is_label}
use Rattle.explorer_model.specs.StoreFile.{front_of, payload_of, records_from, records_of, number_at, texts_in, label_at, batch_in, batches_in, journal_of, first_journal_of, store_of}

-- OPENEXP1, and the number of the format
head : ℕ → List ℕ
head format = 79 ∷ 80 ∷ 69 ∷ 78 ∷ 69 ∷ 88 ∷ 80 ∷ 49 ∷ format ∷ 0 ∷ 0 ∷ 0 ∷ []

a-new-file-has-thirteen-bytes : front_of 2 [] ++ (0 ∷ []) ≡ head 2 ++ (0 ∷ [])
unfolding head
a-new-file-has-thirteen-bytes = refl

a-new-file-has-no-batch : journal_of (head 2 ++ (0 ∷ [])) ≡ Ok []
unfolding head journal_of records_from batches_in
a-new-file-has-no-batch = refl

twelve-bytes-are-no-log : journal_of (head 2) ≡ Err NotALog
unfolding head journal_of
twelve-bytes-are-no-log = refl

other-first-bytes-are-no-log : journal_of (codes "OPENEXP2" ++ (1 ∷ 0 ∷ 0 ∷ 0 ∷ 0 ∷ [])) ≡ Err NotALog
unfolding journal_of records_from
other-first-bytes-are-no-log = refl

another-format : journal_of (head 3 ++ (0 ∷ [])) ≡ Err (OtherFormat 3)
unfolding head journal_of records_from
another-format = refl

-- ---- one batch of one text of one byte

one : Batch
one = record { label = []; texts = (120 ∷ []) ∷ [] }

-- the length of the label, the number of texts, the length of the first, and its byte
payload : List ℕ
payload = 0 ∷ 1 ∷ 0 ∷ 1 ∷ 0 ∷ 0 ∷ 0 ∷ 120 ∷ []

-- an open gate, the payload's length, and the payload
stored : List ℕ
stored = 1 ∷ 8 ∷ 0 ∷ 0 ∷ 0 ∷ payload

the-payload-of-a-batch : payload_of one ≡ payload
unfolding one payload
the-payload-of-a-batch = refl

the-file-of-a-batch : store_of (one ∷ []) ≡ head 2 ++ stored
unfolding head one payload stored
the-file-of-a-batch = refl

the-batch-is-read : journal_of (head 2 ++ (stored ++ (0 ∷ []))) ≡ Ok (one ∷ [])
unfolding head one payload stored journal_of records_from batches_in label_at is_label is_utf8 chars encode number_at texts_in
the-batch-is-read = refl

-- what an interrupted writing leaves behind a gate that is not open does not matter
what-follows-a-closed-gate : journal_of (head 2 ++ (stored ++ (0 ∷ 7 ∷ 0 ∷ 0 ∷ 0 ∷ 1 ∷ 0 ∷ []))) ≡ Ok (one ∷ [])
unfolding head one payload stored journal_of records_from batches_in label_at is_label is_utf8 chars encode number_at texts_in
what-follows-a-closed-gate = refl

no-gate-behind-a-record : journal_of (head 2 ++ stored) ≡ Err (Damaged 12)
unfolding head payload stored journal_of records_from
no-gate-behind-a-record = refl

an-empty-payload : journal_of (head 2 ++ (stored ++ (1 ∷ 0 ∷ 0 ∷ 0 ∷ 0 ∷ 0 ∷ []))) ≡ Err (Damaged 25)
unfolding head payload stored journal_of records_from
an-empty-payload = refl

a-payload-of-more-than-the-most : records_of 6 2 (head 2 ++ (stored ++ (0 ∷ []))) ≡ Err (Damaged 12)
unfolding head payload stored records_from
a-payload-of-more-than-the-most = refl

-- ---- payloads off the form

no-texts : batch_in (0 ∷ 0 ∷ 0 ∷ []) ≡ None
unfolding label_at is_label is_utf8 chars encode number_at
no-texts = refl

an-empty-text : batch_in (0 ∷ 1 ∷ 0 ∷ 0 ∷ 0 ∷ 0 ∷ 0 ∷ []) ≡ None
unfolding label_at is_label is_utf8 chars encode number_at texts_in
an-empty-text = refl

a-text-too-short : batch_in (0 ∷ 1 ∷ 0 ∷ 2 ∷ 0 ∷ 0 ∷ 0 ∷ 120 ∷ []) ≡ None
unfolding label_at is_label is_utf8 chars encode number_at texts_in
a-text-too-short = refl

-- 65,537
a-text-too-long : batch_in (0 ∷ 1 ∷ 0 ∷ 1 ∷ 0 ∷ 1 ∷ 0 ∷ 120 ∷ []) ≡ None
unfolding label_at is_label is_utf8 chars encode number_at texts_in
a-text-too-long = refl

a-byte-behind-the-texts : batch_in (0 ∷ 1 ∷ 0 ∷ 1 ∷ 0 ∷ 0 ∷ 0 ∷ 120 ∷ 0 ∷ []) ≡ None
unfolding label_at is_label is_utf8 chars encode number_at texts_in
a-byte-behind-the-texts = refl

-- 513
too-many-texts : batch_in (0 ∷ 1 ∷ 2 ∷ 1 ∷ 0 ∷ 0 ∷ 0 ∷ 120 ∷ []) ≡ None
unfolding label_at is_label is_utf8 chars encode number_at
too-many-texts = refl

-- ---- which gate is told

-- a payload off the form
bad : List ℕ
bad = 1 ∷ 1 ∷ 0 ∷ 0 ∷ 0 ∷ 9 ∷ []

the-first-payload-off-the-form : journal_of (head 2 ++ (bad ++ (bad ++ (0 ∷ [])))) ≡ Err (Damaged 12)
unfolding head bad journal_of records_from batches_in label_at is_label is_utf8 chars encode number_at
the-first-payload-off-the-form = refl

a-good-batch-before-a-bad-one : journal_of (head 2 ++ (stored ++ (bad ++ (0 ∷ [])))) ≡ Err (Damaged 25)
unfolding head bad payload stored journal_of records_from batches_in label_at is_label is_utf8 chars encode number_at texts_in
a-good-batch-before-a-bad-one = refl

-- a record that is not whole is told, though a payload before it is off the form
records-come-before-payloads : journal_of (head 2 ++ (bad ++ (1 ∷ 0 ∷ 0 ∷ 0 ∷ 0 ∷ 0 ∷ []))) ≡ Err (Damaged 18)
unfolding head bad journal_of records_from
records-come-before-payloads = refl

-- ---- labels

-- a label of one byte, and one text
a-labelled-batch : batch_in (1 ∷ 106 ∷ 1 ∷ 0 ∷ 1 ∷ 0 ∷ 0 ∷ 0 ∷ 120 ∷ []) ≡ Some (record { label = codes "j"; texts = (120 ∷ []) ∷ [] })
unfolding label_at is_label is_utf8 chars encode number_at texts_in
a-labelled-batch = refl

-- a line end, the last control character, a byte that is no UTF-8, and a label that does not end
a-line-end-in-a-label : batch_in (1 ∷ 10 ∷ 1 ∷ 0 ∷ 1 ∷ 0 ∷ 0 ∷ 0 ∷ 120 ∷ []) ≡ None
unfolding label_at is_label is_utf8 chars encode
a-line-end-in-a-label = refl

a-deleted-character : batch_in (1 ∷ 127 ∷ 1 ∷ 0 ∷ 1 ∷ 0 ∷ 0 ∷ 0 ∷ 120 ∷ []) ≡ None
unfolding label_at is_label is_utf8 chars encode
a-deleted-character = refl

a-label-cut-off : batch_in (2 ∷ 106 ∷ []) ≡ None
unfolding label_at
a-label-cut-off = refl

-- ---- the first format

-- the same text without a label
first-stored : List ℕ
first-stored = 1 ∷ 7 ∷ 0 ∷ 0 ∷ 0 ∷ 1 ∷ 0 ∷ 1 ∷ 0 ∷ 0 ∷ 0 ∷ 120 ∷ []

a-store-of-the-first-format : first_journal_of (head 1 ++ (first-stored ++ (0 ∷ []))) ≡ Ok (one ∷ [])
unfolding head one first-stored first_journal_of records_from batches_in number_at texts_in
a-store-of-the-first-format = refl

it-is-none-of-the-second : journal_of (head 1 ++ (first-stored ++ (0 ∷ []))) ≡ Err (OtherFormat 1)
unfolding head first-stored journal_of records_from
it-is-none-of-the-second = refl
