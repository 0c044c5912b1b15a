-- Bytes that are put behind others, piece by piece.
use Rattle.std.proofs.Common.{◌≡◌, ℕ, ◌+◌, ◌-◌, ◌*◌, ◌≤◌, ◌<◌, List, [], ◌∷◌, ◌++◌, length, take, get_or, replicate, sym, ap, ◌∙◌, append_assoc, append-nil}
use Rattle.std.specs.List.{flat_map}
use Rattle.std.proofs.lemmas.List.{take_more}
use Rattle.std.proofs.lemmas.List.Concat.{flat_map-append}
use Rattle.best_lists.specs.declared.entry.Entry.{Entry}
use Rattle.spill_blobs.specs.RowBlocks.{entry_bytes, list_bytes}

pub two : (old a b x y : List ℕ) → x ≡ old ++ a → y ≡ x ++ b → y ≡ old ++ (a ++ b)
two old a b x y first second = second ∙ ap (λ l. l ++ b) first ∙ append_assoc old a b

pub four : (old a b c d w x y z : List ℕ) → w ≡ old ++ a → x ≡ w ++ b → y ≡ x ++ c → z ≡ y ++ d → z ≡ old ++ (a ++ (b ++ (c ++ d)))
four old a b c d w x y z first second third fourth =
    two old a (b ++ (c ++ d)) w z first
    (two w b (c ++ d) x z second (two x c d y z third fourth))

pub five : (old a b c d e v w x y z : List ℕ) → v ≡ old ++ a → w ≡ v ++ b → x ≡ w ++ c → y ≡ x ++ d → z ≡ y ++ e
    → z ≡ old ++ (a ++ (b ++ (c ++ (d ++ e))))
five old a b c d e v w x y z first second third fourth fifth =
    two old a (b ++ (c ++ (d ++ e))) v z first (four v b c d e w x y z second third fourth fifth)

-- a list behind others: how many entries there are, the entries, and zeros
pub list-put : (old one two three zeros : List ℕ) (entries : List Entry) → length entries ≤ 4 → one ≡ old ++ length entries ∷ []
    → two ≡ one ++ flat_map entry_bytes entries → three ≡ two ++ zeros → zeros ≡ replicate (8 * (4 - length entries)) 0 → three ≡ old ++ list_bytes entries
list-put old one two three zeros entries few first second third zeros_are =
    third ∙ ap (λ l. two ++ l) zeros_are ∙ ap (λ l. l ++ replicate (8 * (4 - length entries)) 0) (second ∙ ap (λ l. l ++ flat_map entry_bytes entries) first)
    ∙ append_assoc (old ++ length entries ∷ []) (flat_map entry_bytes entries) (replicate (8 * (4 - length entries)) 0)
    ∙ append_assoc old (length entries ∷ []) (flat_map entry_bytes entries ++ replicate (8 * (4 - length entries)) 0)

-- with one entry more
pub entry-next : (old now new : List ℕ) (entries : List Entry) (i : ℕ) (entry : Entry) → i < length entries → entry ≡ get_or entries i entry
    → now ≡ old ++ flat_map entry_bytes (take i entries) → new ≡ now ++ entry_bytes entry
    → new ≡ old ++ flat_map entry_bytes (take (i + 1) entries)
entry-next old now new entries i entry inside is before put =
    put ∙ ap (λ l. l ++ entry_bytes entry) before
    ∙ append_assoc old (flat_map entry_bytes (take i entries)) (entry_bytes entry)
    ∙ ap (λ l. old ++ l)
    (ap (λ l. flat_map entry_bytes (take i entries) ++ l) (sym (append-nil (entry_bytes entry)))
    ∙ sym (flat_map-append entry_bytes (take i entries) (entry ∷ []))
    ∙ ap (flat_map entry_bytes) (ap (λ e. take i entries ++ e ∷ []) is ∙ sym (take_more entries i entry inside)))
