-- A payload read from left to right.
use Rattle.std.proofs.Common.{slice_index_or, subst, ◌≡◌, ℕ, suc, ◌+◌, ◌-◌, ◌<◌, ◌≤◌, Bool, true, false, ◌&&◌, nat_le, if◌then◌else◌, List, [], ◌∷◌, ◌++◌, length, take, drop, get_or, Option, Some, None, refl, sym, ap, ◌∙◌, arith, append_assoc, append-nil}
use Rattle.std.specs.Int.{w16, w32, from_le_bytes}
use Rattle.std.proofs.lemmas.Bool.Decides.{nat_tests}
use Rattle.std.proofs.Math.Seq.{take-length}
use Rattle.std.proofs.lemmas.List.Elements.{All-from_get_or}
use Rattle.byteorder.specs.Endian.{little_number}
use Rattle.explorer_model.specs.declared.archive.Batch.{Batch}
use Rattle.explorer_model.specs.Cuts.{text_limit}
use Rattle.explorer_model.specs.Imports.{group_limit}
use Rattle.explorer_model.specs.Items.{◌>>=◌}
use Rattle.explorer_model.specs.Labels.{is_label}
use Rattle.explorer_model.specs.StoreFile.{payload_of, number_at, split_behind, text_at, texts_in, all_texts_in, label_at, batch_in, IsStorable}
use Rattle.explorer_model.proofs.StoreWriting.{batch-was-stored}

-- ---- numbers

abbrev number_if : Bool → ℕ → List ℕ → Option (ℕ × List ℕ)
number_if passes n rest = if passes then Some (n, rest) else None

module _ (size room n most : ℕ) (rest : List ℕ) where
  abbrev answer : Option (ℕ × List ℕ)
  answer = number_if (nat_le size room && nat_le 1 n && nat_le n most) n rest

  if-short : room < size → None ≡ answer
  if-short short =
      let fails : (nat_le size room && nat_le 1 n && nat_le n most) ≡ false = grind (arith, nat_tests) in
      rw fails refl

  if-off : (allowed : Bool) → allowed ≡ false → allowed ≡ (nat_le 1 n && nat_le n most) → None ≡ answer
  if-off allowed is_off is =
      let fails : (nat_le size room && nat_le 1 n && nat_le n most) ≡ false = grind (arith, nat_tests) in
      rw fails refl

  if-found : (allowed : Bool) (m : ℕ) (behind : List ℕ) → allowed ≡ true → size ≤ room → m ≡ n
      → allowed ≡ (nat_le 1 m && nat_le m most) → behind ≡ rest → Some (m, behind) ≡ answer
  if-found allowed m behind is_on long is allows same =
      let passes : (nat_le size room && nat_le 1 n && nat_le n most) ≡ true = grind (arith, nat_tests) in
      let pair : ℕ → List ℕ → Option (ℕ × List ℕ) = λ k l. Some (k, l) in
      rw passes (λ i. pair (is i) (same i))

little-2 : (bytes : List ℕ) → 2 ≤ length bytes → little_number 2 (take 2 bytes) ≡ from_le_bytes w16 (take 2 bytes)
little-2 [] long = absurd (omega arith)
little-2 (a ∷ []) long = absurd (omega arith)
little-2 (a ∷ b ∷ bytes) long = omega arith

little-4 : (bytes : List ℕ) → 4 ≤ length bytes → little_number 4 (take 4 bytes) ≡ from_le_bytes w32 (take 4 bytes)
little-4 [] long = absurd (omega arith)
little-4 (a ∷ []) long = absurd (omega arith)
little-4 (a ∷ b ∷ []) long = absurd (omega arith)
little-4 (a ∷ b ∷ c ∷ []) long = absurd (omega arith)
little-4 (a ∷ b ∷ c ∷ d ∷ bytes) long = omega arith

module _ (most : ℕ) (bytes : List ℕ) where
  pub short-2 : length bytes < 2 → None ≡ number_at w16 most bytes
  unfolding number_at
  short-2 short = if-short 2 (length bytes) (from_le_bytes w16 (take 2 bytes)) most (drop 2 bytes) short

  pub short-4 : length bytes < 4 → None ≡ number_at w32 most bytes
  unfolding number_at
  short-4 short = if-short 4 (length bytes) (from_le_bytes w32 (take 4 bytes)) most (drop 4 bytes) short

  module _ (n : ℕ) (front : List ℕ) where
    module _ (long : 2 ≤ length bytes) (is_front : front ≡ take 2 bytes) (is_n : n ≡ little_number 2 front) where
      is-2 : n ≡ from_le_bytes w16 (take 2 bytes)
      is-2 = is_n ∙ ap (little_number 2) is_front ∙ little-2 bytes long

      pub off-2 : (allowed : Bool) → allowed ≡ false → allowed ≡ (nat_le 1 n && nat_le n most) → None ≡ number_at w16 most bytes
      unfolding number_at
      off-2 allowed is_off is =
          if-off 2 (length bytes) (from_le_bytes w16 (take 2 bytes)) most (drop 2 bytes) allowed is_off
          (is ∙ ap (λ (k : ℕ). nat_le 1 k && nat_le k most) is-2)

      pub found-2 : (allowed : Bool) (behind : List ℕ) → allowed ≡ true → allowed ≡ (nat_le 1 n && nat_le n most)
          → behind ≡ drop 2 bytes → Some (n, behind) ≡ number_at w16 most bytes
      unfolding number_at
      found-2 allowed behind is_on is same =
          if-found 2 (length bytes) (from_le_bytes w16 (take 2 bytes)) most (drop 2 bytes) allowed n behind is_on long is-2 is same

    module _ (long : 4 ≤ length bytes) (is_front : front ≡ take 4 bytes) (is_n : n ≡ little_number 4 front) where
      is-4 : n ≡ from_le_bytes w32 (take 4 bytes)
      is-4 = is_n ∙ ap (little_number 4) is_front ∙ little-4 bytes long

      pub off-4 : (allowed : Bool) → allowed ≡ false → allowed ≡ (nat_le 1 n && nat_le n most) → None ≡ number_at w32 most bytes
      unfolding number_at
      off-4 allowed is_off is =
          if-off 4 (length bytes) (from_le_bytes w32 (take 4 bytes)) most (drop 4 bytes) allowed is_off
          (is ∙ ap (λ (k : ℕ). nat_le 1 k && nat_le k most) is-4)

      pub found-4 : (allowed : Bool) (behind : List ℕ) → allowed ≡ true → allowed ≡ (nat_le 1 n && nat_le n most)
          → behind ≡ drop 4 bytes → Some (n, behind) ≡ number_at w32 most bytes
      unfolding number_at
      found-4 allowed behind is_on is same =
          if-found 4 (length bytes) (from_le_bytes w32 (take 4 bytes)) most (drop 4 bytes) allowed n behind is_on long is-4 is same

-- ---- one text

abbrev text_by : Option (ℕ × List ℕ) → Option (List ℕ × List ℕ)
text_by size = size >>= (λ count. split_behind count.0 count.1)

pub no-size : (bytes : List ℕ) → None ≡ number_at w32 text_limit bytes → None ≡ text_at bytes
no-size bytes none = ap text_by none

pub text-short : (bytes rest : List ℕ) (n : ℕ) → Some (n, rest) ≡ number_at w32 text_limit bytes → length rest < n → None ≡ text_at bytes
text-short bytes rest n is short =
    let fails : nat_le n (length rest) ≡ false = grind (arith, nat_tests) in
    let one : None ≡ split_behind n rest = rw fails refl in
    one ∙ ap text_by is

pub text-found : (bytes rest text behind : List ℕ) (n : ℕ) → Some (n, rest) ≡ number_at w32 text_limit bytes → n ≤ length rest
    → text ≡ take n rest → behind ≡ drop n rest → Some (text, behind) ≡ text_at bytes
text-found bytes rest text behind n is long is_text is_behind =
    let passes : nat_le n (length rest) ≡ true = grind (arith, nat_tests) in
    let pair : List ℕ → List ℕ → Option (List ℕ × List ℕ) = λ a b. Some (a, b) in
    let one : Some (text, behind) ≡ split_behind n rest = rw passes (λ i. pair (is_text i) (is_behind i)) in
    one ∙ ap text_by is

-- ---- one text after another

abbrev pub with_front : List (List ℕ) → Option (List (List ℕ)) → Option (List (List ℕ))
with_front front None = None
with_front front (Some others) = Some (front ++ others)

abbrev texts_by : ℕ → Option (List ℕ × List ℕ) → Option (List (List ℕ))
texts_by count found = found >>= (λ text. texts_in count text.1 >>= (λ others. Some (text.0 ∷ others)))

regroup : (front : List (List ℕ)) (text : List ℕ) (found : Option (List (List ℕ)))
    → with_front front (found >>= (λ others. Some (text ∷ others))) ≡ with_front (front ++ text ∷ []) found
regroup front text None = refl
regroup front text (Some others) =
    let some : List (List ℕ) → Option (List (List ℕ)) = λ l. Some l in
    ap some (sym (append_assoc front (text ∷ []) others))

module _ (front : List (List ℕ)) (count i : ℕ) (bytes : List ℕ) (total : Option (List (List ℕ)))
    (so_far : with_front front (texts_in (count - i) bytes) ≡ total) where
  pub goes_on : (text behind : List ℕ) → i < count → Some (text, behind) ≡ text_at bytes
      → with_front (front ++ text ∷ []) (texts_in (count - (i + 1)) behind) ≡ total
  unfolding texts_in
  goes_on text behind more is =
      let left : count - i ≡ suc (count - (i + 1)) = omega arith in
      sym (regroup front text (texts_in (count - (i + 1)) behind))
      ∙ ap (λ (found : Option (List ℕ × List ℕ)). with_front front (texts_by (count - (i + 1)) found)) is
      ∙ ap (λ (n : ℕ). with_front front (texts_in n bytes)) (sym left) ∙ so_far

  pub stops : i < count → None ≡ text_at bytes → None ≡ total
  unfolding texts_in
  stops more none =
      let left : count - i ≡ suc (count - (i + 1)) = omega arith in
      ap (λ (found : Option (List ℕ × List ℕ)). with_front front (texts_by (count - (i + 1)) found)) none
      ∙ ap (λ (n : ℕ). with_front front (texts_in n bytes)) (sym left) ∙ so_far

  at-end : count ≤ i → with_front front (texts_in 0 bytes) ≡ total
  at-end all =
      let left : count - i ≡ 0 = omega arith in
      ap (λ (n : ℕ). with_front front (texts_in n bytes)) (sym left) ∙ so_far

-- bytes behind the last text
pub ends-badly : (front : List (List ℕ)) (count i : ℕ) (bytes : List ℕ) (total : Option (List (List ℕ)))
    → with_front front (texts_in (count - i) bytes) ≡ total → count ≤ i → 0 < length bytes → None ≡ total
unfolding texts_in
ends-badly front count i [] total so_far all some = absurd (omega arith)
ends-badly front count i (b ∷ bytes) total so_far all some = at-end front count i (b ∷ bytes) total so_far all

pub ends_well : (front : List (List ℕ)) (count i : ℕ) (bytes : List ℕ) (total : Option (List (List ℕ)))
    → with_front front (texts_in (count - i) bytes) ≡ total → count ≤ i → length bytes ≡ 0 → Some front ≡ total
unfolding texts_in
ends_well front count i [] total so_far all none =
    let some : List (List ℕ) → Option (List (List ℕ)) = λ l. Some l in
    ap some (sym (append-nil front)) ∙ at-end front count i [] total so_far all
ends_well front count i (b ∷ bytes) total so_far all none = absurd (omega arith)

-- ---- a batch

abbrev all_by : Option (ℕ × List ℕ) → Option (List (List ℕ))
all_by found = found >>= (λ count. texts_in count.0 count.1)

pub no-count : (bytes : List ℕ) → None ≡ number_at w16 group_limit bytes → None ≡ all_texts_in bytes
no-count bytes none = ap all_by none

pub all-texts-are : (bytes rest : List ℕ) (n : ℕ) (found : Option (List (List ℕ))) → Some (n, rest) ≡ number_at w16 group_limit bytes
    → found ≡ texts_in n rest → found ≡ all_texts_in bytes
all-texts-are bytes rest n found is texts = texts ∙ ap all_by is

-- ---- a label

pub no-label-at-all : (bytes : List ℕ) → length bytes ≡ 0 → None ≡ label_at bytes
unfolding label_at
no-label-at-all [] none = refl
no-label-at-all (b ∷ bytes) none = absurd (omega arith)

module _ (count : ℕ) (bytes : List ℕ) where
  pub label-cut-off : length bytes < count → None ≡ label_at (count ∷ bytes)
  unfolding label_at
  label-cut-off short =
      let fails : nat_le count (length bytes) ≡ false = grind (arith, nat_tests) in
      rw fails refl

  module _ (long : count ≤ length bytes) where
    split-is : split_behind count bytes ≡ Some (take count bytes, drop count bytes)
    split-is =
        let passes : nat_le count (length bytes) ≡ true = grind (arith, nat_tests) in
        rw passes refl

    pub no-label : is_label (take count bytes) ≡ false → None ≡ label_at (count ∷ bytes)
    unfolding label_at
    no-label is = rw split-is (rw is refl)

    pub label-found : (label rest : List ℕ) → is_label (take count bytes) ≡ true → label ≡ take count bytes → rest ≡ drop count bytes
        → Some (label, rest) ≡ label_at (count ∷ bytes)
    unfolding label_at
    label-found label rest is is_label_of is_rest =
        let pair : List ℕ → List ℕ → Option (List ℕ × List ℕ) = λ a b. Some (a, b) in
        rw split-is (rw is (λ i. pair (is_label_of i) (is_rest i)))

-- what stands behind the first byte
behind-first : (count : ℕ) (bytes : List ℕ) → take (length (count ∷ bytes) - 1) bytes ≡ bytes
behind-first count bytes =
    let size : length (count ∷ bytes) - 1 ≡ length bytes = omega arith in
    ap (λ k. take k bytes) size ∙ take-length bytes

pub label-cut-off-in : (bytes : List ℕ) → 0 < length bytes
    → length (take (length bytes - 1) (drop 1 bytes)) < slice_index_or bytes 0 0 → None ≡ label_at bytes
label-cut-off-in [] some short = absurd (omega (arith, some))
label-cut-off-in (count ∷ bytes) some short =
    label-cut-off count bytes (subst (λ (l : List ℕ). length l < count) (behind-first count bytes) short)

pub no-label-in : (bytes front : List ℕ) → 0 < length bytes
    → slice_index_or bytes 0 0 ≤ length (take (length bytes - 1) (drop 1 bytes))
    → front ≡ take (slice_index_or bytes 0 0) (take (length bytes - 1) (drop 1 bytes)) → is_label front ≡ false
    → None ≡ label_at bytes
no-label-in [] front some long is_front is = absurd (omega (arith, some))
no-label-in (count ∷ bytes) front some long is_front is =
    let same = behind-first count bytes in
    let fits : count ≤ length bytes = omega (arith, long, ap length same) in
    no-label count bytes fits (ap is_label (sym (is_front ∙ ap (take count) same)) ∙ is)

pub label-found-in : (bytes front back label : List ℕ) → 0 < length bytes
    → slice_index_or bytes 0 0 ≤ length (take (length bytes - 1) (drop 1 bytes))
    → front ≡ take (slice_index_or bytes 0 0) (take (length bytes - 1) (drop 1 bytes))
    → back ≡ drop (slice_index_or bytes 0 0) (take (length bytes - 1) (drop 1 bytes))
    → is_label front ≡ true → label ≡ front → Some (label, back) ≡ label_at bytes
label-found-in [] front back label some long is_front is_back is same_label = absurd (omega (arith, some))
label-found-in (count ∷ bytes) front back label some long is_front is_back is same_label =
    let same = behind-first count bytes in
    let fits : count ≤ length bytes = omega (arith, long, ap length same) in
    let front_is = is_front ∙ ap (take count) same in
    label-found count bytes fits label back (ap is_label (sym front_is) ∙ is) (same_label ∙ front_is) (is_back ∙ ap (drop count) same)

-- ---- a batch

abbrev batch_by : Option (List ℕ × List ℕ) → Option Batch
batch_by found = found >>= (λ label. all_texts_in label.1 >>= (λ texts. Some (record { label = label.0; texts = texts })))

abbrev batch_with : List ℕ → Option (List (List ℕ)) → Option Batch
batch_with label found = found >>= (λ texts. Some (record { label = label; texts = texts }))

pub no-label-then : (payload : List ℕ) → None ≡ label_at payload → None ≡ batch_in payload
no-label-then payload none = ap batch_by none

pub batch-is : (payload label rest : List ℕ) (found : Option (List (List ℕ))) → Some (label, rest) ≡ label_at payload
    → found ≡ all_texts_in rest → batch_with label found ≡ batch_in payload
batch-is payload label rest found is texts = ap (batch_with label) texts ∙ ap batch_by is

pub was-stored : (payload : List ℕ) (batch : Batch) → ((i : ℕ) → get_or payload i 0 < 256) → Some batch ≡ batch_in payload
    → IsStorable batch × (payload ≡ payload_of batch)
was-stored payload batch small is =
    batch-was-stored payload batch (All-from_get_or (λ b. b < 256) payload 0 (λ i inside. small i)) (sym is)
