-- Lists of entries that are read from bytes.
use Rattle.std.proofs.Common.{◌≡◌, ◌≢◌, ℕ, ◌+◌, ◌-◌, ◌*◌, ◌≤◌, ◌<◌, Bool, List, [], ◌∷◌, ◌++◌, length, take, get_or, replicate, refl, sym, ap, ◌∙◌, subst, arith, length-append, append_assoc, append-nil}
use Rattle.std.specs.List.{AllByRecursion, flat_map}
use Rattle.std.proofs.lemmas.List.{get_or_default, take_more}
use Rattle.std.proofs.lemmas.List.Concat.{flat_map-append}
use Rattle.plain_laws.specs.Lists.{same_cons}
use Rattle.best_lists.specs.declared.entry.Entry.{Entry}
use Rattle.explorer_model.specs.Best.{best, best_one, others}
use Rattle.spill_blobs.specs.RowBlocks.{entry_bytes, list_bytes, AreFew, Fits, IsList}
use Rattle.spill_blobs.proofs.RowLemmas.{split, length-entries, length-list, one_list}

-- what stands for an entry past the end of a list
abbrev pub no_entry : Entry
no_entry = record { rank = 0; number = 0 }

-- the entry at a place
pub at-place : (entries : List Entry) (i : ℕ) → i < length entries → get_or entries i no_entry ≡ get_or entries i (get_or entries i no_entry)
at-place entries i inside = get_or_default entries i no_entry (get_or entries i no_entry) inside

-- one entry more
pub fit-more : (xs : List Entry) (x : Entry) → AllByRecursion Fits xs → Fits x → AllByRecursion Fits (xs ++ x ∷ [])
fit-more [] x all one = (one, tt)
fit-more (y ∷ xs) x all one = (all.0, fit-more xs x all.1 one)

pub bytes-more : (all rest more : List ℕ) (xs : List Entry) (x : Entry) → all ≡ flat_map entry_bytes xs ++ rest → rest ≡ entry_bytes x ++ more
    → all ≡ flat_map entry_bytes (xs ++ x ∷ []) ++ more
bytes-more all rest more xs x is next =
    is ∙ ap (λ l. flat_map entry_bytes xs ++ l) next ∙ sym (append_assoc (flat_map entry_bytes xs) (entry_bytes x) more)
    ∙ ap (λ l. l ++ more) (ap (λ l. flat_map entry_bytes xs ++ l) (sym (append-nil (entry_bytes x))) ∙ sym (flat_map-append entry_bytes xs (x ∷ [])))

-- entries that are being taken from the front of bytes: 32 of them, of which these are left
pub record IsTaking (all rest : List ℕ) (count : ℕ) (entries : List Entry) : Type 0 where
  pub few : length entries ≤ count
  pub bytes : all ≡ flat_map entry_bytes entries ++ rest
  pub fit : AllByRecursion Fits entries
  pub left : length rest + 8 * length entries ≡ 32

pub taking-more : (all rest more : List ℕ) (count : ℕ) (xs ys : List Entry) (x : Entry) → IsTaking all rest count xs → length xs < count
    → rest ≡ entry_bytes x ++ more → Fits x → length more + 8 ≡ length rest → ys ≡ xs ++ x ∷ [] → IsTaking all more count ys
taking-more all rest more count xs ys x taking inside is fits left ys_are = subst (IsTaking all more count) (sym ys_are) (record {
  few = omega (arith, length-append xs (x ∷ []), inside);
  bytes = bytes-more all rest more xs x taking.bytes is;
  fit = fit-more xs x taking.fit fits;
  left = omega (arith, length-append xs (x ∷ []), left, taking.left);
})

module _ (block all rest : List ℕ) (count : ℕ) (xs : List Entry) (block_is : block ≡ count ∷ all) (all_is : all ≡ flat_map entry_bytes xs ++ rest)
    (size : length xs ≡ count) (left : length rest + 8 * length xs ≡ 32) where
  -- with zeros behind them they are the block
  pub block-is : rest ≡ replicate (length rest) 0 → block ≡ list_bytes xs
  block-is zeros =
      let room : length rest ≡ 8 * (4 - length xs) = omega (arith, left) in
      block_is ∙ ap (λ n. n ∷ all) (sym size)
      ∙ ap (λ l. length xs ∷ l) (all_is ∙ ap (λ l. flat_map entry_bytes xs ++ l) (zeros ∙ ap (λ n. replicate n 0) room))

  -- and with others no entries are
  pub block-none : (rest ≡ replicate (length rest) 0 → ⊥) → (ys : List Entry) → AreFew ys → block ≢ list_bytes ys
  block-none others ys few e =
      let both = same_cons count (length ys) all _ (sym block_is ∙ e) in
      let sizes : length (flat_map entry_bytes xs) ≡ length (flat_map entry_bytes ys) = omega (arith, length-entries xs, length-entries ys, both.0, size) in
      let two = split (flat_map entry_bytes xs) (flat_map entry_bytes ys) rest (replicate (8 * (4 - length ys)) 0) sizes (sym all_is ∙ both.1) in
      others (two.back ∙ ap (λ n. replicate n 0) (omega (arith, left, size, both.0, few.few)))

-- too many
pub count-none : (block all : List ℕ) (count : ℕ) → block ≡ count ∷ all → 4 < count → (ys : List Entry) → AreFew ys → block ≢ list_bytes ys
count-none block all count is many ys few e = (let both = same_cons count (length ys) all _ (sym is ∙ e) in omega (arith, both.0, few.few, many))

-- ---- the best of them

module _ (before : Entry → Entry → Bool) where
  best-single : (x : Entry) → best before 4 (x ∷ []) ≡ x ∷ []
  unfolding best best_one others
  best-single x = refl

  pub best-none : best before 4 [] ≡ []
  unfolding best
  best-none = refl

  -- with one entry more
  pub best-more : ((left right : List Entry) → best before 4 (left ++ right) ≡ best before 4 (best before 4 left ++ best before 4 right))
      → (xs : List Entry) (i : ℕ) (x : Entry) (old new : List Entry) → i < length xs → x ≡ get_or xs i x → old ≡ best before 4 (take i xs)
      → new ≡ best before 4 (old ++ x ∷ []) → new ≡ best before 4 (take (i + 1) xs)
  best-more both xs i x old new inside at is joined =
      joined ∙ ap (λ l. best before 4 (l ++ x ∷ [])) is
      ∙ ap (λ l. best before 4 (best before 4 (take i xs) ++ l)) (sym (best-single x))
      ∙ sym (both (take i xs) (x ∷ []))
      ∙ ap (best before 4) (ap (λ y. take i xs ++ y ∷ []) at ∙ sym (take_more xs i x inside))

  -- ---- a list at the front of bytes

  -- entries that are not their own best four are no list, nor are others
  pub list-none : (bytes block rest : List ℕ) (xs : List Entry) → length block ≡ 33 → bytes ≡ block ++ rest → AreFew xs → block ≡ list_bytes xs
      → (best before 4 xs ≡ xs → ⊥) → (ys : List Entry) (more : List ℕ) → IsList before ys → bytes ≢ list_bytes ys ++ more
  list-none bytes block rest xs size bytes_are few is own ys more list e =
      let two = split block (list_bytes ys) rest more (size ∙ sym (length-list ys list.few)) (sym bytes_are ∙ e) in
      let same : xs ≡ ys = one_list xs ys few list.few (sym is ∙ two.front) in
      own (ap (best before 4) same ∙ list.own_best ∙ sym same)

  pub list-some : (bytes block rest : List ℕ) (xs list : List Entry) → bytes ≡ block ++ rest → AreFew xs → block ≡ list_bytes xs → list ≡ xs
      → best before 4 list ≡ list → IsList before list × (bytes ≡ list_bytes list ++ rest)
  list-some bytes block rest xs list bytes_are few is same own = (
    record { few = subst AreFew (sym same) few; own_best = own },
    bytes_are ∙ ap (λ l. l ++ rest) (is ∙ ap list_bytes (sym same)),
  )

  pub no-list : (bytes block rest : List ℕ) → length block ≡ 33 → bytes ≡ block ++ rest
      → ((xs : List Entry) → AreFew xs → block ≢ list_bytes xs) → (ys : List Entry) (more : List ℕ) → IsList before ys → bytes ≢ list_bytes ys ++ more
  no-list bytes block rest size bytes_are none ys more list e =
      let two = split block (list_bytes ys) rest more (size ∙ sym (length-list ys list.few)) (sym bytes_are ∙ e) in
      none ys list.few two.front
