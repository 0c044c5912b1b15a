-- The index as the first keys of chunks of 128 rows.
use Rattle.std.proofs.Common.{◌≡◌, ℕ, zero, suc, ◌-◌, ◌≤◌, ◌<◌, Bool, true, false, cond, List, [], ◌∷◌, ◌++◌, length, take, drop, get_or, refl, sym, ap, ◌∙◌, arith}
use Rattle.std.proofs.lemmas.List.{take-append-drop, length-take, length-drop, length-take-le}
use Rattle.tally_rows.specs.declared.row.Row.{Row}
use Rattle.segment_blocks.specs.PackedRows.{AreSome}
use Rattle.segment_blocks.specs.Walk.{rows_in}
use Rattle.spill_blobs.specs.Index.{AreChunks, IsIndexOf}
use Rattle.spill_blobs.specs.Marks.{marks, marks_behind, marked, skip_behind, skipped, is_less, count_of_less}

-- rows that are left out first
marks-drop : (skip : ℕ) (rows : List Row) → marks_behind skip rows ≡ marks (drop skip rows)
unfolding marks_behind
marks-drop zero rows = refl
marks-drop (suc skip) [] = refl
marks-drop (suc skip) (row ∷ rows) = marks-drop skip rows

marks-first : (row : Row) (rows : List Row) → marks (row ∷ rows) ≡ row.key ∷ marks (drop 127 rows)
unfolding marks_behind
marks-first row rows = ap (λ keys. row.key ∷ keys) (marks-drop 127 rows)

marks-none : marks [] ≡ []
unfolding marks_behind
marks-none = refl

-- with a chunk in front
chunk-before : (row : Row) (rows : List Row) (chunks : List (List Row)) → length rows ≤ 127
    → (0 < length (rows_in chunks) → length rows ≡ 127) → AreSome chunks → AreChunks chunks → AreChunks ((row ∷ rows) ∷ chunks)
chunk-before row rows [] few full some chunked = omega arith
chunk-before row rows ([] ∷ chunks) few full some chunked = absurd some
chunk-before row rows ((r ∷ rs) ∷ chunks) few full some chunked = (ap suc (full (omega arith)), chunked)

-- the index of rows, by how many they are at most
index-within : (n : ℕ) (rows : List Row) → length rows ≤ n → IsIndexOf rows (marks rows)
index-within n [] few = record { chunks = []; are = refl; some = tt; full = tt; firsts = marks-none }
index-within zero (row ∷ rows) few = absurd (omega arith)
index-within (suc n) (row ∷ rows) few =
    let left : length (drop 127 rows) ≤ n = omega (arith, length-drop 127 rows) in
    let rest = index-within n (drop 127 rows) left in
    let sum : length (drop 127 rows) ≡ length (rows_in rest.chunks) = ap length rest.are in
    record {
      chunks = (row ∷ take 127 rows) ∷ rest.chunks;
      are = ap (λ l. row ∷ l) (sym (take-append-drop 127 rows) ∙ ap (λ l. take 127 rows ++ l) rest.are);
      some = rest.some;
      full = chunk-before row (take 127 rows) rest.chunks (omega (arith, length-take 127 rows))
          (λ more. length-take-le 127 rows (omega (arith, sum, length-drop 127 rows, more))) rest.some rest.full;
      firsts = marks-first row rows ∙ ap (λ keys. row.key ∷ keys) rest.firsts;
    }

pub index-of : (rows : List Row) → IsIndexOf rows (marks rows)
index-of rows = index-within (length rows) rows (omega arith)

-- ---- with one row more

pub marks-more : (skip : ℕ) (rows : List Row) (row : Row)
    → marks_behind skip (rows ++ row ∷ []) ≡ marks_behind skip rows ++ marked (skip_behind skip rows) row.key
unfolding marks_behind skip_behind
marks-more zero [] row = refl
marks-more (suc skip) [] row = refl
marks-more zero (r ∷ rows) row = ap (λ keys. r.key ∷ keys) (marks-more 127 rows row)
marks-more (suc skip) (r ∷ rows) row = marks-more skip rows row

pub skip-more : (skip : ℕ) (rows : List Row) (row : Row) → skip_behind skip (rows ++ row ∷ []) ≡ skipped (skip_behind skip rows)
unfolding skip_behind
skip-more zero [] row = refl
skip-more (suc skip) [] row = refl
skip-more zero (r ∷ rows) row = skip-more 127 rows row
skip-more (suc skip) (r ∷ rows) row = skip-more skip rows row

pub marked-none : (skip : ℕ) (key : List ℕ) → 0 < skip → marked skip key ≡ []
marked-none zero key some = absurd (omega arith)
marked-none (suc skip) key some = refl

pub skipped-less : (skip : ℕ) → 0 < skip → skipped skip ≡ skip - 1
skipped-less zero some = absurd (omega arith)
skipped-less (suc skip) some = omega arith

-- ---- how many keys are less

module _ (key : List ℕ) where
  one-by : (one : List ℕ) (keys : List (List ℕ)) (b : Bool) → is_less key one ≡ b
      → count_of_less key (one ∷ keys) ≡ cond b (suc (count_of_less key keys)) (count_of_less key keys)
  one-by one keys b is = ap (λ b. cond b (suc (count_of_less key keys)) (count_of_less key keys)) is

  none-less : (keys : List (List ℕ)) → ((k : ℕ) → k < length keys → is_less key (get_or keys k []) ≡ false) → count_of_less key keys ≡ 0
  none-less [] others = refl
  none-less (one ∷ keys) others = one-by one keys false (others 0 (omega arith)) ∙ none-less keys (λ k inside. others (suc k) (omega arith))

  -- a place before which all are less, and from which on none is, is how many are
  pub count-is : (keys : List (List ℕ)) (n : ℕ) → n ≤ length keys
      → ((k : ℕ) → k < n → is_less key (get_or keys k []) ≡ true)
      → ((k : ℕ) → n ≤ k → k < length keys → is_less key (get_or keys k []) ≡ false)
      → n ≡ count_of_less key keys
  count-is keys zero within less others = sym (none-less keys (λ k inside. others k (omega arith) inside))
  count-is [] (suc n) within less others = absurd (omega arith)
  count-is (one ∷ keys) (suc n) within less others =
      ap suc (count-is keys n (omega arith) (λ k lt. less (suc k) (omega arith)) (λ k le lt. others (suc k) (omega arith) (omega arith)))
      ∙ sym (one-by one keys true (less 0 (omega arith)))
