-- The blocks of a part, and where a walk over it begins.
use Rattle.std.proofs.Common.{◌≡◌, ℕ, zero, suc, ◌+◌, ◌-◌, ◌*◌, ◌≤◌, ◌<◌, Bool, true, false, cond, List, [], ◌∷◌, ◌++◌, length, map, filter, take, drop, get_or, refl, sym, ap, ◌∙◌, subst, arith, length-append, append_assoc}
use Rattle.std.proofs.lemmas.List.{take_at, drop_at, take-take, drop-drop, drop-take}
use Rattle.std.proofs.lemmas.List.Elements.{filter-append}
use Rattle.std.specs.List.{AllByRecursion, flat_map}
use Rattle.std.specs.Prelude.{IfSome, Option, Some, None}
use Rattle.std.specs.Ordering.{is_gt}
use Rattle.tally_rows.specs.declared.row.Row.{Row}
use Rattle.segment_blocks.specs.Encoded.{key_first}
use Rattle.segment_blocks.specs.PackedRows.{AreSome}
use Rattle.segment_blocks.specs.Walk.{is_below, has_key, rows_in}
use Rattle.segment_blocks.proofs.KeyLemmas.{key_order, Rise, Rise-from_sorted, All-right, Rise-right, AreBelow, AreNotBelow, below-before, not_below-behind}
use Rattle.spill_blobs.specs.Index.{AreChunks, AreRising, Begins, IsIndexOf, lesser}
use Rattle.spill_blobs.specs.Marks.{is_less, place_in, count_of_less}
use Rattle.spill_blobs.specs.Parts.{AreWritten, IsSpilled, Spilled, Stands}
use Rattle.spill_blobs.specs.RowBlocks.{row_bytes}
use Rattle.spill_blobs.specs.Walks.{WalksTo, blocks_from, lesser_limit}
use Rattle.spill_blobs.proofs.RowLemmas.{length-row}
use Rattle.spill_blobs.proofs.MarkLemmas.{index-of}
use Rattle.spill_blobs.proofs.FoundLemmas.{below-none, lesser-none, walks-rows}

-- ---- blocks

-- the bytes of rows at a place are their blocks
pub blocks-are : (bytes : List ℕ) (rows : List Row) (at : ℕ) → AreWritten rows → take (129 * length rows) (drop at bytes) ≡ flat_map row_bytes rows
    → blocks_from bytes at (length rows) ≡ map row_bytes rows
blocks-are bytes [] at filed e = refl
blocks-are bytes (row ∷ rows) at filed e =
    let size = length-row row filed.0.writable in
    let rest = drop at bytes in
    let most : 129 ≤ 129 * length (row ∷ rows) = omega arith in
    let first : take 129 rest ≡ row_bytes row =
    sym (take-take 129 (129 * length (row ∷ rows)) rest most) ∙ ap (take 129) e ∙ take_at (row_bytes row) (flat_map row_bytes rows) 129 size in
    let sum : 129 * length (row ∷ rows) ≡ 129 + 129 * length rows = omega arith in
    let others : take (129 * length rows) (drop (at + 129) bytes) ≡ flat_map row_bytes rows =
    ap (take (129 * length rows)) (sym (drop-drop 129 at bytes)) ∙ sym (drop-take 129 (129 * length rows) rest)
    ∙ ap (λ n. drop 129 (take n rest)) (sym sum) ∙ ap (drop 129) e ∙ drop_at (row_bytes row) (flat_map row_bytes rows) 129 size in
    let later : blocks_from bytes (at + 129) (length rows) ≡ map row_bytes rows = blocks-are bytes rows (at + 129) filed.1 others in
    cc (first, later)

filed-right : (xs ys : List Row) → AreWritten (xs ++ ys) → AreWritten ys
filed-right [] ys h = h
filed-right (x ∷ xs) ys h = filed-right xs ys h.1

filed-left : (xs ys : List Row) → AreWritten (xs ++ ys) → AreWritten xs
filed-left [] ys h = tt
filed-left (x ∷ xs) ys h = (h.0, filed-left xs ys h.1)

length-filed : (rows : List Row) → AreWritten rows → length (flat_map row_bytes rows) ≡ 129 * length rows
length-filed [] h = refl
length-filed (row ∷ rows) h =
    omega (arith, length-append (row_bytes row) (flat_map row_bytes rows), length-row row h.0.writable, length-filed rows h.1)

flat-append : (xs ys : List Row) → flat_map row_bytes (xs ++ ys) ≡ flat_map row_bytes xs ++ flat_map row_bytes ys
flat-append [] ys = refl
flat-append (x ∷ xs) ys = ap (λ l. row_bytes x ++ l) (flat-append xs ys) ∙ sym (append_assoc (row_bytes x) (flat_map row_bytes xs) (flat_map row_bytes ys))

-- those of the rows behind others
pub blocks-behind : (bytes : List ℕ) (xs ys : List Row) (start : ℕ) → AreWritten (xs ++ ys)
    → take (129 * length (xs ++ ys)) (drop start bytes) ≡ flat_map row_bytes (xs ++ ys)
    → blocks_from bytes (start + 129 * length xs) (length ys) ≡ map row_bytes ys
blocks-behind bytes xs ys start filed e =
    let front = flat_map row_bytes xs in
    let size : length front ≡ 129 * length xs = length-filed xs (filed-left xs ys filed) in
    let sum : 129 * length (xs ++ ys) ≡ 129 * length xs + 129 * length ys = omega (arith, length-append xs ys) in
    let back : take (129 * length ys) (drop (start + 129 * length xs) bytes) ≡ flat_map row_bytes ys =
    ap (take (129 * length ys)) (sym (drop-drop (129 * length xs) start bytes)) ∙ sym (drop-take (129 * length xs) (129 * length ys) (drop start bytes))
    ∙ ap (λ n. drop (129 * length xs) (take n (drop start bytes))) (sym sum) ∙ ap (drop (129 * length xs)) (e ∙ flat-append xs ys)
    ∙ drop_at front (flat_map row_bytes ys) (129 * length xs) size in
    blocks-are bytes ys (start + 129 * length xs) (filed-right xs ys filed) back

-- ---- where a walk begins

pub found-behind : (key : List ℕ) (rows : List Row) (passed : ℕ) (b : Begins key rows passed) → filter (has_key key) b.back ≡ filter (has_key key) rows
found-behind key rows passed b =
    ap (λ l. l ++ filter (has_key key) b.back) (sym (below-none key b.front b.before)) ∙ sym (filter-append (has_key key) b.front b.back)
    ∙ ap (filter (has_key key)) (sym b.are)

module _ (key : List ℕ) where
  few-before : (xs ys : List Row) → AreNotBelow key ys → lesser key (xs ++ ys) ≤ length xs
  few-before [] ys h = omega (arith, lesser-none key ys h)
  few-before (x ∷ xs) ys h = by (is_below key x) (few-before xs ys h)
    where
      by : (b : Bool) → lesser key (xs ++ ys) ≤ length xs
          → cond b (suc (lesser key (xs ++ ys))) (lesser key (xs ++ ys)) ≤ suc (length xs)
      by true le = omega arith
      by false le = omega arith

  -- where the first chunk does not begin below the key, no row is below it
  none-below : (chunks : List (List Row)) → AreSome chunks → Rise (rows_in chunks)
      → (0 < length chunks → is_less key (get_or (map (key_first []) chunks) 0 []) ≡ false) → AreNotBelow key (rows_in chunks)
  none-below [] some rise h = tt
  none-below ([] ∷ chunks) some rise h = absurd some
  none-below ((row ∷ rows) ∷ chunks) some rise h = not_below-behind key row (rows ++ rows_in chunks) rise (h (omega arith))

  first-few : (chunk : List Row) (chunks : List (List Row)) → AreChunks (chunk ∷ chunks) → length chunk ≤ 128
  first-few chunk [] full = full
  first-few chunk (next ∷ chunks) full = omega (arith, full.0)

  -- a walk begins at the last chunk that begins below the key
  pub begins : (chunks : List (List Row)) → AreSome chunks → AreChunks chunks → Rise (rows_in chunks) → (less : ℕ) → less ≤ length chunks
      → ((k : ℕ) → k < less → is_less key (get_or (map (key_first []) chunks) k []) ≡ true)
      → ((k : ℕ) → less ≤ k → k < length chunks → is_less key (get_or (map (key_first []) chunks) k []) ≡ false)
      → Begins key (rows_in chunks) (128 * (less - 1))
  begins chunks some full rise zero within below others = record {
    front = [];
    back = rows_in chunks;
    are = refl;
    passed_is = refl;
    before = tt;
    few = omega (arith, lesser-none key (rows_in chunks) (none-below chunks some rise (λ more. others 0 (omega arith) more)));
  }
  begins [] some full rise (suc less) within below others = absurd (omega arith)
  begins ([] ∷ chunks) some full rise (suc less) within below others = absurd some
  begins ((row ∷ rows) ∷ chunks) some full rise (suc zero) within below others = record {
    front = [];
    back = (row ∷ rows) ++ rows_in chunks;
    are = refl;
    passed_is = refl;
    before = tt;
    few = omega (
      arith,
      few-before (row ∷ rows) (rows_in chunks)
          (none-below chunks some (Rise-right (row ∷ rows) (rows_in chunks) rise) (λ more. others 1 (omega arith) (omega arith))),
      first-few (row ∷ rows) chunks full,
    );
  }
  begins ((row ∷ rows) ∷ []) some full rise (suc (suc less)) within below others = absurd (omega arith)
  begins ((row ∷ rows) ∷ [] ∷ chunks) some full rise (suc (suc less)) within below others = absurd some
  begins ((row ∷ rows) ∷ (next ∷ nexts) ∷ chunks) some full rise (suc (suc less)) within below others =
      let tail = (next ∷ nexts) ∷ chunks in
      let chunk = row ∷ rows in
      let b = begins tail some full.1 (Rise-right chunk (rows_in tail) rise) (suc less) (omega arith) (λ k lt. below (suc k) (omega arith))
      (λ k le lt. others (suc k) (omega arith) (omega arith)) in
      record {
        front = chunk ++ b.front;
        back = b.back;
        are = ap (λ l. chunk ++ l) b.are ∙ sym (append_assoc chunk b.front b.back);
        passed_is = omega (arith, b.passed_is, length-append chunk b.front, full.0);
        before = both chunk b.front (below-before key chunk next (nexts ++ rows_in chunks) rise (below 1 (omega arith))) b.before;
        few = b.few;
      }
    where
      both : (xs ys : List Row) → AreBelow key xs → AreBelow key ys → AreBelow key (xs ++ ys)
      both [] ys h k = k
      both (x ∷ xs) ys h k = (h.0, both xs ys h.1 k)

-- ---- the index

-- the first keys of chunks of rows in order rise
rising-firsts : (chunks : List (List Row)) → AreSome chunks → Rise (rows_in chunks) → AreRising (map (key_first []) chunks)
rising-firsts [] some rise = tt
rising-firsts ([] ∷ chunks) some rise = absurd some
rising-firsts ((row ∷ rows) ∷ chunks) some rise = (
  each row chunks some (All-right (λ r. is_gt (key_order row.key r.key) ≡ false) rows (rows_in chunks) rise.0),
  rising-firsts chunks some (Rise-right (row ∷ rows) (rows_in chunks) rise),
)
  where
    each : (first : Row) (later : List (List Row)) → AreSome later → AllByRecursion (λ r. is_gt (key_order first.key r.key) ≡ false) (rows_in later)
        → AllByRecursion (λ other. is_gt (key_order first.key other) ≡ false) (map (key_first []) later)
    each first [] some all = tt
    each first ([] ∷ later) some all = absurd some
    each first ((r ∷ rs) ∷ later) some all =
        (all.0, each first later some (All-right (λ x. is_gt (key_order first.key x.key) ≡ false) rs (rows_in later) all.1))

module _ (part : Spilled) (is : IsSpilled part) where
  rise : Rise part.segment.rows
  rise = Rise-from_sorted part.segment.rows is.is_segment.tally.tallied.ordered

  index : IsIndexOf part.segment.rows part.keys
  index = subst (IsIndexOf part.segment.rows) (sym is.index) (index-of part.segment.rows)

  rise-chunks : Rise (rows_in index.chunks)
  rise-chunks = subst Rise index.are rise

  pub rising-keys : AreRising part.keys
  rising-keys = subst AreRising (sym index.firsts) (rising-firsts index.chunks index.some rise-chunks)

  length-firsts : (chunks : List (List Row)) → length (map (key_first []) chunks) ≡ length chunks
  length-firsts [] = refl
  length-firsts (chunk ∷ chunks) = ap suc (length-firsts chunks)

  -- where a walk over a part begins
  part-begins : (key : List ℕ) (less : ℕ) → less ≤ length part.keys
      → ((k : ℕ) → k < less → is_less key (get_or part.keys k []) ≡ true)
      → ((k : ℕ) → less ≤ k → k < length part.keys → is_less key (get_or part.keys k []) ≡ false)
      → Begins key part.segment.rows (128 * (less - 1))
  part-begins key less within below others =
      let chunks = index.chunks in
      let keys = map (key_first []) chunks in
      let size : length part.keys ≡ length chunks = ap length index.firsts ∙ length-firsts chunks in
      subst (λ (rows : List Row). Begins key rows (128 * (less - 1))) (sym index.are)
      (begins key chunks index.some index.full rise-chunks less (omega (arith, size))
      (λ k lt. subst (λ (ks : List (List ℕ)). is_less key (get_or ks k []) ≡ true) index.firsts (below k lt))
      (λ k le lt. subst (λ (ks : List (List ℕ)). is_less key (get_or ks k []) ≡ false) index.firsts (others k le (omega (arith, size)))))

  pub part-begins-by : (keys : List (List ℕ)) → keys ≡ part.keys → (key : List ℕ) (less : ℕ) → less ≤ length keys
      → ((k : ℕ) → k < less → is_less key (get_or keys k []) ≡ true)
      → ((k : ℕ) → less ≤ k → k < length keys → is_less key (get_or keys k []) ≡ false)
      → Begins key part.segment.rows (128 * (less - 1))
  part-begins-by keys e key less within below others =
      part-begins key less (omega (arith, within, ap length e))
      (λ k lt. subst (λ (ks : List (List ℕ)). is_less key (get_or ks k []) ≡ true) e (below k lt))
      (λ k le lt. subst (λ (ks : List (List ℕ)). is_less key (get_or ks k []) ≡ false) e (others k le (omega (arith, ap length e))))

  -- it is the place that the rows tell
  pub place-is : (keys : List (List ℕ)) → keys ≡ part.keys → (key : List ℕ) (less : ℕ) → less ≡ count_of_less key keys
      → 128 * (less - 1) ≡ place_in key part.segment.rows
  place-is keys e key less count = ap (λ n. 128 * (n - 1)) (count ∙ ap (count_of_less key) (e ∙ is.index))

  pub begins-within : (key : List ℕ) (passed : ℕ) → Begins key part.segment.rows passed → passed ≤ part.count
  begins-within key passed b = omega (arith, is.count, ap length b.are, length-append b.front b.back, b.passed_is)

  module _ (key : List ℕ) (passed : ℕ) (b : Begins key part.segment.rows passed) where
    -- what a walk from there on comes to, where the bytes are told
    pub finds-told : (told : Option (List ℕ)) → Stands part told → (found : Option (List Row))
        → IfSome told (λ bytes. WalksTo key (blocks_from bytes (part.start + 129 * passed) (part.count - passed)) lesser_limit found)
        → found ≡ Some (filter (has_key key) part.segment.rows)
    finds-told None stands found h = absurd stands
    finds-told (Some bytes) stands found h =
        let left : part.count - passed ≡ length b.back = omega (arith, is.count, ap length b.are, length-append b.front b.back, b.passed_is) in
        let written : AreWritten (b.front ++ b.back) = subst AreWritten b.are is.written in
        let back_rises : Rise b.back = Rise-right b.front b.back (subst Rise b.are rise) in
        let bytes_are : take (129 * length (b.front ++ b.back)) (drop part.start bytes) ≡ flat_map row_bytes (b.front ++ b.back) =
        subst (λ (rows : List Row). take (129 * length rows) (drop part.start bytes) ≡ flat_map row_bytes rows) b.are
        (subst (λ (n : ℕ). take (129 * n) (drop part.start bytes) ≡ flat_map row_bytes part.segment.rows) is.count stands) in
        let blocks = blocks-behind bytes b.front b.back part.start written bytes_are in
        let same : blocks_from bytes (part.start + 129 * passed) (part.count - passed) ≡ map row_bytes b.back =
        ap (λ n. blocks_from bytes (part.start + 129 * n) (part.count - passed)) b.passed_is
        ∙ ap (λ n. blocks_from bytes (part.start + 129 * length b.front) n) left ∙ blocks in
        walks-rows key b.back (filed-right b.front b.back written) back_rises lesser_limit b.few found
        (subst (λ (xs : List (List ℕ)). WalksTo key xs lesser_limit found) same h)
        ∙ ap Some (found-behind key part.segment.rows passed b)
