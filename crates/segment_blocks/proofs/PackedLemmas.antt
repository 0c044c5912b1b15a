-- A row behind the rows of blocks.
use Rattle.std.proofs.Common.{◌≡◌, ℕ, zero, suc, ◌+◌, ◌-◌, ◌<◌, ◌≤◌, Option, map, slice_get, refl, ◌⊎◌, inl, inr, Result, Ok, Err, List, [], ◌∷◌, ◌++◌, length, get_or, set, sym, ap, subst, ◌∙◌, arith, append_assoc, append-nil}
use Rattle.std.specs.List.Sorted.{IsStrictlySortedBy}
use Rattle.std.specs.Result.{OnOk, OnErr}
use Rattle.std.proofs.lemmas.List.{set-get_or, get_or_default, length-append}
use Rattle.std.proofs.lemmas.List.Concat.{flat_map-append}
use Rattle.tally_rows.specs.declared.row.Row.{Row}
use Rattle.segment_blocks.specs.Walk.{rows_in}
use Rattle.segment_blocks.specs.Encoded.{key_first}
use Rattle.segment_blocks.specs.PackedRows.{AreBlocksOf, AreInOrder, AreSome, AreFew, ArePacked, IsFirstKey}

pub ArePacked-none : ArePacked []
unfolding IsStrictlySortedBy
ArePacked-none = record { some = tt; few = tt; ordered = tt }

pub pushed_or_not : {X E : Type 0} (r : Result X E) (old new : List Row) (row : Row) → OnOk r (new ≡ old ++ row ∷ []) → OnErr r (new ≡ old)
    → (new ≡ old ++ row ∷ []) ⊎ (new ≡ old)
pushed_or_not (Ok x) old new row ok err = inl ok
pushed_or_not (Err e) old new row ok err = inr err

-- the last block with a row more
pub rows_in-last : (blocks : List (List Row)) (n : ℕ) (row : Row) → suc n ≡ length blocks
    → rows_in (set blocks n (get_or blocks n [] ++ row ∷ [])) ≡ rows_in blocks ++ row ∷ []
rows_in-last [] n row e = absurd (omega arith)
rows_in-last (b ∷ []) zero row e = append-nil (b ++ row ∷ []) ∙ ap (λ l. l ++ row ∷ []) (sym (append-nil b))
rows_in-last (b ∷ d ∷ blocks) zero row e = absurd (omega arith)
rows_in-last (b ∷ blocks) (suc n) row e =
    ap (λ l. b ++ l) (rows_in-last blocks n row (omega arith)) ∙ sym (append_assoc b (rows_in blocks) (row ∷ []))

some-set : (blocks : List (List Row)) (n : ℕ) (row : Row) → AreSome blocks → AreSome (set blocks n (get_or blocks n [] ++ row ∷ []))
some-set [] n row h = tt
some-set ([] ∷ blocks) n row h = absurd h
some-set ((r ∷ rows) ∷ blocks) zero row h = h
some-set ((r ∷ rows) ∷ blocks) (suc n) row h = some-set blocks n row h

some-push : (blocks : List (List Row)) (row : Row) → AreSome blocks → AreSome (blocks ++ (row ∷ []) ∷ [])
some-push [] row h = tt
some-push ([] ∷ blocks) row h = absurd h
some-push ((r ∷ rows) ∷ blocks) row h = some-push blocks row h

-- a block in place of another one
pub few-set : (blocks : List (List Row)) (n : ℕ) (block : List Row) → AreFew blocks → length block ≤ 128 → AreFew (set blocks n block)
few-set [] n block h few = tt
few-set (b ∷ blocks) zero block h few = (few, h.1)
few-set (b ∷ blocks) (suc n) block h few = (h.0, few-set blocks n block h.1 few)

-- one block of such
pub few-at : (blocks : List (List Row)) (n : ℕ) (block : List Row) → block ≡ get_or blocks n block → suc n ≡ length blocks → AreFew blocks → length block ≤ 128
few-at blocks n block is e h = subst (λ b. length b ≤ 128) (sym is) (at blocks n block (omega (arith, e)) h)
  where
    at : (bs : List (List Row)) (k : ℕ) (d : List Row) → k < length bs → AreFew bs → length (get_or bs k d) ≤ 128
    at [] k d below a = absurd (omega arith)
    at (b ∷ bs) zero d below a = a.0
    at (b ∷ bs) (suc k) d below a = at bs k d (omega arith) a.1

few-append : (xs ys : List (List Row)) → AreFew xs → AreFew ys → AreFew (xs ++ ys)
few-append [] ys a b = b
few-append (x ∷ xs) ys a b = (a.0, few-append xs ys a.1 b)

module _ (blocks : List (List Row)) (row : Row) (h : ArePacked blocks) (ordered : AreInOrder (rows_in blocks ++ row ∷ [])) where
  pub ArePacked-last : (n : ℕ) → suc n ≡ length blocks → length (get_or blocks n []) < 128 → ArePacked (set blocks n (get_or blocks n [] ++ row ∷ []))
  ArePacked-last n e room = record {
    some = some-set blocks n row h.some;
    few = few-set blocks n (get_or blocks n [] ++ row ∷ []) h.few (omega (arith, room, length-append (get_or blocks n []) (row ∷ [])));
    ordered = subst AreInOrder (sym (rows_in-last blocks n row e)) ordered;
  }

  pub rows_in-push : rows_in (blocks ++ (row ∷ []) ∷ []) ≡ rows_in blocks ++ row ∷ []
  rows_in-push = flat_map-append (λ b. b) blocks ((row ∷ []) ∷ [])

  pub ArePacked-push : ArePacked (blocks ++ (row ∷ []) ∷ [])
  ArePacked-push = record {
    some = some-push blocks row h.some;
    few = few-append blocks ((row ∷ []) ∷ []) h.few (omega arith, tt);
    ordered = subst AreInOrder (sym rows_in-push) ordered;
  }

module _ (blocks : List (List Row)) (row : Row) (n : ℕ) (e : suc n ≡ length blocks) (old new : List Row) (is : old ≡ get_or blocks n old) where
  last_is : old ≡ get_or blocks n []
  last_is = is ∙ get_or_default blocks n old [] (omega (arith, e))

  pushed_is : new ≡ old ++ row ∷ [] → set blocks n new ≡ set blocks n (get_or blocks n [] ++ row ∷ [])
  pushed_is pushed = ap (set blocks n) (pushed ∙ ap (λ l. l ++ row ∷ []) last_is)

  pub rows_in-after : new ≡ old ++ row ∷ [] → rows_in (set blocks n new) ≡ rows_in blocks ++ row ∷ []
  rows_in-after pushed = ap rows_in (pushed_is pushed) ∙ rows_in-last blocks n row e

  pub ArePacked-after : ArePacked blocks → AreInOrder (rows_in blocks ++ row ∷ []) → length old < 128
      → (new ≡ old ++ row ∷ []) ⊎ (new ≡ old) → ArePacked (set blocks n new)
  ArePacked-after h ordered room (inl pushed) =
      subst ArePacked (sym (pushed_is pushed)) (ArePacked-last blocks row h ordered n e (subst (λ b. length b < 128) last_is room))
  ArePacked-after h ordered room (inr same) = subst ArePacked (sym (ap (set blocks n) (same ∙ is) ∙ set-get_or blocks n old)) h

some-append : (xs ys : List (List Row)) → AreSome xs → AreSome ys → AreSome (xs ++ ys)
some-append [] ys a b = b
some-append ([] ∷ xs) ys a b = absurd a
some-append ((r ∷ rows) ∷ xs) ys a b = some-append xs ys a b

pub rows_in-append : (xs ys : List (List Row)) → rows_in (xs ++ ys) ≡ rows_in xs ++ rows_in ys
rows_in-append xs ys = flat_map-append (λ b. b) xs ys

pub ArePacked-append : (xs ys : List (List Row)) → ArePacked xs → ArePacked ys → AreInOrder (rows_in xs ++ rows_in ys)
    → ArePacked (xs ++ ys)
ArePacked-append xs ys a b ordered = record {
  some = some-append xs ys a.some b.some;
  few = few-append xs ys a.few b.few;
  ordered = subst AreInOrder (sym (rows_in-append xs ys)) ordered;
}

-- ---- how many rows blocks have

pub blocks-rows : (blocks : List (List Row)) → AreSome blocks → AreFew blocks → AreBlocksOf (rows_in blocks) (length blocks)
blocks-rows [] some few = record { room = omega arith; some = omega arith }
blocks-rows ([] ∷ blocks) some few = absurd some
blocks-rows ((row ∷ rows) ∷ blocks) some few =
    let next = blocks-rows blocks some few.1 in
    record {
      room = omega (arith, few.0, next.room, length-append (row ∷ rows) (rows_in blocks));
      some = omega (arith, next.some, length-append (row ∷ rows) (rows_in blocks));
    }

-- ---- the key of a row by its place

abbrev key_in : List Row → ℕ → Option (List ℕ)
key_in rows n = slice_get (map (λ row. row.key) rows) n

key_in-right : (xs ys : List Row) (n : ℕ) → length xs ≤ n → key_in (xs ++ ys) n ≡ key_in ys (n - length xs)
key_in-right [] ys n le = let e : n ≡ n - 0 = omega arith in ap (key_in ys) e
key_in-right (x ∷ xs) ys zero le = absurd (omega arith)
key_in-right (x ∷ xs) ys (suc n) le =
    let e : n - length xs ≡ suc n - suc (length xs) = omega arith in
    key_in-right xs ys n (omega arith) ∙ ap (key_in ys) e

-- where the first row of a block stands among all rows
pub first_key-in : (blocks : List (List Row)) (n : ℕ) → AreSome blocks → n < length blocks
    → IsFirstKey (rows_in blocks) (length blocks) n (key_first [] (get_or blocks n []))
first_key-in [] n some inside = absurd (omega arith)
first_key-in ([] ∷ blocks) n some inside = absurd some
first_key-in ((row ∷ rows) ∷ blocks) zero some inside = record { inside = inside; place = 0; behind = omega arith; is = refl }
first_key-in ((row ∷ rows) ∷ blocks) (suc n) some inside =
    let block = row ∷ rows in
    let next = first_key-in blocks n some (omega arith) in
    let place = length block + next.place in
    let back : place - length block ≡ next.place = omega arith in
    record {
      inside = inside;
      place = place;
      behind = omega (arith, next.behind);
      is = key_in-right block (rows_in blocks) place (omega arith) ∙ ap (key_in (rows_in blocks)) back ∙ next.is;
    }
