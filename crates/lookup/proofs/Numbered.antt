-- Rows that are picked of parts, one part after another.
use Rattle.std.proofs.Common.{◌≡◌, ℕ, ◌+◌, ◌<◌, Bool, true, false, ◌&&◌, cond, List, [], ◌∷◌, ◌++◌, map, filter, take, length, get_or, bytes_eq, refl, sym, ap, subst, ◌∙◌, zero-add, append_assoc, arith}
use Rattle.std.specs.List.{AllByRecursion}
use Rattle.std.proofs.lemmas.List.{append-nil, take_more}
use Rattle.std.proofs.lemmas.List.Sums.{sum_by-cons}
use Rattle.tally_rows.specs.declared.row_key.RowKey.{RowKey}
use Rattle.tally_rows.specs.declared.row.Row.{Row}
use Rattle.tally_rows.specs.Cover.{passes_row_key, meets}
use Rattle.tally_rows.specs.Recount.{picks}
use Rattle.tally_rows.specs.Row.{row_key_of}
use Rattle.lookup.specs.Parts.{Part}
use Rattle.explorer_model.specs.declared.query.Filter.{Filter}
use Rattle.explorer_model.specs.Counting.{any_next}
use Rattle.row_sums.specs.Hits.{NumberedRow}
use Rattle.lookup.specs.Hits.{rows_from, games_counted}

-- a row with the number of the first game of its batch
abbrev pub numbered : ℕ → Row → NumberedRow
numbered first row = record { row = row; first = first }

-- ---- filters, one after another

module _ {X : Type 0} where
  pub filter-both : (p q : X → Bool) (xs : List X) → filter q (filter p xs) ≡ filter (λ x. p x && q x) xs
  filter-both p q [] = refl
  filter-both p q (x ∷ xs) =
      elim (p x) as (λ b. filter q (cond b (x ∷ filter p xs) (filter p xs)) ≡ cond (b && q x) (x ∷ filter (λ y. p y && q y) xs) (filter (λ y. p y && q y) xs)) [
        | true ↦ ap (λ l. cond (q x) (x ∷ l) l) (filter-both p q xs)
        | false ↦ filter-both p q xs
      ]

-- ---- the rows of parts

module _ (key : List ℕ) (pick : RowKey → Bool) where
  -- the rows of one position whose parts are picked
  pub picked-rows : (rows : List Row) → filter (λ row. pick (row_key_of row)) (filter (λ row. bytes_eq row.key key) rows) ≡ filter (picks key pick) rows
  unfolding picks
  picked-rows rows = filter-both (λ row. bytes_eq row.key key) (λ row. pick (row_key_of row)) rows

  pub rows_from-nil : (first : ℕ) → rows_from key pick first [] ≡ []
  unfolding rows_from
  rows_from-nil first = refl

  rows_from-append : (first : ℕ) (xs ys : List Part)
      → rows_from key pick first (xs ++ ys) ≡ rows_from key pick first xs ++ rows_from key pick (first + games_counted xs) ys
  unfolding rows_from
  rows_from-append first [] ys = ap (λ n. rows_from key pick n ys) (omega arith)
  rows_from-append first (x ∷ xs) ys =
      ap (λ l. map (numbered first) (filter (picks key pick) x.rows) ++ l)
      (rows_from-append (first + length x.classes) xs ys
      ∙ ap (λ n. rows_from key pick (first + length x.classes) xs ++ rows_from key pick n ys) (omega (arith, sum_by-cons (λ (t : Part). length t.classes) x xs)))
      ∙ sym (append_assoc (map (numbered first) (filter (picks key pick) x.rows)) (rows_from key pick (first + length x.classes) xs) _)

  -- with one part more
  pub rows_from-more : (parts : List Part) (i : ℕ) (d : Part) → i < length parts
      → rows_from key pick 0 (take (i + 1) parts)
      ≡ rows_from key pick 0 (take i parts) ++ map (numbered (games_counted (take i parts))) (filter (picks key pick) (get_or parts i d).rows)
  unfolding rows_from
  rows_from-more parts i d below =
      ap (rows_from key pick 0) (take_more parts i d below)
      ∙ rows_from-append 0 (take i parts) (get_or parts i d ∷ [])
      ∙ ap (λ l. rows_from key pick 0 (take i parts) ++ l)
      (append-nil (map (numbered (0 + games_counted (take i parts))) (filter (picks key pick) (get_or parts i d).rows))
      ∙ ap (λ n. map (numbered n) (filter (picks key pick) (get_or parts i d).rows)) (zero-add (games_counted (take i parts))))

pub AllByRecursion-more : {X : Type 0} (P : X → Type 0) (xs : List X) (i : ℕ) (d : X) → i < length xs → AllByRecursion P (take i xs) → P (get_or xs i d)
    → AllByRecursion P (take (i + 1) xs)
AllByRecursion-more P xs i d below each one = subst (AllByRecursion P) (sym (take_more xs i d below)) (push (take i xs) each)
  where
    push : (ys : List _) → AllByRecursion P ys → AllByRecursion P (ys ++ get_or xs i d ∷ [])
    push [] h = (one, tt)
    push (y ∷ ys) h = (h.0, push ys h.1)

-- ---- the rows that a filter takes

pub taken-rows : (key : List ℕ) (wanted : Filter) (parts : List Part)
    → rows_from key (passes_row_key wanted) 0 parts ≡ rows_from key (meets wanted any_next) 0 parts
taken-rows key wanted parts =
    ap (λ pick. rows_from key pick 0 parts) (λ i row_key. and-true (passes_row_key wanted row_key) i)
  where
    and-true : (b : Bool) → b ≡ (b && true)
    and-true true = refl
    and-true false = refl
