-- Places in lists one after another, as loops come to them.
use Rattle.std.proofs.Common.{◌≡◌, ℕ, zero, suc, ◌+◌, ◌-◌, ◌<◌, ◌≤◌, Bool, true, false, cond, List, [], ◌∷◌, ◌++◌, length, take, drop, get_or, map, Option, Some, None, sym, ap, ◌∙◌, subst, arith}
use Rattle.std.specs.Prelude.{option_and_then, filter_map}
use Rattle.std.specs.List.{AllByRecursion, cons_option, find, slice_get}
use Rattle.std.proofs.lemmas.List.{append-nil, take_more, drop_more, drop_all, length-append, length-map}
use Rattle.std.proofs.lemmas.List.Concat.{flat_map-append}
use Rattle.std.proofs.lemmas.List.Elements.{filter_map-append}
use Rattle.plain_laws.specs.Lists.{each-push, get-front}
use Rattle.best_lists.specs.declared.entry.Entry.{Entry}
use Rattle.row_sums.specs.declared.hits.Hit.{Hit}
use Rattle.row_sums.specs.Hits.{NumberedRow, hit_as}
use Rattle.row_sums.specs.Listing.{classes_in, lists_number, next_where}
use Rattle.row_sums.proofs.Rows.{hit-within, hit-at}
use Rattle.tally_rows.specs.declared.row.Row.{Row}
use Rattle.segment_blocks.specs.Segment.{CountedSpan}

-- ---- places in lists one after another

pub get-right : {X : Type 0} (xs ys : List X) (k : ℕ) → length xs ≤ k → slice_get (xs ++ ys) k ≡ slice_get ys (k - length xs)
get-right [] ys k past = (let e : k ≡ k - 0 = omega arith in ap (slice_get ys) e)
get-right (x ∷ xs) ys zero past = absurd (omega arith)
get-right (x ∷ xs) ys (suc k) past =
    let e : k - length xs ≡ suc k - suc (length xs) = omega arith in
    get-right xs ys k (omega arith) ∙ ap (slice_get ys) e

-- ---- the first row that lists a number

module _ (list : Row → List Entry) (hits : List Hit) (i : ℕ) (hit : Hit) (within : i < length hits) (is : hit ≡ get_or hits i hit) (number : ℕ) where
  rest-is : drop i (map hit_as hits) ≡ hit_as hit ∷ drop (i + 1) (map hit_as hits)
  rest-is =
      drop_more (map hit_as hits) i (hit_as hit) (hit-within hits i hit within is)
      ∙ ap (λ h. h ∷ drop (i + 1) (map hit_as hits)) (hit-at hits i hit within is)

  next-by : (b : Bool) → lists_number list number (hit_as hit) ≡ b
      → next_where list (drop i (map hit_as hits)) number ≡ cond b (hit_as hit).row.next (next_where list (drop (i + 1) (map hit_as hits)) number)
  unfolding next_where
  next-by true lists =
      ap (λ l. option_and_then (λ h. h.row.next) (find (lists_number list number) l)) rest-is
      ∙ ap (λ b. option_and_then (λ (h : NumberedRow). h.row.next) (cond b (Some (hit_as hit)) (find (lists_number list number) (drop (i + 1) (map hit_as hits))))) lists
  next-by false lists =
      ap (λ l. option_and_then (λ h. h.row.next) (find (lists_number list number) l)) rest-is
      ∙ ap (λ b. option_and_then (λ (h : NumberedRow). h.row.next) (cond b (Some (hit_as hit)) (find (lists_number list number) (drop (i + 1) (map hit_as hits))))) lists

  pub next-found : lists_number list number (hit_as hit) ≡ true → next_where list (drop i (map hit_as hits)) number ≡ (hit_as hit).row.next
  next-found lists = next-by true lists

  pub next-later : lists_number list number (hit_as hit) ≡ false
      → next_where list (drop i (map hit_as hits)) number ≡ next_where list (drop (i + 1) (map hit_as hits)) number
  next-later lists = next-by false lists

pub next-none : (list : Row → List Entry) (hits : List Hit) (i number : ℕ) → length hits ≤ i → next_where list (drop i (map hit_as hits)) number ≡ None
unfolding next_where
next-none list hits i number beyond =
    ap (λ l. option_and_then (λ (h : NumberedRow). h.row.next) (find (lists_number list number) l)) (drop_all i (map hit_as hits) (omega (arith, length-map hits hit_as)))

-- ---- what is known of the game of a number

module _ (segments : List CountedSpan) (i : ℕ) (segment : CountedSpan) (within : i < length segments) (is : segment ≡ get_or segments i segment) where
  classes-are : classes_in (drop i segments) ≡ segment.classes ++ classes_in (drop (i + 1) segments)
  classes-are = ap classes_in (drop_more segments i segment within ∙ ap (λ s. s ∷ drop (i + 1) segments) (sym is))

  pub classes-here : (left : ℕ) → left < length segment.classes → slice_get (classes_in (drop i segments)) left ≡ slice_get segment.classes left
  classes-here left below = ap (λ l. slice_get l left) classes-are ∙ get-front segment.classes (classes_in (drop (i + 1) segments)) left below

  pub classes-later : (left : ℕ) → length segment.classes ≤ left
      → slice_get (classes_in (drop i segments)) left ≡ slice_get (classes_in (drop (i + 1) segments)) (left - length segment.classes)
  classes-later left past = ap (λ l. slice_get l left) classes-are ∙ get-right segment.classes (classes_in (drop (i + 1) segments)) left past

  -- the classes of one segment more
  pub count-front : length (classes_in (take (i + 1) segments)) ≡ length (classes_in (take i segments)) + length segment.classes
  count-front =
      ap (λ l. length (classes_in l)) (take_more segments i segment within ∙ ap (λ s. take i segments ++ s ∷ []) (sym is))
      ∙ ap length (flat_map-append (λ (s : CountedSpan). s.classes) (take i segments) (segment ∷ [])
      ∙ ap (λ l. classes_in (take i segments) ++ l) (append-nil segment.classes))
      ∙ length-append (classes_in (take i segments)) segment.classes

pub classes-none : (segments : List CountedSpan) (i : ℕ) → length segments ≤ i → (left : ℕ) → slice_get (classes_in (drop i segments)) left ≡ None
classes-none segments i past left = ap (λ l. slice_get (classes_in l) left) (drop_all i segments past)

-- ---- what is found of one entry more

pub found-next : {X Y : Type 0} (h : X → Option Y) (xs : List X) (i : ℕ) (d : X) → i < length xs → (found : Option Y) → h (get_or xs i d) ≡ found
    → filter_map h (take (i + 1) xs) ≡ filter_map h (take i xs) ++ cons_option found []
found-next h xs i d within found is =
    ap (filter_map h) (take_more xs i d within) ∙ filter_map-append h (take i xs) (get_or xs i d ∷ [])
    ∙ ap (λ f. filter_map h (take i xs) ++ cons_option f []) is

-- ---- what holds of each item so far

pub all-front : {X : Type 0} (P : X → Type 0) (xs : List X) (i : ℕ) (x : X) → i < length xs → x ≡ get_or xs i x
    → AllByRecursion P (take i xs) → P x → AllByRecursion P (take (i + 1) xs)
all-front P xs i x within is each h =
    subst (AllByRecursion P) (sym (take_more xs i x within ∙ ap (λ y. take i xs ++ y ∷ []) (sym is))) (each-push P (take i xs) x each h)
