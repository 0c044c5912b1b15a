-- Rows, one after another, and what they give so far.
use Rattle.std.proofs.Common.{◌≡◌, ℕ, ◌+◌, ◌*◌, ◌^◌, ◌<◌, ◌≤◌, Bool, true, false, cond, List, [], ◌∷◌, ◌++◌, length, take, get_or, map, refl, sym, ap, ◌∙◌, subst, append-nil, add-zero, arith}
use Rattle.std.specs.List.{All, sum_by, flat_map}
use Rattle.std.proofs.lemmas.List.{take_more, take_all, length-map, get_or-map}
use Rattle.std.proofs.lemmas.List.Elements.{All-head, All-tail}
use Rattle.std.proofs.lemmas.List.Sums.{sum_by-cons, sum_by_push, sum_by_more_le_part}
use Rattle.std.proofs.lemmas.Grind.{flat_map-append}
use Rattle.best_lists.specs.Entry.{moved_by}
use Rattle.best_lists.specs.declared.entry.Entry.{Entry}
use Rattle.explorer_model.specs.declared.answer.Totals.{Totals}
use Rattle.explorer_model.specs.Best.{best, IsStrictTotalOrder}
use Rattle.row_sums.specs.declared.hits.Hit.{Hit}
use Rattle.row_sums.specs.Hits.{NumberedRow, hit_as, games_of, IsSound, AreSound}
use Rattle.row_sums.specs.Sums.{sum_where, entries_where}
use Rattle.tally_rows.specs.declared.row.Row.{Row}
use Rattle.tally_rows.proofs.Bests.{best-left}

module _ (hits : List Hit) (i : ℕ) (hit : Hit) (within : i < length hits) (is : hit ≡ get_or hits i hit) where
  pub hit-within : i < length (map hit_as hits)
  hit-within = omega (arith, length-map hits hit_as)

  pub hit-at : get_or (map hit_as hits) i (hit_as hit) ≡ hit_as hit
  hit-at = get_or-map hit_as hits i hit (hit_as hit) within ∙ ap hit_as (sym is)

  -- one row more
  pub hit-next : take (i + 1) (map hit_as hits) ≡ take i (map hit_as hits) ++ hit_as hit ∷ []
  hit-next = take_more (map hit_as hits) i (hit_as hit) hit-within ∙ ap (λ h. take i (map hit_as hits) ++ h ∷ []) hit-at

  pub hit-sound : AreSound (map hit_as hits) → IsSound (hit_as hit)
  hit-sound sound = subst IsSound hit-at (sound.each i (hit_as hit) hit-within)

pub hits-all : (hits : List Hit) (i : ℕ) → length hits ≤ i → take i (map hit_as hits) ≡ map hit_as hits
hits-all hits i beyond = take_all i (map hit_as hits) (omega (arith, length-map hits hit_as))

-- ---- sums

module _ (test : Row → Bool) (count : Row → ℕ) where
  pub sum-none : sum_where [] test count ≡ 0
  unfolding sum_where
  sum-none = refl

  sum-more : (hits : List NumberedRow) (hit : NumberedRow)
      → sum_where (hits ++ hit ∷ []) test count ≡ sum_where hits test count + cond (test hit.row) (count hit.row) 0
  unfolding sum_where
  sum-more hits hit = sum_by_push (λ h. cond (test h.row) (count h.row) 0) hits hit

  pub sum-next : (hits : List Hit) (i : ℕ) (hit : Hit) → i < length hits → hit ≡ get_or hits i hit → (b : Bool) → test (hit_as hit).row ≡ b
      → sum_where (take (i + 1) (map hit_as hits)) test count ≡ sum_where (take i (map hit_as hits)) test count + cond b (count (hit_as hit).row) 0
  sum-next hits i hit within is b holds =
      ap (λ l. sum_where l test count) (hit-next hits i hit within is) ∙ sum-more (take i (map hit_as hits)) (hit_as hit)
      ∙ ap (λ c. sum_where (take i (map hit_as hits)) test count + cond c (count (hit_as hit).row) 0) holds

  part-le : (b : Bool) (n : ℕ) → cond b n 0 ≤ n
  part-le true n = omega arith
  part-le false n = omega arith

  -- the sum so far and the next one are within the sum of all
  pub sum-part : (hits : List Hit) (i : ℕ) (hit : Hit) → i < length hits → hit ≡ get_or hits i hit
      → sum_where (take i (map hit_as hits)) test count + count (hit_as hit).row ≤ sum_by (λ h. count h.row) (map hit_as hits)
  unfolding sum_where
  sum-part hits i hit within is =
      let more = sum_by_more_le_part (λ h. cond (test h.row) (count h.row) 0) (λ h. count h.row) (map hit_as hits) i (hit_as hit)
      (hit-within hits i hit within is) (λ h. part-le (test h.row) (count h.row)) in
      subst (λ h. sum_by (λ x. cond (test x.row) (count x.row) 0) (take i (map hit_as hits)) + count h.row ≤ sum_by (λ x. count x.row) (map hit_as hits))
      (hit-at hits i hit within is) more

sum-le : (f g : NumberedRow → ℕ) (k : ℕ) (hits : List NumberedRow) → All (λ hit. f hit ≤ k * g hit) hits → sum_by f hits ≤ k * sum_by g hits
sum-le f g k [] each = omega arith
sum-le f g k (h ∷ hits) each =
    let first : f h ≤ k * g h = All-head (λ hit. f hit ≤ k * g hit) h hits each in
    let rest = sum-le f g k hits (All-tail (λ hit. f hit ≤ k * g hit) h hits each) in
    omega (arith, sum_by-cons f h hits, ap (λ n. k * n) (sum_by-cons g h hits), first, rest)

module _ (hits : List NumberedRow) (sound : AreSound hits) where
  -- any count of the games is within the limit
  pub count-limit : (count : Row → ℕ) → ((row : Row) → count row ≤ games_of row) → sum_by (λ h. count h.row) hits ≤ 2147483648
  count-limit count below =
      let most = sum-le (λ h. count h.row) (λ h. games_of h.row) 1 hits (λ k d less. omega (arith, below (get_or hits k d).row)) in
      omega (arith, most, sound.few)

  pub ratings-limit : sum_by (λ h. h.row.ratings) hits ≤ 65535 * 2147483648
  ratings-limit =
      let most = sum-le (λ h. h.row.ratings) (λ h. games_of h.row) 65535 hits (λ k d less. (sound.each k d less).ratings) in
      omega (arith, most, sound.few)

-- ---- lists of entries

module _ (test : Row → Bool) (list : Row → List Entry) where
  pub entries-none : entries_where [] test list ≡ []
  unfolding entries_where
  entries-none = refl

  entries-more : (hits : List NumberedRow) (hit : NumberedRow)
      → entries_where (hits ++ hit ∷ []) test list ≡ entries_where hits test list ++ cond (test hit.row) (map (moved_by hit.first) (list hit.row)) []
  unfolding entries_where
  entries-more hits hit =
      let f : NumberedRow → List Entry = λ h. cond (test h.row) (map (moved_by h.first) (list h.row)) [] in
      flat_map-append f hits (hit ∷ []) ∙ ap (λ l. flat_map f hits ++ l) (append-nil (f hit))

  pub entries-next : (hits : List Hit) (i : ℕ) (hit : Hit) → i < length hits → hit ≡ get_or hits i hit → (b : Bool) → test (hit_as hit).row ≡ b
      → entries_where (take (i + 1) (map hit_as hits)) test list
      ≡ entries_where (take i (map hit_as hits)) test list ++ cond b (map (moved_by hit.first) (list (hit_as hit).row)) []
  entries-next hits i hit within is b holds =
      ap (λ l. entries_where l test list) (hit-next hits i hit within is) ∙ entries-more (take i (map hit_as hits)) (hit_as hit)
      ∙ ap (λ c. entries_where (take i (map hit_as hits)) test list ++ cond c (map (moved_by hit.first) (list (hit_as hit).row)) []) holds

  module _ {before : Entry → Entry → Bool} (order : IsStrictTotalOrder before) where
    pub best-taken : (hits : List Hit) (i : ℕ) (hit : Hit) → i < length hits → hit ≡ get_or hits i hit → test (hit_as hit).row ≡ true
        → (sofar now : List Entry) → sofar ≡ best before 4 (entries_where (take i (map hit_as hits)) test list)
        → now ≡ best before 4 (sofar ++ map (moved_by hit.first) (list (hit_as hit).row))
        → now ≡ best before 4 (entries_where (take (i + 1) (map hit_as hits)) test list)
    best-taken hits i hit within is holds sofar now so joined =
        let more = map (moved_by hit.first) (list (hit_as hit).row) in
        let all = entries_where (take i (map hit_as hits)) test list in
        joined ∙ ap (λ l. best before 4 (l ++ more)) so ∙ best-left order 4 all more
        ∙ ap (best before 4) (sym (entries-next hits i hit within is true holds))

    -- the best of rows, with one row more
    pub best-more : (rows : List NumberedRow) (hit : NumberedRow) → test hit.row ≡ true → (sofar now : List Entry)
        → sofar ≡ best before 4 (entries_where rows test list) → now ≡ best before 4 (sofar ++ map (moved_by hit.first) (list hit.row))
        → now ≡ best before 4 (entries_where (rows ++ hit ∷ []) test list)
    best-more rows hit holds sofar now so joined =
        let more = map (moved_by hit.first) (list hit.row) in
        joined ∙ ap (λ l. best before 4 (l ++ more)) so ∙ best-left order 4 (entries_where rows test list) more
        ∙ ap (best before 4) (sym (entries-more rows hit ∙ ap (λ b. entries_where rows test list ++ cond b more []) holds))

    pub best-passed : (hits : List Hit) (i : ℕ) (hit : Hit) → i < length hits → hit ≡ get_or hits i hit → test (hit_as hit).row ≡ false
        → (sofar now : List Entry) → sofar ≡ best before 4 (entries_where (take i (map hit_as hits)) test list)
        → now ≡ sofar → now ≡ best before 4 (entries_where (take (i + 1) (map hit_as hits)) test list)
    best-passed hits i hit within is holds sofar now so same =
        same ∙ so ∙ ap (best before 4) (sym (entries-next hits i hit within is false holds ∙ append-nil (entries_where (take i (map hit_as hits)) test list)))

-- the next row's count still fits
module _ (test : Row → Bool) (hits : List Hit) (sound : AreSound (map hit_as hits)) (i : ℕ) (hit : Hit) (within : i < length hits) (is : hit ≡ get_or hits i hit) where
  pub count-fits : (count : Row → ℕ) → ((row : Row) → count row ≤ games_of row) → (sofar : ℕ) → sofar ≡ sum_where (take i (map hit_as hits)) test count
      → sofar + count (hit_as hit).row < 2 ^ 64
  count-fits count below sofar so =
      omega (arith, sum-part test count hits i hit within is, count-limit (map hit_as hits) sound count below)

  pub ratings-fit : (sofar : ℕ) → sofar ≡ sum_where (take i (map hit_as hits)) test (λ row. row.ratings) → sofar + (hit_as hit).row.ratings < 2 ^ 64
  ratings-fit sofar so = omega (arith, sum-part test (λ row. row.ratings) hits i hit within is, ratings-limit (map hit_as hits) sound)

-- the sum of one row more
module _ (test : Row → Bool) (hits : List Hit) (i : ℕ) (hit : Hit) (within : i < length hits) (is : hit ≡ get_or hits i hit) where
  pub sum-taken : test (hit_as hit).row ≡ true → (count : Row → ℕ) (sofar n : ℕ) → sofar ≡ sum_where (take i (map hit_as hits)) test count
      → n ≡ count (hit_as hit).row → sofar + n ≡ sum_where (take (i + 1) (map hit_as hits)) test count
  sum-taken holds count sofar n so is_n =
      ap (λ s. s + n) so ∙ ap (λ m. sum_where (take i (map hit_as hits)) test count + m) is_n ∙ sym (sum-next test count hits i hit within is true holds)

  pub sum-passed : test (hit_as hit).row ≡ false → (count : Row → ℕ) (sofar : ℕ) → sofar ≡ sum_where (take i (map hit_as hits)) test count
      → sofar ≡ sum_where (take (i + 1) (map hit_as hits)) test count
  sum-passed fails count sofar so =
      so ∙ sym (sum-next test count hits i hit within is false fails ∙ add-zero (sum_where (take i (map hit_as hits)) test count))

-- totals are the same where their three numbers are
pub totals-same : (a b : Totals) → a.white ≡ b.white → a.draws ≡ b.draws → a.black ≡ b.black → a ≡ b
totals-same a b white draws black = λ i. record { white = white i; draws = draws i; black = black i }
