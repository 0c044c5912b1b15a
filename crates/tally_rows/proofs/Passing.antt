-- One pass over the entries of singles, those with the same numbers next to each other.
use Rattle.std.proofs.Common.{◌≡◌, ℕ, ◌+◌, ◌-◌, ◌*◌, ◌^◌, ◌<◌, ◌≤◌, true, false, List, [], ◌∷◌, ◌++◌, map, length, drop, get_or, set, refl, sym, ap, subst, ◌∙◌, arith}
use Rattle.std.specs.List.{All}
use Rattle.std.proofs.lemmas.List.{get_or-map, get_or_read, get_or_at, length-append, length-map, set-append_right, drop_more, drop_all}
use Rattle.tally_rows.specs.declared.row.Row.{Row}
use Rattle.tally_rows.specs.declared.single.Single.{Single}
use Rattle.tally_rows.specs.declared.sort_entry.SortEntry.{SortEntry}
use Rattle.tally_rows.specs.Row.{row_key_of, row_of, combined, combined_from, combined_rows, HasRoomForOne}
use Rattle.tally_rows.specs.RowKey.{same_row_key}
use Rattle.tally_rows.specs.SortEntry.{any_single, picked, same_numbers, IsEntryIn, Tells}
use Rattle.tally_rows.proofs.Combining.{combined_from-nil, step-same, step-other, row_of-one, combined-white, combined-draws, combined-black, combined-row_key}
use Rattle.tally_rows.proofs.FromSingles.{row_of-row_key}
use Rattle.tally_rows.proofs.RowOrder.{same_row_key-is, same_row_key-comm}
use Rattle.tally_rows.proofs.SameNumbers.{same_numbers-is}

-- the rows so far and the last one, with what is left of the entries, are those of all
pub record Passing (singles : List Single) (entries : List SortEntry) (rows : List Row) (last : Row) (place : ℕ) : Type 0 where
  pub few : last.white + last.draws + last.black ≤ place
  pub small : last.ratings ≤ 65535 * place
  pub parts : row_key_of last ≡ (get_or (picked singles entries any_single) (place - 1) any_single).row_key
  pub rows_of_all : rows ++ combined_from last (map row_of (drop place (picked singles entries any_single)))
      ≡ combined_rows (map row_of (picked singles entries any_single))

module _ (singles : List Single) (entries : List SortEntry) (told : All (IsEntryIn singles any_single) entries) where
  abbrev chosen : SortEntry → Single
  chosen entry = get_or singles entry.at any_single

  module _ (place : ℕ) (d : SortEntry) (s : Single) (below : place < length entries) (is : s ≡ get_or singles (get_or entries place d).at s) where
    read : s ≡ chosen (get_or entries place d)
    read = get_or_read singles (get_or entries place d).at s (told place d below).0 is any_single

    single-at : s ≡ get_or (picked singles entries any_single) place s
    single-at = read ∙ sym (get_or-map chosen entries place d s below)

    within : place < length (picked singles entries any_single)
    within = let e = length-map entries chosen in omega (arith, e, below)

    key-at : s.row_key ≡ (get_or (picked singles entries any_single) place any_single).row_key
    key-at = ap (λ (x : Single). x.row_key) (read ∙ sym (get_or-map chosen entries place d any_single below))

    tells : Tells (get_or entries place d) s.row_key
    tells = subst (λ (x : Single). Tells (get_or entries place d) x.row_key) (sym read) (told place d below).1

    module _ (rows : List Row) (last : Row) (some : 1 ≤ place) (passing : Passing singles entries rows last place) where
      before : Tells (get_or entries (place - 1) d) (row_key_of last)
      before =
          let lower : place - 1 < length entries = omega (arith, below) in
          let key : row_key_of last ≡ (chosen (get_or entries (place - 1) d)).row_key =
          passing.parts ∙ ap (λ (x : Single). x.row_key) (get_or-map chosen entries (place - 1) d any_single lower) in
          subst (Tells (get_or entries (place - 1) d)) (sym key) (told (place - 1) d lower).1

      asked : same_row_key (row_key_of last) (row_key_of (row_of s)) ≡ same_numbers (get_or entries place d) (get_or entries (place - 1) d)
      asked =
          ap (same_row_key (row_key_of last)) (row_of-row_key s)
          ∙ same_row_key-comm (row_key_of last) s.row_key
          ∙ sym (same_numbers-is (get_or entries place d) (get_or entries (place - 1) d) s.row_key (row_key_of last) tells before)

      pub same-parts : same_numbers (get_or entries place d) (get_or entries (place - 1) d) ≡ true → row_key_of last ≡ s.row_key
      same-parts same = same_row_key-is (row_key_of last) (row_key_of (row_of s)) (asked ∙ same) ∙ row_of-row_key s

      pub room : length entries < 2 ^ 32 → HasRoomForOne last
      room few =
          let sums = passing.few in
          let ratings = passing.small in
          record { white = omega arith; draws = omega arith; black = omega arith; ratings = omega arith }

      next-key : (x : Row) → row_key_of x ≡ s.row_key → row_key_of x ≡ (get_or (picked singles entries any_single) (place + 1 - 1) any_single).row_key
      next-key x e =
          let here : place ≡ place + 1 - 1 = omega arith in
          e ∙ key-at ∙ ap (λ (k : ℕ). (get_or (picked singles entries any_single) k any_single).row_key) here

      pub pass-same : (next : Row) → next ≡ combined last (row_of s) → next.ratings < last.ratings + 65536
          → same_numbers (get_or entries place d) (get_or entries (place - 1) d) ≡ true → Passing singles entries rows next (place + 1)
      pass-same next is_next little same =
          let sums = passing.few in
          let ratings = passing.small in
          let white = ap (λ (r : Row). r.white) is_next ∙ combined-white last (row_of s) in
          let draws = ap (λ (r : Row). r.draws) is_next ∙ combined-draws last (row_of s) in
          let black = ap (λ (r : Row). r.black) is_next ∙ combined-black last (row_of s) in
          let one = row_of-one s in
          record {
            few = omega (arith, white, draws, black, one, sums);
            small = omega (arith, little, ratings);
            parts = next-key next (ap row_key_of is_next ∙ combined-row_key last (row_of s) ∙ same-parts same);
            rows_of_all = ap (λ (r : Row). rows ++ combined_from r (map row_of (drop (place + 1) (picked singles entries any_single)))) is_next
                ∙ step-same rows last (row_of s) (picked singles entries any_single) place s within single-at refl (asked ∙ same)
                ∙ passing.rows_of_all;
          }

      pub pass-other : (more : List Row) (next : Row) → more ≡ rows ++ last ∷ [] → next ≡ row_of s → next.ratings < 65536
          → same_numbers (get_or entries place d) (get_or entries (place - 1) d) ≡ false → Passing singles entries more next (place + 1)
      pass-other more next pushed is_next little other =
          let one : next.white + next.draws + next.black ≡ 1 = ap (λ (r : Row). r.white + r.draws + r.black) is_next ∙ row_of-one s in
          record {
            few = omega (arith, one);
            small = omega (arith, little);
            parts = next-key next (ap row_key_of is_next ∙ row_of-row_key s);
            rows_of_all = (λ i. pushed i ++ combined_from (is_next i) (map row_of (drop (place + 1) (picked singles entries any_single))))
                ∙ step-other rows last (row_of s) (picked singles entries any_single) place s within single-at refl (asked ∙ other)
                ∙ passing.rows_of_all;
          }

  pub pass-first : (d : SortEntry) (s : Single) (rows : List Row) (first : Row) → 0 < length entries → s ≡ get_or singles (get_or entries 0 d).at s
      → rows ≡ [] → first ≡ row_of s → first.ratings < 65536 → Passing singles entries rows first 1
  unfolding combined_rows
  pass-first d s rows first some is none is_first little =
      let one : first.white + first.draws + first.black ≡ 1 = ap (λ (r : Row). r.white + r.draws + r.black) is_first ∙ row_of-one s in
      let sorted : List Single = picked singles entries any_single in
      let opened : sorted ≡ s ∷ drop 1 sorted = drop_more sorted 0 s (within 0 d s some is) ∙ ap (λ (x : Single). x ∷ drop 1 sorted) (sym (single-at 0 d s some is)) in
      record {
        few = omega (arith, one);
        small = omega (arith, little);
        parts = ap row_key_of is_first ∙ row_of-row_key s ∙ key-at 0 d s some is;
        rows_of_all = (λ i. none i ++ combined_from (is_first i) (map row_of (drop 1 sorted))) ∙ sym (ap (λ (l : List Single). combined_rows (map row_of l)) opened);
      }

  pub pass-all : (rows all : List Row) (last : Row) (place : ℕ) → length entries ≤ place → all ≡ rows ++ last ∷ [] → Passing singles entries rows last place
      → all ≡ combined_rows (map row_of (picked singles entries any_single))
  pass-all rows all last place past pushed passing =
      let many = length-map entries chosen in
      let sorted : List Single = picked singles entries any_single in
      pushed ∙ ap (λ l. rows ++ l) (sym (combined_from-nil last))
      ∙ ap (λ (l : List Single). rows ++ combined_from last (map row_of l)) (sym (drop_all place sorted (omega (arith, many, past))))
      ∙ passing.rows_of_all

-- the rows so far, of which the last may still count more games
pub record Filling (singles : List Single) (entries : List SortEntry) (rows : List Row) (place : ℕ) : Type 0 where
  pub front : List Row
  pub last : Row
  pub made : rows ≡ front ++ last ∷ []
  pub passing : Passing singles entries front last place

module _ (singles : List Single) (entries : List SortEntry) (rows : List Row) (place end : ℕ) (filling : Filling singles entries rows place) (is : end ≡ length rows - 1) where
  count : length rows ≡ length filling.front + 1
  count = ap length filling.made ∙ length-append filling.front (filling.last ∷ [])

  seam : length filling.front ≡ end
  seam = omega (arith, count, is)

  pub end-within : end < length rows
  end-within = omega (arith, count, is)

  pub end-is : (d : Row) → get_or rows end d ≡ filling.last
  end-is d = ap (λ (l : List Row). get_or l end d) filling.made ∙ get_or_at filling.front filling.last [] d end seam

  pub end-set : (next : Row) → set rows end next ≡ filling.front ++ next ∷ []
  end-set next =
      let here : end - end ≡ 0 = omega arith in
      ap (λ (l : List Row). set l end next) filling.made
      ∙ set-append_right filling.front (filling.last ∷ []) end end next seam (omega arith)
      ∙ ap (λ (n : ℕ). filling.front ++ set (filling.last ∷ []) n next) here
