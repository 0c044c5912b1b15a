-- The rows that were read, with their numbers.
use Rattle.std.proofs.Common.{◌≡◌, ℕ, ◌+◌, ◌<◌, ◌≤◌, ◌^◌, Bool, true, false, cond, List, [], ◌∷◌, ◌++◌, map, filter, length, take, get_or, Option, Some, IfSome, refl, sym, ap, subst, ◌∙◌, append_assoc, arith}
use Rattle.std.specs.List.{All, AllByRecursion, AllZip, sum_by}
use Rattle.std.proofs.lemmas.List.{append-nil, map-append, take_more}
use Rattle.std.proofs.lemmas.List.Concat.{flat_map-append}
use Rattle.std.proofs.lemmas.List.Elements.{All-append, All-filter, All-from_recursion, All-map, All-nil, filter-append}
use Rattle.std.proofs.lemmas.List.Sums.{sum_by-append, sum_by-cons}
use Rattle.best_lists.specs.declared.entry.Entry.{Entry}
use Rattle.explorer_model.specs.Chess.{Legal}
use Rattle.explorer_model.specs.declared.chess.Move.{Move}
use Rattle.explorer_model.specs.declared.chess.Position.{Position}
use Rattle.lookup.specs.declared.part_rows.PartRows.{PartRows}
use Rattle.lookup.specs.Hits.{rows_from}
use Rattle.lookup.specs.Parts.{segment_part}
use Rattle.lookup.specs.Reading.{hits_in, hits_of_part, AreOfKey, AreRead}
use Rattle.lookup.proofs.Numbered.{numbered, picked-rows}
use Rattle.row_sums.specs.Hits.{games_of, AreSound, IsSound, NumberedRow}
use Rattle.row_sums.specs.Sums.{moves_in}
use Rattle.row_sums.proofs.RowNexts.{moves-have}
use Rattle.segment_blocks.specs.Segment.{CountedSpan, segment_limit}
use Rattle.spill_blobs.specs.Sets.{games_in}
use Rattle.spill_blobs.specs.SoundRows as sound
use Rattle.tally_rows.specs.Recount.{picks}
use Rattle.tally_rows.specs.Row.{row_key_of}
use Rattle.tally_rows.specs.declared.row.Row.{Row}
use Rattle.tally_rows.specs.declared.row_key.RowKey.{RowKey}

-- rows that are picked, with the number of a first game
abbrev pub picked : (RowKey → Bool) → ℕ → List Row → List NumberedRow
picked pick first rows = map (λ row. record { row = row; first = first }) (filter (λ row. pick (row_key_of row)) rows)

-- ---- one more

module _ (pick : RowKey → Bool) where
  pub parts-more : (parts : List PartRows) (i : ℕ) (part : PartRows) → i < length parts → part ≡ get_or parts i part
      → hits_in pick (take (i + 1) parts) ≡ hits_in pick (take i parts) ++ hits_of_part pick part
  parts-more parts i part within is =
      ap (hits_in pick) (take_more parts i part within ∙ ap (λ p. take i parts ++ p ∷ []) (sym is))
      ∙ flat_map-append (hits_of_part pick) (take i parts) (part ∷ [])
      ∙ ap (λ l. hits_in pick (take i parts) ++ l) (append-nil (hits_of_part pick part))

  picked-append : (first : ℕ) (rows others : List Row) → picked pick first (rows ++ others) ≡ picked pick first rows ++ picked pick first others
  picked-append first rows others =
      ap (map (numbered first)) (filter-append (λ row. pick (row_key_of row)) rows others)
      ∙ map-append (numbered first) (filter (λ row. pick (row_key_of row)) rows) (filter (λ row. pick (row_key_of row)) others)

  pub picked-more : (first : ℕ) (rows : List Row) (i : ℕ) (row : Row) → i < length rows → row ≡ get_or rows i row → (before so_far after : List NumberedRow)
      → so_far ≡ before ++ picked pick first (take i rows) → after ≡ so_far ++ picked pick first (row ∷ []) → after ≡ before ++ picked pick first (take (i + 1) rows)
  picked-more first rows i row within is before so_far after known more =
      more ∙ ap (λ l. l ++ picked pick first (row ∷ [])) known
      ∙ append_assoc before (picked pick first (take i rows)) (picked pick first (row ∷ []))
      ∙ ap (λ l. before ++ l)
      (sym (ap (picked pick first) (take_more rows i row within ∙ ap (λ r. take i rows ++ r ∷ []) (sym is))
      ∙ picked-append first (take i rows) (row ∷ [])))

-- ---- rows that games can have are sound

entries-fit : (n first : ℕ) → first + n ≤ 2 ^ 32 → (entries : List Entry) → AllByRecursion (λ entry. entry.number < n) entries
    → AllByRecursion (λ entry. entry.number + first < 2 ^ 32) entries
entries-fit n first room [] each = tt
entries-fit n first room (entry ∷ entries) each = (omega (arith, each.0, room), entries-fit n first room entries each.1)

row-sound : (at : Position) (n first : ℕ) → first + n ≤ segment_limit → (row : Row) → sound.IsSoundRow at n row → IsSound (numbered first row)
row-sound at n first room row is =
    let fits = λ (entry : Entry). entry.number + first < 2 ^ 32 in
    record {
      some = is.counted.some;
      ratings = omega (arith, is.counted.rated);
      top = All-from_recursion fits row.top (entries-fit n first (omega (arith, room)) row.top is.top.numbers);
      recent = All-from_recursion fits row.recent (entries-fit n first (omega (arith, room)) row.recent is.recent.numbers);
    }

rows-sound : (at : Position) (n first : ℕ) → first + n ≤ segment_limit → (rows : List Row) → AllByRecursion (sound.IsSoundRow at n) rows
    → AllByRecursion (λ row. IsSound (numbered first row)) rows
rows-sound at n first room [] each = tt
rows-sound at n first room (row ∷ rows) each = (row-sound at n first room row each.0, rows-sound at n first room rows each.1)

-- what is left of rows has no more games
games-left : (test : Row → Bool) (first : ℕ) (rows : List Row) → sum_by (λ (hit : NumberedRow). games_of hit.row) (map (numbered first) (filter test rows)) ≤ sum_by sound.games_of rows
games-left test first [] = omega arith
games-left test first (row ∷ rows) = by (games-left test first rows) (test row)
  where
    by : sum_by (λ (hit : NumberedRow). games_of hit.row) (map (numbered first) (filter test rows)) ≤ sum_by sound.games_of rows
        → (b : Bool) → sum_by (λ (hit : NumberedRow). games_of hit.row) (map (numbered first) (cond b (row ∷ filter test rows) (filter test rows))) ≤ sum_by sound.games_of (row ∷ rows)
    by rest true = omega (
      arith,
      sum_by-cons (λ (hit : NumberedRow). games_of hit.row) (numbered first row) (map (numbered first) (filter test rows)),
      sum_by-cons sound.games_of row rows,
      rest,
    )
    by rest false = omega (arith, sum_by-cons sound.games_of row rows, rest)

module _ (at : Position) (pick : RowKey → Bool) where
  each-sound : (first : ℕ) (set : List CountedSpan) (parts : List PartRows) → first + games_in set ≤ segment_limit → AreRead at first set parts
      → All IsSound (hits_in pick parts)
  each-sound first [] [] room read = All-nil IsSound
  each-sound first [] (part ∷ parts) room read = absurd read
  each-sound first (segment ∷ set) [] room read = absurd read
  each-sound first (segment ∷ set) (part ∷ parts) room read =
      let test = λ (row : Row). pick (row_key_of row) in
      let rows : List Row = part.rows.items in
      let own : All IsSound (map (numbered first) (filter test rows)) =
      All-map IsSound (numbered first) (filter test rows)
      (All-filter test (λ row. IsSound (numbered first row)) rows
      (All-from_recursion (λ row. IsSound (numbered first row)) rows (rows-sound at (length segment.classes) first (omega (arith, room)) rows read.1.each))) in
      All-append IsSound (hits_of_part pick part) (hits_in pick parts)
      (subst (λ (n : ℕ). All IsSound (map (numbered n) (filter test rows))) (sym read.0) own)
      (each-sound (first + length segment.classes) set parts (omega (arith, room)) read.2)

  games-few : (first : ℕ) (set : List CountedSpan) (parts : List PartRows) → AreRead at first set parts
      → sum_by (λ (hit : NumberedRow). games_of hit.row) (hits_in pick parts) ≤ games_in set
  games-few first [] [] read = omega arith
  games-few first [] (part ∷ parts) read = absurd read
  games-few first (segment ∷ set) [] read = absurd read
  games-few first (segment ∷ set) (part ∷ parts) read =
      omega (
        arith,
        sum_by-append (λ (hit : NumberedRow). games_of hit.row) (hits_of_part pick part) (hits_in pick parts),
        games-left (λ row. pick (row_key_of row)) part.first part.rows.items,
        read.1.few,
        games-few (first + length segment.classes) set parts read.2,
      )

  pub read-sound : (set : List CountedSpan) (parts : List PartRows) → games_in set ≤ segment_limit → AreRead at 0 set parts → AreSound (hits_in pick parts)
  read-sound set parts few read = record {
    each = each-sound 0 set parts (omega (arith, few)) read;
    few = omega (arith, games-few 0 set parts read, few);
  }

  -- ---- and their moves are legal

  abbrev GoesLegally : NumberedRow → Type 0
  GoesLegally hit = (m : Move) → hit.row.next ≡ Some m → Legal at m

  row-legal : (n : ℕ) (row : Row) → sound.IsSoundRow at n row → (m : Move) → row.next ≡ Some m → Legal at m
  row-legal n row is m next = subst (λ (o : Option Move). IfSome o (λ m. Legal at m)) next is.legal

  rows-legal : (n first : ℕ) (rows : List Row) → AllByRecursion (sound.IsSoundRow at n) rows → AllByRecursion GoesLegally (picked pick first rows)
  rows-legal n first [] each = tt
  rows-legal n first (row ∷ rows) each = by (rows-legal n first rows each.1) (pick (row_key_of row))
    where
      by : AllByRecursion GoesLegally (picked pick first rows)
          → (b : Bool) → AllByRecursion GoesLegally (map (numbered first) (cond b (row ∷ filter (λ row. pick (row_key_of row)) rows) (filter (λ row. pick (row_key_of row)) rows)))
      by rest true = (row-legal n row each.0, rest)
      by rest false = rest

  append-legal : (hits more : List NumberedRow) → AllByRecursion GoesLegally hits → AllByRecursion GoesLegally more → AllByRecursion GoesLegally (hits ++ more)
  append-legal [] more each rest = rest
  append-legal (hit ∷ hits) more each rest = (each.0, append-legal hits more each.1 rest)

  parts-legal : (first : ℕ) (set : List CountedSpan) (parts : List PartRows) → AreRead at first set parts → AllByRecursion GoesLegally (hits_in pick parts)
  parts-legal first [] [] read = tt
  parts-legal first [] (part ∷ parts) read = absurd read
  parts-legal first (segment ∷ set) [] read = absurd read
  parts-legal first (segment ∷ set) (part ∷ parts) read =
      append-legal (hits_of_part pick part) (hits_in pick parts) (rows-legal (length segment.classes) part.first part.rows.items read.1.each)
      (parts-legal (first + length segment.classes) set parts read.2)

  pub read-legal : (set : List CountedSpan) (parts : List PartRows) → AreRead at 0 set parts → AllByRecursion (λ m. Legal at m) (moves_in (hits_in pick parts))
  read-legal set parts read = moves-have (λ m. Legal at m) (hits_in pick parts) (parts-legal 0 set parts read)

  -- ---- the rows of a key are those of the segments

  pub read-rows : (key : List ℕ) (first : ℕ) (set : List CountedSpan) (parts : List PartRows) → AreRead at first set parts → AllZip (AreOfKey key) set parts
      → hits_in pick parts ≡ rows_from key pick first (map segment_part set)
  unfolding rows_from
  read-rows key first [] [] read are = refl
  read-rows key first [] (part ∷ parts) read are = absurd read
  read-rows key first (segment ∷ set) [] read are = absurd read
  read-rows key first (segment ∷ set) (part ∷ parts) read are =
      ap (λ l. l ++ hits_in pick parts)
      ((λ i. map (numbered (read.0 i)) (filter (λ row. pick (row_key_of row)) (are.0 i)))
      ∙ ap (map (numbered first)) (picked-rows key pick segment.rows))
      ∙ ap (λ l. map (numbered first) (filter (picks key pick) segment.rows) ++ l) (read-rows key (first + length segment.classes) set parts read.2 are.1)
