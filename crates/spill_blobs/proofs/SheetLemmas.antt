-- Rows as bytes, with one row more.
use Rattle.std.proofs.Common.{◌≡◌, ◌+◌, ◌-◌, ◌^◌, min, List, [], ◌∷◌, ◌++◌, filter, None, refl, sym, ap, ◌∙◌, subst, arith, length-append, append-nil}
use Rattle.std.specs.List.{AllByRecursion, flat_map}
use Rattle.std.proofs.lemmas.List.Concat.{flat_map-append}
use Rattle.tally_rows.specs.declared.row.Row.{Row}
use Rattle.segment_blocks.specs.Walk.{is_within}
use Rattle.spill_blobs.specs.Marks.{marks, marks_behind, marked, skip_behind, skipped}
use Rattle.spill_blobs.specs.Parts.{HasRoom}
use Rattle.spill_blobs.specs.RowBlocks.{row_bytes}
use Rattle.spill_blobs.specs.Sheets.{IsSheet}
use Rattle.spill_blobs.specs.declared.sheet.Sheet.{Sheet}
use Rattle.spill_blobs.proofs.MarkLemmas.{marks-more, skip-more}

room-more : (rows : List Row) (row : Row) → AllByRecursion HasRoom rows → HasRoom row → AllByRecursion HasRoom (rows ++ row ∷ [])
room-more [] row all one = (one, tt)
room-more (r ∷ rows) row all one = (all.0, room-more rows row all.1 one)

-- what putting a row does to a sheet
pub record Puts (row : Row) (old new : Sheet) : Type 0 where
  pub bytes : new.bytes.items ≡ old.bytes.items ++ row_bytes row
  pub keys : new.keys.items ≡ old.keys.items ++ marked old.skip row.key
  pub skip : new.skip ≡ skipped old.skip
  pub count : new.count ≡ min (old.count + 1) (2 ^ 64 - 1)
  pub room : HasRoom row

pub put-more : (rows : List Row) (row : Row) (old new : Sheet) → IsSheet old rows → Puts row old new → IsSheet new (rows ++ row ∷ [])
put-more rows row old new is put = record {
  bytes = put.bytes ∙ ap (λ l. l ++ row_bytes row) is.bytes
      ∙ ap (λ l. flat_map row_bytes rows ++ l) (sym (append-nil (row_bytes row))) ∙ sym (flat_map-append row_bytes rows (row ∷ []));
  count = omega (arith, put.count, is.count, length-append rows (row ∷ []));
  keys = put.keys ∙ ap (λ l. l ++ marked old.skip row.key) is.keys ∙ ap (λ n. marks rows ++ marked n row.key) is.skip ∙ sym (marks-more 0 rows row);
  skip = put.skip ∙ ap skipped is.skip ∙ sym (skip-more 0 rows row);
  room = room-more rows row is.room put.room;
}

-- a sheet under way: the rows that it has, and those that are left
pub record IsUnderWay (sheet : Sheet) (left rows : List Row) : Type 0 where
  pub done : List Row
  pub has : IsSheet sheet done
  pub are : rows ≡ done ++ left

pub under-more : (old new : Sheet) (row : Row) (left rows : List Row) → IsUnderWay old (row ∷ left) rows
    → ((done : List Row) → IsSheet old done → IsSheet new (done ++ row ∷ [])) → IsUnderWay new left rows
under-more old new row left rows way put = record {
  done = way.done ++ row ∷ [];
  has = put way.done way.has;
  are = way.are ∙ append_assoc-one way.done;
}
  where
    append_assoc-one : (done : List Row) → done ++ (row ∷ left) ≡ (done ++ row ∷ []) ++ left
    append_assoc-one [] = refl
    append_assoc-one (r ∷ done) = ap (λ l. r ∷ l) (append_assoc-one done)

pub under-end : (sheet : Sheet) (rows : List Row) → IsUnderWay sheet [] rows → IsSheet sheet rows
under-end sheet rows way = subst (IsSheet sheet) (sym (way.are ∙ append-nil way.done)) way.has

pub empty-sheet : (sheet : Sheet) → sheet.bytes.items ≡ [] → sheet.count ≡ 0 → sheet.keys.items ≡ [] → sheet.skip ≡ 0 → IsSheet sheet []
unfolding marks_behind skip_behind
empty-sheet sheet bytes count keys skip = record {
  bytes = bytes;
  count = omega (arith, count);
  keys = keys;
  skip = skip;
  room = tt;
}

-- a walk without bounds goes over all rows
pub within-all : (rows : List Row) → filter (is_within None None) rows ≡ rows
within-all [] = refl
within-all (row ∷ rows) = ap (λ l. row ∷ l) (within-all rows)
