-- Rows that are read field by field.
use Rattle.std.proofs.Common.{◌≡◌, ◌≢◌, ℕ, ◌+◌, ◌<◌, ◌^◌, List, [], ◌∷◌, ◌++◌, length, length-append, Option, refl, sym, ap, ◌∙◌, subst, arith, append_assoc, append-nil}
use Rattle.std.specs.Int.{w16, w32, w64, to_le_bytes}
use Rattle.std.proofs.lemmas.List.{nil_from_length}
use Rattle.plain_laws.specs.Lists.{same_cons}
use Rattle.best_lists.specs.declared.entry.Entry.{Entry}
use Rattle.best_lists.specs.Ranking.{before_by_rating, before_by_month}
use Rattle.explorer_model.specs.declared.archive.Speed.{Speed}
use Rattle.explorer_model.specs.declared.chess.Move.{Move}
use Rattle.explorer_model.specs.Order.{speed_index}
use Rattle.tally_rows.specs.declared.row.Row.{Row}
use Rattle.tally_rows.specs.declared.row_key.RowKey.{RowKey}
use Rattle.tally_rows.specs.Row.{row_key_of}
use Rattle.spill_blobs.specs.RowBlocks.{move_bytes, row_key_bytes, count_bytes, list_bytes, CanBeWritten, IsBroken, IsKeyOfValid, IsList, IsRowAt, IsRowKey}
use Rattle.spill_blobs.proofs.RowLemmas.{Split, split, length-move, length-list, length-row_key, as_parts, k1, k2, rest_bytes, lists_bytes}

-- ---- what a row's games have in common

pub key-long : (bytes key rest : List ℕ) → bytes ≡ key ++ rest → length rest + 34 ≡ length bytes → length key ≡ 34
key-long bytes key rest is left = omega (arith, ap length is, length-append key rest, left)

module _ (bytes key r0 : List ℕ) (long : length key ≡ 34) (is : bytes ≡ key ++ r0) where
  cut : (k : RowKey) (rest : List ℕ) → IsRowKey k → bytes ≡ row_key_bytes k ++ rest → Split key k.key r0 (k1 k ++ rest)
  cut k rest w e = split key k.key r0 (k1 k ++ rest) (long ∙ sym w.key) (sym is ∙ e ∙ append_assoc k.key (k1 k) rest)

  -- of no valid position
  pub no-key : (IsKeyOfValid key → ⊥) → (k : RowKey) (rest : List ℕ) → IsRowKey k → IsKeyOfValid k.key → bytes ≢ row_key_bytes k ++ rest
  no-key off k rest w valid e = off (subst IsKeyOfValid (sym (cut k rest w e).front) valid)

  module _ (from to promotion : ℕ) (r3 : List ℕ) (moves : r0 ≡ from ∷ to ∷ promotion ∷ r3) where
    cut-move : (k : RowKey) (rest : List ℕ) → IsRowKey k → bytes ≡ row_key_bytes k ++ rest
        → Split (from ∷ to ∷ promotion ∷ []) (move_bytes k.next) r3 (k2 k ++ rest)
    cut-move k rest w e =
        split (from ∷ to ∷ promotion ∷ []) (move_bytes k.next) r3 (k2 k ++ rest) (sym (length-move k.next))
        (sym moves ∙ (cut k rest w e).back ∙ append_assoc (move_bytes k.next) (k2 k) rest)

    pub no-move : ((next : Option Move) → CanBeWritten next → move_bytes next ≢ from ∷ to ∷ promotion ∷ [])
        → (k : RowKey) (rest : List ℕ) → IsRowKey k → IsKeyOfValid k.key → bytes ≢ row_key_bytes k ++ rest
    no-move off k rest w valid e = off k.next w.next (sym (cut-move k rest w e).front)

    module _ (year month place : ℕ) (r4 r6 : List ℕ) (years : r3 ≡ to_le_bytes w16 year ++ r4) (months : r4 ≡ month ∷ place ∷ r6) where
      pub no-speed : ((speed : Speed) → speed_index speed ≢ place) → (k : RowKey) (rest : List ℕ) → IsRowKey k → IsKeyOfValid k.key
          → bytes ≢ row_key_bytes k ++ rest
      no-speed off k rest w valid e =
          let behind = k.month.month ∷ speed_index k.speed ∷ (to_le_bytes w16 k.group.value ++ rest) in
          let years_are = split (to_le_bytes w16 year) (to_le_bytes w16 k.month.year) r4 behind refl (sym years ∙ (cut-move k rest w e).back) in
          let month_is = same_cons month k.month.month (place ∷ r6) _ (sym months ∙ years_are.back) in
          let place_is = same_cons place (speed_index k.speed) r6 _ month_is.1 in
          off k.speed (sym place_is.0)

      -- all of them
      pub row_key-is : (k : RowKey) (value : ℕ) (r7 : List ℕ) → key ≡ k.key → move_bytes k.next ≡ from ∷ to ∷ promotion ∷ [] → k.month.year ≡ year
          → k.month.month ≡ month → speed_index k.speed ≡ place → k.group.value ≡ value → r6 ≡ to_le_bytes w16 value ++ r7
          → bytes ≡ row_key_bytes k ++ r7
      row_key-is k value r7 a b c d e f g =
          let groups : r6 ≡ to_le_bytes w16 k.group.value ++ r7 = g ∙ ap (λ n. to_le_bytes w16 n ++ r7) (sym f) in
          let speeds : r4 ≡ k.month.month ∷ speed_index k.speed ∷ (to_le_bytes w16 k.group.value ++ r7) =
          months ∙ (λ i. sym d i ∷ sym e i ∷ groups i) in
          let all_years : r3 ≡ k2 k ++ r7 = years ∙ (λ i. to_le_bytes w16 (sym c i) ++ speeds i) in
          let all_moves : r0 ≡ k1 k ++ r7 =
          moves ∙ (λ i. sym b i ++ all_years i) ∙ sym (append_assoc (move_bytes k.next) (k2 k) r7) in
          is ∙ (λ i. a i ++ all_moves i) ∙ sym (append_assoc k.key (k1 k) r7)

-- ---- both lists

module _ (bytes rest : List ℕ) (top : List Entry) (list : IsList before_by_rating top) (is : bytes ≡ list_bytes top ++ rest) where
  pub lists-are : (recent : List Entry) (more : List ℕ) → rest ≡ list_bytes recent ++ more → length more + 33 ≡ length rest → length rest + 33 ≡ 66
      → bytes ≡ list_bytes top ++ list_bytes recent
  lists-are recent more recent_is short shorter =
      is ∙ ap (λ l. list_bytes top ++ l)
      (recent_is ∙ ap (λ l. list_bytes recent ++ l) (nil_from_length more (omega (arith, short, shorter))) ∙ append-nil (list_bytes recent))

  pub no-recent : ((entries : List Entry) (more : List ℕ) → IsList before_by_month entries → rest ≢ list_bytes entries ++ more)
      → (other recent : List Entry) → IsList before_by_rating other → IsList before_by_month recent → bytes ≢ list_bytes other ++ list_bytes recent
  no-recent off other recent other_list recent_list e =
      let two = split (list_bytes top) (list_bytes other) rest (list_bytes recent) (length-list top list.few ∙ sym (length-list other other_list.few)) (sym is ∙ e) in
      off recent [] recent_list (two.back ∙ sym (append-nil (list_bytes recent)))

-- ---- a row

-- a block whose first bytes are of no row
pub broken-key : (block : List ℕ) → ((k : RowKey) (rest : List ℕ) → IsRowKey k → IsKeyOfValid k.key → block ≢ row_key_bytes k ++ rest) → IsBroken block
broken-key block none row is = none (row_key_of row) (rest_bytes row) is.writable.row_key is.valid (is.bytes ∙ as_parts row)

module _ (block r0 r1 r2 r3 r4 : List ℕ) (k : RowKey) (white draws black ratings : ℕ) (key : IsRowKey k) (is : block ≡ row_key_bytes k ++ r0)
    (whites : r0 ≡ to_le_bytes w32 white ++ r1) (drawn : r1 ≡ to_le_bytes w32 draws ++ r2) (blacks : r2 ≡ to_le_bytes w32 black ++ r3)
    (rated : r3 ≡ to_le_bytes w64 ratings ++ r4) where
  abbrev counts : List ℕ
  counts = to_le_bytes w32 white ++ (to_le_bytes w32 draws ++ (to_le_bytes w32 black ++ to_le_bytes w64 ratings))

  counts-are : r0 ≡ counts ++ r4
  counts-are =
      let b : r2 ≡ (to_le_bytes w32 black ++ to_le_bytes w64 ratings) ++ r4 =
      blacks ∙ ap (λ l. to_le_bytes w32 black ++ l) rated ∙ sym (append_assoc (to_le_bytes w32 black) (to_le_bytes w64 ratings) r4) in
      let d : r1 ≡ (to_le_bytes w32 draws ++ (to_le_bytes w32 black ++ to_le_bytes w64 ratings)) ++ r4 =
      drawn ∙ ap (λ l. to_le_bytes w32 draws ++ l) b ∙ sym (append_assoc (to_le_bytes w32 draws) (to_le_bytes w32 black ++ to_le_bytes w64 ratings) r4) in
      whites ∙ ap (λ l. to_le_bytes w32 white ++ l) d ∙ sym (append_assoc (to_le_bytes w32 white) (to_le_bytes w32 draws ++ (to_le_bytes w32 black ++ to_le_bytes w64 ratings)) r4)

  -- whose lists are none
  pub broken-lists : ((top recent : List Entry) → IsList before_by_rating top → IsList before_by_month recent → r4 ≢ list_bytes top ++ list_bytes recent)
      → IsBroken block
  broken-lists none row at =
      let w = at.writable in
      let other = row_key_of row in
      let two = split (row_key_bytes k) (row_key_bytes other) r0 (rest_bytes row)
      (length-row_key k key.key ∙ sym (length-row_key other w.row_key.key)) (sym is ∙ at.bytes ∙ as_parts row) in
      let three = split counts (count_bytes row) r4 (lists_bytes row) refl (sym counts-are ∙ two.back) in
      none row.top row.recent w.top w.recent three.back

  pub row-is : (row : Row) → IsKeyOfValid k.key → row_key_of row ≡ k → row.white ≡ white → row.draws ≡ draws → row.black ≡ black → row.ratings ≡ ratings
      → white < 2 ^ 32 → draws < 2 ^ 32 → black < 2 ^ 32 → ratings < 2 ^ 64 → IsList before_by_rating row.top → IsList before_by_month row.recent
      → r4 ≡ list_bytes row.top ++ list_bytes row.recent → IsRowAt block row
  row-is row valid of a b c d fa fb fc fd top recent lists = record {
    writable = record {
      row_key = subst IsRowKey (sym of) key;
      white = omega (arith, a, fa);
      draws = omega (arith, b, fb);
      black = omega (arith, c, fc);
      ratings = omega (arith, d, fd);
      top = top;
      recent = recent;
    };
    bytes = is ∙ (λ i. row_key_bytes (sym of i) ++ rest i) ∙ sym (as_parts row);
    valid = subst (λ (x : RowKey). IsKeyOfValid x.key) (sym of) valid;
  }
    where
      rest : r0 ≡ rest_bytes row
      rest =
          counts-are ∙ (λ i. (to_le_bytes w32 (sym a i) ++ (to_le_bytes w32 (sym b i) ++ (to_le_bytes w32 (sym c i) ++ to_le_bytes w64 (sym d i)))) ++ lists i)
