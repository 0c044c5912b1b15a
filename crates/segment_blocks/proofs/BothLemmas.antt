-- Rows of two walks moved behind others, one after another.
use Rattle.std.proofs.Common.{◌≡◌, ℕ, ◌≤◌, Bool, true, false, cond, List, [], ◌∷◌, ◌++◌, length, refl, sym, ap, subst, ◌∙◌, append_assoc, append-nil, arith}
use Rattle.std.specs.Ordering.{is_lt}
use Rattle.std.proofs.lemmas.List.{length-append}
use Rattle.tally_rows.specs.declared.row.Row.{Row}
use Rattle.tally_rows.specs.RowKey.{row_order}
use Rattle.tally_rows.specs.Row.{row_key_of, shifted_row}
use Rattle.segment_blocks.specs.declared.until.Until.{Until}
use Rattle.segment_blocks.specs.declared.until.Until.TheVariants.{End, Key, Below, Done}
use Rattle.segment_blocks.specs.Both.{IsBeforeFirst, HaveBothMoved, MoveBoth}
use Rattle.segment_blocks.specs.Walk.{is_below, has_key, at_key, until_key, rows_until}

-- ---- a walk's first row

pub until-by : (key : List ℕ) (row : Row) (rows : List Row) → until_key key (row ∷ rows) ≡ cond (is_below key row) (row ∷ until_key key rows) []
unfolding until_key
until-by key row rows = refl

before-if : (row other : Row) (others : List Row) → is_lt (row_order (row_key_of row) (row_key_of other)) ≡ true
    → (b : Bool) → IsBeforeFirst row (cond b (other ∷ others) [])
before-if row other others h true = h
before-if row other others h false = tt

pub before-until : (until : Until) (row other : Row) (others : List Row) → is_lt (row_order (row_key_of row) (row_key_of other)) ≡ true
    → IsBeforeFirst row (rows_until until (other ∷ others))
before-until End row other others h = h
before-until (Key key) row other others h = before-if row other (at_key key others) h (has_key key other)
before-until (Below key) row other others h =
    subst (IsBeforeFirst row) (sym (until-by key other others)) (before-if row other (until_key key others) h (is_below key other))
before-until Done row other others h = tt

-- ---- one row, and more

module _ (left_by right_by : ℕ) where
  pub HaveBothMoved-none : (lefts rights rows : List Row) → HaveBothMoved left_by right_by lefts lefts rights rights rows rows
  HaveBothMoved-none lefts rights rows = record {
    pushed = [];
    behind = sym (append-nil rows);
    left = [];
    left_parts = refl;
    right = [];
    right_parts = refl;
    count = refl;
    first = λ both gives. refl;
  }

  pub HaveBothMoved-more : (lefts mid left_rest rights between right_rest rows new newer : List Row)
      → HaveBothMoved left_by right_by lefts mid rights between rows new → HaveBothMoved left_by right_by mid left_rest between right_rest new newer
      → HaveBothMoved left_by right_by lefts left_rest rights right_rest rows newer
  HaveBothMoved-more lefts mid left_rest rights between right_rest rows new newer h k = record {
    pushed = h.pushed ++ k.pushed;
    behind = k.behind ∙ ap (λ l. l ++ k.pushed) h.behind ∙ append_assoc rows h.pushed k.pushed;
    left = h.left ++ k.left;
    left_parts = h.left_parts ∙ ap (λ l. h.left ++ l) k.left_parts ∙ sym (append_assoc h.left k.left left_rest);
    right = h.right ++ k.right;
    right_parts = h.right_parts ∙ ap (λ l. h.right ++ l) k.right_parts ∙ sym (append_assoc h.right k.right right_rest);
    count = omega (arith, h.count, k.count, length-append h.pushed k.pushed, length-append h.left k.left, length-append h.right k.right);
    first = λ both gives. h.first both gives ∙ ap (λ l. h.pushed ++ l) (k.first both gives) ∙ sym (append_assoc h.pushed k.pushed (both left_rest right_rest));
  }

  pub both-longer : (lefts left_rest rights right_rest rows new : List Row) → HaveBothMoved left_by right_by lefts left_rest rights right_rest rows new
      → length rows ≤ length new
  both-longer lefts left_rest rights right_rest rows new h = omega (arith, ap length h.behind, length-append rows h.pushed)

module _ (left_until right_until : Until) (left_by right_by : ℕ) where
  pub MoveBoth-none : (lefts rights rows : List Row) → MoveBoth left_until right_until left_by right_by lefts lefts rights rights rows rows
  MoveBoth-none lefts rights rows left_more right_more =
      HaveBothMoved-none left_by right_by (rows_until left_until (lefts ++ left_more)) (rows_until right_until (rights ++ right_more)) rows

  pub MoveBoth-more : (lefts mid left_rest rights between right_rest rows new newer : List Row)
      → MoveBoth left_until right_until left_by right_by lefts mid rights between rows new
      → MoveBoth left_until right_until left_by right_by mid left_rest between right_rest new newer
      → MoveBoth left_until right_until left_by right_by lefts left_rest rights right_rest rows newer
  MoveBoth-more lefts mid left_rest rights between right_rest rows new newer h k left_more right_more =
      HaveBothMoved-more left_by right_by (rows_until left_until (lefts ++ left_more)) (rows_until left_until (mid ++ left_more))
      (rows_until left_until (left_rest ++ left_more)) (rows_until right_until (rights ++ right_more)) (rows_until right_until (between ++ right_more))
      (rows_until right_until (right_rest ++ right_more)) rows new newer (h left_more right_more) (k left_more right_more)

  pub MoveBoth-longer : (lefts left_rest rights right_rest rows new : List Row) → MoveBoth left_until right_until left_by right_by lefts left_rest rights right_rest rows new
      → length rows ≤ length new
  MoveBoth-longer lefts left_rest rights right_rest rows new h =
      both-longer left_by right_by (rows_until left_until (lefts ++ [])) (rows_until left_until (left_rest ++ []))
      (rows_until right_until (rights ++ [])) (rows_until right_until (right_rest ++ [])) rows new (h [] [])

  module _ (row other : Row) (lefts rights rows new : List Row) where
    pub MoveBoth-left : ((more : List Row) → rows_until left_until (row ∷ more) ≡ row ∷ rows_until left_until more)
        → is_lt (row_order (row_key_of row) (row_key_of other)) ≡ true → new ≡ rows ++ shifted_row left_by row ∷ []
        → MoveBoth left_until right_until left_by right_by (row ∷ lefts) lefts (other ∷ rights) (other ∷ rights) rows new
    MoveBoth-left inside lesser moved left_more right_more =
        let others : List Row = rows_until right_until (other ∷ (rights ++ right_more)) in
        record {
          pushed = shifted_row left_by row ∷ [];
          behind = moved;
          left = row ∷ [];
          left_parts = inside (lefts ++ left_more);
          right = [];
          right_parts = refl;
          count = omega arith;
          first = λ both gives. ap (λ l. both l others) (inside (lefts ++ left_more))
              ∙ gives.left row (rows_until left_until (lefts ++ left_more)) others (before-until right_until row other (rights ++ right_more) lesser);
        }

    pub MoveBoth-right : ((more : List Row) → rows_until right_until (row ∷ more) ≡ row ∷ rows_until right_until more)
        → is_lt (row_order (row_key_of row) (row_key_of other)) ≡ true → new ≡ rows ++ shifted_row right_by row ∷ []
        → MoveBoth left_until right_until left_by right_by (other ∷ lefts) (other ∷ lefts) (row ∷ rights) rights rows new
    MoveBoth-right inside lesser moved left_more right_more =
        let others : List Row = rows_until left_until (other ∷ (lefts ++ left_more)) in
        record {
          pushed = shifted_row right_by row ∷ [];
          behind = moved;
          left = [];
          left_parts = refl;
          right = row ∷ [];
          right_parts = inside (rights ++ right_more);
          count = omega arith;
          first = λ both gives. ap (λ l. both others l) (inside (rights ++ right_more))
              ∙ gives.right others row (rows_until right_until (rights ++ right_more)) (before-until left_until row other (lefts ++ left_more) lesser);
        }
