-- The next rows of two places, and which of them moves.
use Rattle.std.proofs.Common.{◌≡◌, ℕ, ◌+◌, ◌<◌, ◌≤◌, Bool, true, false, not, IsTrue, get_or, Some, Ok, true≢false, unwrap_or, List, [], ◌∷◌, take, length, refl, sym, ap, subst, ◌∙◌, arith}
use Rattle.std.specs.declared.cmp.Ordering.{Ordering}
use Rattle.std.specs.declared.cmp.Ordering.TheVariants.{Less, Equal, Greater}
use Rattle.std.specs.Ordering.{is_lt, is_gt, ordering_reverse}
use Rattle.std.proofs.lemmas.List.{length-append}
use Rattle.tally_rows.specs.declared.row.Row.{Row}
use Rattle.tally_rows.specs.declared.row_key.RowKey.{RowKey}
use Rattle.tally_rows.specs.RowKey.{row_order, row_order-total}
use Rattle.explorer_model.specs.declared.archive.Outcome.{Outcome}
use Rattle.tally_rows.specs.Row.{row_key_of, row_of, shifted_row}
use Rattle.segment_blocks.specs.declared.block_cursor.Place.{Place}
use Rattle.segment_blocks.specs.declared.lane.Lanes.{Lanes}
use Rattle.segment_blocks.specs.declared.until.Until.{Until}
use Rattle.segment_blocks.specs.declared.until.Until.TheVariants.{End, Key, Below, Done}
use Rattle.segment_blocks.specs.Block.{IsBlock}
use Rattle.segment_blocks.specs.Both.{MoveBoth, HasMovedFirst}
use Rattle.segment_blocks.specs.Encoded.{Encoded, HasOwnKey, key_behind, row_key_at, rows_of, single_of}
use Rattle.segment_blocks.specs.Moving.{next_row_key, IfOn, IsMet, IsLeast, HasMovedBehind}
use Rattle.segment_blocks.specs.Place.{rows_left, IsPlace, IsNextShared}
use Rattle.segment_blocks.specs.declared.mark.Mark.{Mark}
use Rattle.segment_blocks.specs.Prefix.{common_len, TellShared}
use Rattle.segment_blocks.specs.Walk.{rows_until}
use Rattle.segment_blocks.proofs.AppendLemmas.{IsBlock-push}
use Rattle.segment_blocks.proofs.BothLemmas.{MoveBoth-more, MoveBoth-left, MoveBoth-right}
use Rattle.segment_blocks.proofs.KeyLemmas.{key_order, first-less, until_key-below}
use Rattle.segment_blocks.proofs.KeyOrderLemmas.{row_order-by-key}
use Rattle.segment_blocks.proofs.EncodedLemmas.{own-known, rows_behind-game}
use Rattle.segment_blocks.proofs.MovingLemmas.{row_key-game, shifted-key}
use Rattle.segment_blocks.proofs.PrefixLemmas.{longer-first, shorter-stays, common-both}

-- ---- a row whose key is known

-- the first of some rows, which has the key
pub record FirstRow (key : List ℕ) (rows : List Row) : Type 0 where
  pub row : Row
  pub rest : List Row
  pub is : rows ≡ row ∷ rest
  pub own : row.key ≡ key

first-own : (key : List ℕ) (rows : List Row) → HasOwnKey key rows → FirstRow key rows
first-own key [] h = absurd h
first-own key (row ∷ rows) h = record { row = row; rest = rows; is = refl; own = h }

module _ (place : Place) (filled : IsPlace place) (known : IsTrue place.is_own) where
  pub own_first : FirstRow place.before (rows_left place)
  own_first = first-own place.before (rows_left place) (filled.own known)

  pub next-key : (a : RowKey) → next_row_key (rows_left place) ≡ Some a → a.key ≡ place.before
  next-key a e =
      let same : row_key_of own_first.row ≡ a = ap (λ o. unwrap_or o a) (sym (ap next_row_key own_first.is) ∙ e) in
      sym (ap (λ (k : RowKey). k.key) same) ∙ own_first.own

  pub next-of-mark : (mark : Mark) (marks : List Mark) → place.marks.now ≡ mark ∷ marks → (outcome : Outcome) → mark.outcome ≡ Some outcome
      → (a : RowKey) → next_row_key (rows_left place) ≡ Some a → row_key_at place.before mark ≡ a
  next-of-mark mark marks is outcome e a next =
      let key = key_behind place.before mark place.tails.now in
      let own : key ≡ place.before = own-known place.before mark place.tails.now place.marks.now marks is place.whole.now outcome e (filled.own known) in
      let row : Some (row_key_of (row_of (single_of key mark outcome))) ≡ Some a =
      ap next_row_key (sym (rows_behind-game mark place.marks.now marks place.before place.tails.now place.whole.now is outcome e)) ∙ next in
      sym (ap (λ k. row_key_at k mark) own) ∙ sym (row_key-game key mark outcome) ∙ ap (λ o. unwrap_or o a) row

  -- its mark tells how many bytes its key has in common with the one before it
  pub own-shared : (last : List ℕ) (mark : Mark) (marks : List Mark) → place.marks.now ≡ mark ∷ marks → TellShared last place.marks.now (rows_left place)
      → mark.shared ≡ common_len last place.before
  own-shared last mark marks is h =
      let row = own_first.row in
      let rest = own_first.rest in
      let here : TellShared last (mark ∷ marks) (row ∷ rest) =
      subst (λ m. TellShared last m (row ∷ rest)) is (subst (λ r. TellShared last place.marks.now r) own_first.is h) in
      here.0 ∙ ap (common_len last) own_first.own

-- so it does after the key was made, which leaves the marks and the rows as they were
pub next-shared : {shared : ℕ} (last : List ℕ) (new : Place) (filled : IsPlace new) (own : IsTrue new.is_own) (old : Place) → TellShared last old.marks.now (rows_left old)
    → new.marks ≡ old.marks → rows_left new ≡ rows_left old → (next : IsNextShared shared old.marks.now) → next.mark.shared ≡ common_len last new.before
next-shared last new filled own old told marks rows next =
    own-shared new filled own last next.mark next.rest (ap (λ m. m.now) marks ∙ next.is)
    (subst (λ r. TellShared last new.marks.now r) (sym rows) (subst (λ m. TellShared last m.now (rows_left old)) (sym marks) told))

pub same-first : (all : List Mark) (m : Mark) (ms : List Mark) (n : Mark) (ns : List Mark) → all ≡ m ∷ ms → all ≡ n ∷ ns → m ≡ n
same-first all m ms n ns e d = ap (λ l. get_or l 0 m) (sym e ∙ d)

pub on-if : (P : Type 0) (b : Bool) → (IsTrue b → P) → IfOn (Ok b) P
on-if P true h = h refl
on-if P false h = tt

pub if-on-so : (P : Type 0) (b : Bool) → b ≡ true → IfOn (Ok b) P → P
if-on-so P true e h = h
if-on-so P false e h = absurd (true≢false (sym e))

pub not-true : (b : Bool) → IsTrue (not b) → b ≡ false
not-true true h = sym h
not-true false h = refl

-- ---- which of two rows stands first

module _ (last a b : List ℕ) (m n : ℕ) (left : IsMet last a m) (right : IsMet last b n) where
  pub met-less : n < m → key_order a b ≡ Less
  met-less h = longer-first last a b (omega (arith, h, left.is, right.is)) right.not_before

  pub met-stays : n < m → n ≡ common_len a b
  met-stays h = right.is ∙ sym (shorter-stays last a b (omega (arith, h, left.is, right.is)))

  pub met-same : m ≡ n → take m a ≡ take m b
  met-same e = common-both m last a b left.is (e ∙ right.is)

-- the keys of two rows
module _ (left right : List ℕ) (a b : RowKey) (left_is : a.key ≡ left) (right_is : b.key ≡ right) where
  -- the first row is the last one, and stands before the second
  pub met-after : (last : List ℕ) (shared : ℕ) → last ≡ left → shared ≡ common_len left right → row_order a b ≡ Less → IsMet last right shared
  met-after last shared key is lesser = record {
    is = is ∙ ap (λ k. common_len k right) (sym key);
    not_before = (λ i. is_gt (key_order ((key ∙ sym left_is) i) (sym right_is i))) ∙ first-less a b lesser;
  }

  pub order-by-keys : (o : Ordering) → (o ≡ Equal → ⊥) → key_order left right ≡ o → o ≡ row_order a b
  order-by-keys o other e = sym (row_order-by-key a b o ((λ i. key_order (left_is i) (right_is i)) ∙ e) other)

-- ---- where a walk ends

pub least-weaker : (until : Until) (last : List ℕ) (m n : ℕ) → m ≤ n → IsLeast until last m → IsLeast until last n
least-weaker End last m n le h = tt
least-weaker (Key key) last m n le h = h
least-weaker (Below key) last m n le h = (omega (arith, le, h.0), h.1)
least-weaker Done last m n le h = h

module _ (last : List ℕ) (least shared : ℕ) (row : Row) (e : shared ≡ common_len last row.key) (enough : least ≤ shared) where
  fewer : (key : List ℕ) → common_len last key < least → common_len last key < common_len last row.key
  fewer key h = omega (arith, h, e, enough)

  -- the walk goes over the row
  pub least-front : (until : Until) → IsLeast until last least → (rows : List Row) → rows_until until (row ∷ rows) ≡ row ∷ rows_until until rows
  least-front End h rows = refl
  least-front (Key key) h rows = absurd h
  least-front (Below key) h rows = until_key-below key row rows (ap is_lt (longer-first last row.key key (fewer key h.0) h.1))
  least-front Done h rows = absurd h

  -- and the row is then the last one
  pub least-after : (until : Until) → IsLeast until last least → IsLeast until row.key least
  least-after End h = tt
  least-after (Key key) h = h
  least-after (Below key) h =
      let few = fewer key h.0 in
      let same : common_len row.key key ≡ common_len last key = shorter-stays last row.key key few in
      (omega (arith, h.0, same), ap is_gt (longer-first last row.key key few h.1))
  least-after Done h = h

-- ---- one row moved

pub lesser-is : (o p : Ordering) → o ≡ Less → o ≡ p → is_lt p ≡ true
lesser-is o p e d = ap is_lt (sym d ∙ e)

pub greater-is : (x y : RowKey) (o : Ordering) → o ≡ Greater → o ≡ row_order x y → is_lt (row_order y x) ≡ true
greater-is x y o e d = ap is_lt (row_order-total.antisymm y x ∙ ap ordering_reverse (sym d ∙ e))

module _ (first : List ℕ) (left_until right_until : Until) (lanes : Lanes) (last : List ℕ) (rows : Encoded) (block : IsBlock first last rows)
    (left_least : IsLeast left_until last lanes.least) (right_least : IsLeast right_until last lanes.least) where
  module _ (room : length (rows_of rows first) < 128) (new_last : List ℕ) (new : Encoded) where
    grown : (by : ℕ) (walk rest : List Row) → HasMovedBehind by walk rest last new_last rows new → IsBlock first new_last new
    grown by walk rest h =
        subst (λ l. IsBlock first l new) (shifted-key by h.row ∙ sym h.ends) (IsBlock-push (shifted_row by h.row) rows new first last block room h.appended)

    one_more : (by : ℕ) (walk rest : List Row) → HasMovedBehind by walk rest last new_last rows new → length (rows_of new first) ≤ length (rows_of rows first) + 1
    one_more by walk rest h = omega (arith, ap length (h.appended.rows first block.ends), length-append (rows_of rows first) (shifted_row by h.row ∷ []))

    pub HasMovedFirst-left : (lefts left_rest rights right_rest : List Row) (other : Row) (others : List Row)
        → (h : HasMovedBehind lanes.left.by lefts left_rest last new_last rows new) → rights ≡ other ∷ others → right_rest ≡ rights
        → is_lt (row_order (row_key_of h.row) (row_key_of other)) ≡ true → lanes.left.shared ≡ common_len last new_last → lanes.least ≤ lanes.left.shared
        → HasMovedFirst first left_until right_until lanes new_last lefts left_rest rights right_rest rows new
    HasMovedFirst-left lefts left_rest rights right_rest other others h right_is stays lesser shared enough =
        let met : lanes.left.shared ≡ common_len last h.row.key = shared ∙ ap (common_len last) h.ends in
        let moved : MoveBoth left_until right_until lanes.left.by lanes.right.by (h.row ∷ left_rest) left_rest (other ∷ others) (other ∷ others) (rows_of rows first) (rows_of new first) =
        MoveBoth-left left_until right_until lanes.left.by lanes.right.by h.row other left_rest others (rows_of rows first) (rows_of new first)
        (least-front last lanes.least lanes.left.shared h.row met enough left_until left_least) lesser (h.appended.rows first block.ends) in
        record {
          block = grown lanes.left.by lefts left_rest h;
          left = subst (λ k. IsLeast left_until k lanes.least) (sym h.ends) (least-after last lanes.least lanes.left.shared h.row met enough left_until left_least);
          right = subst (λ k. IsLeast right_until k lanes.least) (sym h.ends) (least-after last lanes.least lanes.left.shared h.row met enough right_until right_least);
          few = one_more lanes.left.by lefts left_rest h;
          both = (λ left_more right_more.
              subst (λ x. MoveBoth left_until right_until lanes.left.by lanes.right.by x left_rest rights right_rest (rows_of rows first) (rows_of new first)) (sym h.first)
              (subst (λ x. MoveBoth left_until right_until lanes.left.by lanes.right.by (h.row ∷ left_rest) left_rest rights x (rows_of rows first) (rows_of new first)) (sym stays)
              (subst (λ x. MoveBoth left_until right_until lanes.left.by lanes.right.by (h.row ∷ left_rest) left_rest x x (rows_of rows first) (rows_of new first)) (sym right_is) moved))
              left_more right_more);
        }

    pub HasMovedFirst-right : (lefts left_rest rights right_rest : List Row) (other : Row) (others : List Row)
        → (h : HasMovedBehind lanes.right.by rights right_rest last new_last rows new) → lefts ≡ other ∷ others → left_rest ≡ lefts
        → is_lt (row_order (row_key_of h.row) (row_key_of other)) ≡ true → lanes.right.shared ≡ common_len last new_last → lanes.least ≤ lanes.right.shared
        → HasMovedFirst first left_until right_until lanes new_last lefts left_rest rights right_rest rows new
    HasMovedFirst-right lefts left_rest rights right_rest other others h left_is stays lesser shared enough =
        let met : lanes.right.shared ≡ common_len last h.row.key = shared ∙ ap (common_len last) h.ends in
        let moved : MoveBoth left_until right_until lanes.left.by lanes.right.by (other ∷ others) (other ∷ others) (h.row ∷ right_rest) right_rest (rows_of rows first) (rows_of new first) =
        MoveBoth-right left_until right_until lanes.left.by lanes.right.by h.row other others right_rest (rows_of rows first) (rows_of new first)
        (least-front last lanes.least lanes.right.shared h.row met enough right_until right_least) lesser (h.appended.rows first block.ends) in
        record {
          block = grown lanes.right.by rights right_rest h;
          left = subst (λ k. IsLeast left_until k lanes.least) (sym h.ends) (least-after last lanes.least lanes.right.shared h.row met enough left_until left_least);
          right = subst (λ k. IsLeast right_until k lanes.least) (sym h.ends) (least-after last lanes.least lanes.right.shared h.row met enough right_until right_least);
          few = one_more lanes.right.by rights right_rest h;
          both = (λ left_more right_more.
              subst (λ x. MoveBoth left_until right_until lanes.left.by lanes.right.by lefts left_rest x right_rest (rows_of rows first) (rows_of new first)) (sym h.first)
              (subst (λ x. MoveBoth left_until right_until lanes.left.by lanes.right.by lefts x (h.row ∷ right_rest) right_rest (rows_of rows first) (rows_of new first)) (sym stays)
              (subst (λ x. MoveBoth left_until right_until lanes.left.by lanes.right.by x x (h.row ∷ right_rest) right_rest (rows_of rows first) (rows_of new first)) (sym left_is) moved))
              left_more right_more);
        }

-- ---- one more row moved

module _ (first : List ℕ) (left_until right_until : Until) (lanes : Lanes) (left_by right_by : ℕ) (left_is : lanes.left.by ≡ left_by) (right_is : lanes.right.by ≡ right_by) where
  pub MoveBoth-next : (new_last : List ℕ) (lefts mid left_rest rights between right_rest old : List Row) (rows new : Encoded)
      → MoveBoth left_until right_until left_by right_by lefts mid rights between old (rows_of rows first)
      → HasMovedFirst first left_until right_until lanes new_last mid left_rest between right_rest rows new
      → MoveBoth left_until right_until left_by right_by lefts left_rest rights right_rest old (rows_of new first)
  MoveBoth-next new_last lefts mid left_rest rights between right_rest old rows new moved h =
      let one : MoveBoth left_until right_until left_by right_by mid left_rest between right_rest (rows_of rows first) (rows_of new first) =
      (λ left_more right_more.
      subst (λ n. MoveBoth left_until right_until n right_by mid left_rest between right_rest (rows_of rows first) (rows_of new first)) left_is
      (subst (λ n. MoveBoth left_until right_until lanes.left.by n mid left_rest between right_rest (rows_of rows first) (rows_of new first)) right_is h.both)
      left_more right_more) in
      MoveBoth-more left_until right_until left_by right_by lefts mid left_rest rights between right_rest old (rows_of rows first) (rows_of new first) moved one

-- what has moved, by what its rows are
pub MoveBoth-of : (left_until right_until : Until) (left_by right_by : ℕ) (lefts some left_rest rights others right_rest rows old new : List Row)
    → some ≡ lefts → others ≡ rights → old ≡ rows → MoveBoth left_until right_until left_by right_by some left_rest others right_rest old new
    → MoveBoth left_until right_until left_by right_by lefts left_rest rights right_rest rows new
MoveBoth-of left_until right_until left_by right_by lefts some left_rest rights others right_rest rows old new e d k moved left_more right_more =
    subst (λ x. MoveBoth left_until right_until left_by right_by x left_rest rights right_rest rows new) e
    (subst (λ x. MoveBoth left_until right_until left_by right_by some left_rest x right_rest rows new) d
    (subst (λ x. MoveBoth left_until right_until left_by right_by some left_rest others right_rest x new) k moved))
    left_more right_more
