-- A row more behind the rows of a block.
use Rattle.std.proofs.Common.{◌≡◌, ℕ, ◌-◌, ◌≤◌, ◌<◌, List, [], ◌∷◌, ◌++◌, None, length, take, drop, set, get_or, cond, refl, sym, ap, subst, ◌∙◌, arith, append-nil}
use Rattle.std.proofs.lemmas.List.{length-drop, length-append, take_all, take-append-drop}
use Rattle.std.proofs.lemmas.List.Sums.{sum_by_push}
use Rattle.tally_rows.specs.declared.row.Row.{Row}
use Rattle.tally_rows.specs.Row.{row_of}
use Rattle.segment_blocks.specs.declared.mark.Mark.{Mark}
use Rattle.segment_blocks.specs.Encoded.{Encoded, kept_len, key_behind, single_of, rows_behind, rows_of, key_after, key_first, IsFilled, IsMarkOf, IsAppended}
use Rattle.segment_blocks.specs.Block.{IsBlock}
use Rattle.segment_blocks.proofs.EncodedLemmas.{none_count, kept-game, kept-whole, rows_of-none, rows_behind-append, rows_behind-game, rows_behind-whole}
use Rattle.std.specs.Option.{is_none}
use Rattle.segment_blocks.specs.Prefix.{common_len, TellShared}
use Rattle.segment_blocks.proofs.PrefixLemmas.{common-same, TellShared-push}

-- what a row adds to the rows before it
pub record Added (before : List ℕ) (row : Row) (old new : Encoded) : Type 0 where
  pub filled : IsFilled new.marks new.tails new.whole
  pub rows : IsAppended before row old new

-- the last of some items changed where it stands
pub set-last : {V : Type 0} (xs : List V) (x y : V) → set (xs ++ x ∷ []) (length xs) y ≡ xs ++ y ∷ []
set-last [] x y = refl
set-last (z ∷ xs) x y = ap (λ l. z ∷ l) (set-last xs x y)

pub get-last : {V : Type 0} (xs : List V) (x d : V) → get_or (xs ++ x ∷ []) (length xs) d ≡ x
get-last [] x d = refl
get-last (z ∷ xs) x d = get-last xs x d

abbrev pub encoded : List Mark → List ℕ → List Row → Encoded
encoded marks tails whole = record { marks = marks; tails = tails; whole = whole }

module _ (before : List ℕ) (row : Row) (marks : List Mark) (mark : Mark) (tails : List ℕ) (whole : List Row) (f : IsFilled marks tails whole) where
  pub Added-game : (shared : ℕ) → length row.key ≡ 34 → shared ≤ 34 → shared ≡ common_len before row.key → IsMarkOf row shared mark
      → Added before row (encoded marks tails whole) (encoded (marks ++ mark ∷ []) (tails ++ drop shared row.key) whole)
  unfolding rows_behind
  Added-game shared long within is h = record {
    filled = record {
      ends = omega (arith, f.ends, sum_by_push kept_len marks mark, kept-game mark (ap is_none h.told), length-append tails own, own_is, h.at);
      rows = omega (arith, f.rows, sum_by_push none_count marks mark, zero_here);
    };
    rows = record { rows = rows; mark = mark; marks = refl; shared = h.at ∙ is };
  }
    where
      same : take shared before ≡ take shared row.key
      same = subst (λ n. take n before ≡ take n row.key) (sym is) (common-same before row.key)

      own : List ℕ
      own = drop shared row.key

      own_is : length own ≡ 34 - shared
      own_is = omega (arith, length-drop shared row.key, long)

      zero_here : none_count mark ≡ 0
      zero_here = ap (λ o. cond (is_none o) 1 0) h.told

      key_is : key_behind before mark own ≡ row.key
      key_is =
          ap (λ n. take n before ++ take (34 - n) own) h.at ∙ ap (λ l. l ++ take (34 - shared) own) same
          ∙ ap (λ l. take shared row.key ++ l) (take_all (34 - shared) own (omega (arith, own_is))) ∙ take-append-drop shared row.key

      one : rows_behind (mark ∷ []) before own [] ≡ row ∷ []
      one =
          rows_behind-game mark (mark ∷ []) [] before own [] refl h.outcome h.told
          ∙ ap (λ k. row_of (single_of k mark h.outcome) ∷ []) key_is ∙ ap (λ r. r ∷ []) h.is

      rows : (first : List ℕ) → key_after first (rows_behind marks first tails whole) ≡ before
          → rows_behind (marks ++ mark ∷ []) first (tails ++ own) whole ≡ rows_behind marks first tails whole ++ row ∷ []
      rows first e =
          ap (λ w. rows_behind (marks ++ mark ∷ []) first (tails ++ own) w) (sym (append-nil whole))
          ∙ rows_behind-append marks (mark ∷ []) first tails own whole [] f
          ∙ ap (λ k. rows_behind marks first tails whole ++ rows_behind (mark ∷ []) k own []) e
          ∙ ap (λ l. rows_behind marks first tails whole ++ l) one

  pub Added-whole : mark.outcome ≡ None → mark.shared ≡ common_len before row.key → Added before row (encoded marks tails whole) (encoded (marks ++ mark ∷ []) tails (whole ++ row ∷ []))
  unfolding rows_behind
  Added-whole told at = record {
    filled = record {
      ends = omega (arith, f.ends, sum_by_push kept_len marks mark, kept-whole mark told);
      rows = omega (arith, f.rows, sum_by_push none_count marks mark, one_here, length-append whole (row ∷ []));
    };
    rows = record { rows = rows; mark = mark; marks = refl; shared = at };
  }
    where
      one_here : none_count mark ≡ 1
      one_here = ap (λ o. cond (is_none o) 1 0) told

      one : (k : List ℕ) → rows_behind (mark ∷ []) k [] (row ∷ []) ≡ row ∷ []
      one k = rows_behind-whole mark (mark ∷ []) [] k [] (row ∷ []) refl row [] told refl

      rows : (first : List ℕ) → key_after first (rows_behind marks first tails whole) ≡ before
          → rows_behind (marks ++ mark ∷ []) first tails (whole ++ row ∷ []) ≡ rows_behind marks first tails whole ++ row ∷ []
      rows first e =
          ap (λ t. rows_behind (marks ++ mark ∷ []) first t (whole ++ row ∷ [])) (sym (append-nil tails))
          ∙ rows_behind-append marks (mark ∷ []) first tails [] whole (row ∷ []) f
          ∙ ap (λ l. rows_behind marks first tails whole ++ l) (one (key_after first (rows_behind marks first tails whole)))

pub key_after-nil : (key : List ℕ) → key_after key [] ≡ key
unfolding key_after
key_after-nil key = refl

key_after-push : (before : List ℕ) (rows : List Row) (row : Row) → key_after before (rows ++ row ∷ []) ≡ row.key
unfolding key_after
key_after-push before [] row = refl
key_after-push before (r ∷ rows) row = key_after-push r.key rows row

key_first-push : (key : List ℕ) (rows : List Row) (row : Row) → 0 < length rows → key_first key (rows ++ row ∷ []) ≡ key_first key rows
key_first-push key [] row h = absurd (omega arith)
key_first-push key (r ∷ rows) row h = refl

pub key_first-any : (a b : List ℕ) (rows : List Row) → 0 < length rows → key_first a rows ≡ key_first b rows
key_first-any a b [] h = absurd (omega arith)
key_first-any a b (r ∷ rows) h = refl

module _ (row : Row) (old new : Encoded) where
  pub one-row : old.marks ≡ [] → IsAppended row.key row old new → rows_of new row.key ≡ row ∷ []
  one-row none h =
      let no_row = rows_of-none old none row.key in
      h.rows row.key (ap (key_after row.key) no_row ∙ key_after-nil row.key) ∙ ap (λ l. l ++ row ∷ []) no_row

  pub IsBlock-one : old.marks ≡ [] → IsAppended row.key row old new → IsBlock row.key row.key new
  unfolding key_after
  IsBlock-one none h =
      let is = one-row none h in
      let mark : new.marks ≡ h.mark ∷ [] = h.marks ∙ ap (λ l. l ++ h.mark ∷ []) none in
      record {
        some = omega (arith, ap length is);
        few = omega (arith, ap length is);
        starts = ap (key_first row.key) is;
        ends = ap (key_after row.key) is;
        told = subst (λ m. TellShared row.key m (rows_of new row.key)) (sym mark) (subst (λ r. TellShared row.key (h.mark ∷ []) r) (sym is) (h.shared, tt));
      }

  pub IsBlock-push : (first last : List ℕ) → IsBlock first last old → length (rows_of old first) < 128 → IsAppended last row old new
      → IsBlock first row.key new
  IsBlock-push first last block room h =
      let rows : List Row = rows_of old first in
      let is = h.rows first block.ends in
      let shared : h.mark.shared ≡ common_len (key_after first rows) row.key = h.shared ∙ ap (λ k. common_len k row.key) (sym block.ends) in
      record {
        some = omega (arith, ap length is, length-append rows (row ∷ []));
        few = omega (arith, ap length is, length-append rows (row ∷ []));
        starts = ap (key_first first) is ∙ key_first-push first rows row block.some ∙ block.starts;
        ends = ap (key_after first) is ∙ key_after-push first rows row;
        told = subst (λ m. TellShared first m (rows_of new first)) (sym h.marks)
            (subst (λ r. TellShared first (old.marks ++ h.mark ∷ []) r) (sym is) (TellShared-push first old.marks rows h.mark row block.told shared));
      }
