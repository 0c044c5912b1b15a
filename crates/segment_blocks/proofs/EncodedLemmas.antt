-- Rows of marks, one mark at a time.
use Rattle.std.proofs.Common.{◌≡◌, ℕ, ◌≤◌, false, List, [], ◌∷◌, ◌++◌, Option, Some, None, length, take, drop, cond, refl, sym, ap, subst, ◌∙◌, arith}
use Rattle.std.specs.List.{sum_by}
use Rattle.std.proofs.lemmas.List.{length-drop, length-take-le, take_all, take-append-le, drop-append-le}
use Rattle.std.proofs.lemmas.List.Sums.{sum_by-cons}
use Rattle.explorer_model.specs.declared.archive.Outcome.{Outcome}
use Rattle.tally_rows.specs.declared.row.Row.{Row}
use Rattle.tally_rows.specs.declared.single.Single.{Single}
use Rattle.tally_rows.specs.Row.{row_of}
use Rattle.segment_blocks.specs.declared.mark.Mark.{Mark}
use Rattle.segment_blocks.specs.Encoded.{Encoded, own_len, kept_len, key_behind, single_of, rows_by, rows_behind, rows_of, key_after, IsFilled, HasOwnKey}
use Rattle.std.specs.Option.{is_none}

pub row_of-key : (s : Single) → (row_of s).key ≡ s.row_key.key
unfolding row_of
row_of-key s = refl

pub key-game : (key : List ℕ) (mark : Mark) (outcome : Outcome) → (row_of (single_of key mark outcome)).key ≡ key
unfolding row_of
key-game key mark outcome = refl

pub rows_behind-nil : (marks : List Mark) (before tails : List ℕ) (whole : List Row) → length marks ≡ 0 → rows_behind marks before tails whole ≡ []
unfolding rows_behind
rows_behind-nil [] before tails whole e = refl
rows_behind-nil (mark ∷ marks) before tails whole e = absurd (omega arith)

pub rows_of-none : (encoded : Encoded) → encoded.marks ≡ [] → (first : List ℕ) → rows_of encoded first ≡ []
rows_of-none encoded none first = rows_behind-nil encoded.marks first encoded.tails encoded.whole (ap length none)

pub rows_behind-cons : (mark : Mark) (marks : List Mark) (before tails : List ℕ) (whole : List Row)
    → rows_behind (mark ∷ marks) before tails whole ≡ rows_by mark.outcome mark before tails whole (rows_behind marks)
unfolding rows_behind
rows_behind-cons mark marks before tails whole = refl

module _ (mark : Mark) (marks rest : List Mark) (before tails : List ℕ) (whole : List Row) (is : marks ≡ mark ∷ rest) where
  pub rows_behind-game : (outcome : Outcome) → mark.outcome ≡ Some outcome
      → rows_behind marks before tails whole
      ≡ row_of (single_of (key_behind before mark tails) mark outcome) ∷ rows_behind rest (key_behind before mark tails) (drop (own_len mark) tails) whole
  unfolding rows_by
  rows_behind-game outcome e =
      ap (λ m. rows_behind m before tails whole) is ∙ rows_behind-cons mark rest before tails whole
      ∙ ap (λ o. rows_by o mark before tails whole (rows_behind rest)) e

  pub rows_behind-whole : (row : Row) (others : List Row) → mark.outcome ≡ None → whole ≡ row ∷ others
      → rows_behind marks before tails whole ≡ row ∷ rows_behind rest row.key tails others
  unfolding rows_by
  rows_behind-whole row others e whole_is =
      ap (λ m. rows_behind m before tails whole) is ∙ rows_behind-cons mark rest before tails whole
      ∙ ap (λ o. rows_by o mark before tails whole (rows_behind rest)) e
      ∙ ap (λ w. rows_by None mark before tails w (rows_behind rest)) whole_is

-- ---- a key that is the next row's own already

module _ (key : List ℕ) (mark : Mark) (tails : List ℕ) where
  pub own-first : (n : ℕ) → n ≤ length key → (ys : List ℕ) → take n (take n key ++ ys) ≡ take n key
  own-first n fits ys =
      take-append-le n (take n key) ys (omega (arith, length-take-le n key fits)) ∙ take_all n (take n key) (omega (arith, length-take-le n key fits))

  pub key_behind-again : length key ≡ 34 → mark.shared ≤ 34 → key_behind (key_behind key mark tails) mark tails ≡ key_behind key mark tails
  key_behind-again long within = ap (λ l. l ++ take (own_len mark) tails) (own-first mark.shared (omega (arith, long, within)) (take (own_len mark) tails))

  module _ (marks rest : List Mark) (is : marks ≡ mark ∷ rest) (whole : List Row) where
    module _ (outcome : Outcome) (e : mark.outcome ≡ Some outcome) where
      pub own-known : HasOwnKey key (rows_behind marks key tails whole) → key_behind key mark tails ≡ key
      own-known h =
          sym (key-game (key_behind key mark tails) mark outcome)
          ∙ subst (λ r. HasOwnKey key r) (rows_behind-game mark marks rest key tails whole is outcome e) h

      module _ (long : length key ≡ 34) (within : mark.shared ≤ 34) where
        pub rows_behind-own : rows_behind marks (key_behind key mark tails) tails whole ≡ rows_behind marks key tails whole
        rows_behind-own =
            rows_behind-game mark marks rest (key_behind key mark tails) tails whole is outcome e
            ∙ ap (λ k. row_of (single_of k mark outcome) ∷ rows_behind rest k (drop (own_len mark) tails) whole) (key_behind-again long within)
            ∙ sym (rows_behind-game mark marks rest key tails whole is outcome e)

        pub own-behind : HasOwnKey (key_behind key mark tails) (rows_behind marks (key_behind key mark tails) tails whole)
        own-behind =
            subst (λ r. HasOwnKey (key_behind key mark tails) r) (sym (rows_behind-own ∙ rows_behind-game mark marks rest key tails whole is outcome e))
            (key-game (key_behind key mark tails) mark outcome)

    module _ (row : Row) (others : List Row) (e : mark.outcome ≡ None) (whole_is : whole ≡ row ∷ others) where
      pub whole-known : HasOwnKey key (rows_behind marks key tails whole) → row.key ≡ key
      whole-known h = subst (λ r. HasOwnKey key r) (rows_behind-whole mark marks rest key tails whole is row others e whole_is) h

      pub rows_behind-taken : rows_behind marks row.key tails whole ≡ rows_behind marks key tails whole
      rows_behind-taken =
          rows_behind-whole mark marks rest row.key tails whole is row others e whole_is ∙ sym (rows_behind-whole mark marks rest key tails whole is row others e whole_is)

      pub own-taken : HasOwnKey row.key (rows_behind marks row.key tails whole)
      own-taken = subst (λ r. HasOwnKey row.key r) (sym (rows_behind-whole mark marks rest row.key tails whole is row others e whole_is)) refl

-- ---- what is filled

pub kept-game : (mark : Mark) → is_none mark.outcome ≡ false → kept_len mark ≡ own_len mark
kept-game mark some = ap (λ b. cond b 0 (own_len mark)) some

pub kept-whole : (mark : Mark) → mark.outcome ≡ None → kept_len mark ≡ 0
kept-whole mark e = ap (λ o. cond (is_none o) 0 (own_len mark)) e

module _ (mark : Mark) (marks : List Mark) (tails : List ℕ) (h_tails : length tails ≡ sum_by kept_len (mark ∷ marks)) (outcome : Outcome) (e : mark.outcome ≡ Some outcome) where
  own-fits : own_len mark ≤ length tails
  own-fits = omega (arith, h_tails, sum_by-cons kept_len mark marks, kept-game mark (ap is_none e))

  rest-ends : length (drop (own_len mark) tails) ≡ sum_by kept_len marks
  rest-ends = omega (arith, h_tails, sum_by-cons kept_len mark marks, kept-game mark (ap is_none e), length-drop (own_len mark) tails)

abbrev pub none_count : Mark → ℕ
none_count mark = cond (is_none mark.outcome) 1 0

pub IsFilled-game : (mark : Mark) (marks : List Mark) (tails : List ℕ) (whole : List Row) (outcome : Outcome) → mark.outcome ≡ Some outcome
    → IsFilled (mark ∷ marks) tails whole → IsFilled marks (drop (own_len mark) tails) whole
IsFilled-game mark marks tails whole outcome e h =
    let zero_here : none_count mark ≡ 0 = ap (λ o. cond (is_none o) 1 0) e in
    record { ends = rest-ends mark marks tails h.ends outcome e; rows = omega (arith, zero_here, h.rows, sum_by-cons none_count mark marks) }

pub IsFilled-whole : (mark : Mark) (marks : List Mark) (tails : List ℕ) (row : Row) (whole : List Row) → mark.outcome ≡ None
    → IsFilled (mark ∷ marks) tails (row ∷ whole) → IsFilled marks tails whole
IsFilled-whole mark marks tails row whole e h =
    let one_here : none_count mark ≡ 1 = ap (λ o. cond (is_none o) 1 0) e in
    record { ends = omega (arith, h.ends, sum_by-cons kept_len mark marks, kept-whole mark e); rows = omega (arith, one_here, h.rows, sum_by-cons none_count mark marks) }

IsFilled-missing : {P : Type 0} (mark : Mark) (marks : List Mark) (tails : List ℕ) → mark.outcome ≡ None → IsFilled (mark ∷ marks) tails [] → P
IsFilled-missing mark marks tails e h =
    let one_here : none_count mark ≡ 1 = ap (λ o. cond (is_none o) 1 0) e in
    absurd (omega (arith, one_here, h.rows, sum_by-cons none_count mark marks))

-- ---- rows behind others

pub key_after-cons : (before : List ℕ) (row : Row) (rows : List Row) → key_after before (row ∷ rows) ≡ key_after row.key rows
unfolding key_after
key_after-cons before row rows = refl

pub rows_behind-append : (marks more : List Mark) (before tails own : List ℕ) (whole others : List Row) → IsFilled marks tails whole
    → rows_behind (marks ++ more) before (tails ++ own) (whole ++ others)
    ≡ rows_behind marks before tails whole ++ rows_behind more (key_after before (rows_behind marks before tails whole)) own others
unfolding rows_behind key_after
rows_behind-append [] more before [] own [] others h = refl
rows_behind-append [] more before (t ∷ tails) own whole others h = absurd (omega (arith, h.ends))
rows_behind-append [] more before [] own (row ∷ whole) others h = absurd (omega (arith, h.rows))
rows_behind-append (mark ∷ marks) more before tails own whole others h =
    by (λ before tails whole h. rows_behind-append marks more before tails own whole others h) mark.outcome refl whole h
  where
    Rest : Type 0
    Rest = (before tails : List ℕ) (whole : List Row) → IsFilled marks tails whole
        → rows_behind (marks ++ more) before (tails ++ own) (whole ++ others)
        ≡ rows_behind marks before tails whole ++ rows_behind more (key_after before (rows_behind marks before tails whole)) own others

    n : ℕ
    n = own_len mark

    fits : (outcome : Outcome) → mark.outcome ≡ Some outcome → n ≤ length tails
    fits outcome e = own-fits mark marks tails h.ends outcome e

    key_is : (outcome : Outcome) → mark.outcome ≡ Some outcome → key_behind before mark (tails ++ own) ≡ key_behind before mark tails
    key_is outcome e = ap (λ l. take mark.shared before ++ l) (take-append-le n tails own (fits outcome e))

    rest_is : (outcome : Outcome) → mark.outcome ≡ Some outcome → drop n (tails ++ own) ≡ drop n tails ++ own
    rest_is outcome e = drop-append-le n tails own (fits outcome e)

    behind : List Row → List Row
    behind rows = rows ++ rows_behind more (key_after before rows) own others

    by : Rest → (o : Option Outcome) → mark.outcome ≡ o → (whole : List Row) → IsFilled (mark ∷ marks) tails whole
        → rows_behind (mark ∷ (marks ++ more)) before (tails ++ own) (whole ++ others) ≡ behind (rows_behind (mark ∷ marks) before tails whole)
    by next (Some outcome) e whole h =
        let key = key_behind before mark tails in
        let row = row_of (single_of key mark outcome) in
        let rows = rows_behind marks key (drop n tails) whole in
        rows_behind-game mark (mark ∷ (marks ++ more)) (marks ++ more) before (tails ++ own) (whole ++ others) refl outcome e
        ∙ (λ i. row_of (single_of (key_is outcome e i) mark outcome) ∷ rows_behind (marks ++ more) (key_is outcome e i) (rest_is outcome e i) (whole ++ others))
        ∙ ap (λ l. row ∷ l) (next key (drop n tails) whole (IsFilled-game mark marks tails whole outcome e h))
        ∙ ap (λ k. row ∷ (rows ++ rows_behind more (key_after k rows) own others)) (sym (key-game key mark outcome))
        ∙ sym (ap behind (rows_behind-game mark (mark ∷ marks) marks before tails whole refl outcome e))
    by next None e [] h = IsFilled-missing mark marks tails e h
    by next None e (row ∷ whole) h =
        rows_behind-whole mark (mark ∷ (marks ++ more)) (marks ++ more) before (tails ++ own) (row ∷ (whole ++ others)) refl row (whole ++ others) e refl
        ∙ ap (λ l. row ∷ l) (next row.key tails whole (IsFilled-whole mark marks tails row whole e h))
        ∙ sym (ap behind (rows_behind-whole mark (mark ∷ marks) marks before tails (row ∷ whole) refl row whole e refl))

pub length-rows_behind : (marks : List Mark) (before tails : List ℕ) (whole : List Row) → IsFilled marks tails whole
    → length (rows_behind marks before tails whole) ≡ length marks
unfolding rows_behind
length-rows_behind [] before tails whole h = refl
length-rows_behind (mark ∷ marks) before tails whole h = by (λ before tails whole h. length-rows_behind marks before tails whole h) mark.outcome refl whole h
  where
    by : ((before tails : List ℕ) (whole : List Row) → IsFilled marks tails whole → length (rows_behind marks before tails whole) ≡ length marks) → (o : Option Outcome) → mark.outcome ≡ o → (whole : List Row) → IsFilled (mark ∷ marks) tails whole
        → length (rows_behind (mark ∷ marks) before tails whole) ≡ length (mark ∷ marks)
    by next (Some outcome) e whole h =
        let key = key_behind before mark tails in
        ap length (rows_behind-game mark (mark ∷ marks) marks before tails whole refl outcome e)
        ∙ omega (arith, next key (drop (own_len mark) tails) whole (IsFilled-game mark marks tails whole outcome e h))
    by next None e [] h = IsFilled-missing mark marks tails e h
    by next None e (row ∷ whole) h =
        ap length (rows_behind-whole mark (mark ∷ marks) marks before tails (row ∷ whole) refl row whole e refl)
        ∙ omega (arith, next row.key tails whole (IsFilled-whole mark marks tails row whole e h))
