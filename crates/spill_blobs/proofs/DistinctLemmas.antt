-- Numbers that are marked one after another.
use Rattle.std.proofs.Common.{◌≡◌, ◌≢◌, ◌<◌, ◌+◌, ◌↔◌, ℕ, zero, suc, Bool, true, false, IsTrue, List, [], ◌∷◌, ◌++◌, length, map, take, drop, set, replicate, get_or, inl, inr, ◌⊎◌, refl, sym, ap, ◌∙◌, subst, arith, length-append, append_assoc, append-nil, true≢false}
use Rattle.std.specs.List.{Contains, flat_map}
use Rattle.std.proofs.lemmas.Bool.{cases_eq}
use Rattle.std.proofs.lemmas.List.{length-set, get_or-set_same, get_or-set_other, get_or_append_left, get_or_at, get_or_default, take-append-drop, take_more, drop_more, map-append}
use Rattle.std.proofs.lemmas.List.Concat.{flat_map-append}
use Rattle.best_lists.specs.declared.entry.Entry.{Entry}
use Rattle.tally_rows.specs.declared.row.Row.{Row}
use Rattle.std.proofs.lemmas.List.Elements.{Contains-push, Contains-push_cases, Contains-append_left}
use Rattle.std.proofs.lemmas.List.Quantifiers.{all_pairs_push}
use Rattle.spill_blobs.specs.Distinct.{AreMarked, Marks}
use Rattle.spill_blobs.specs.SoundRows.{numbers_in, AreDifferent}

-- ---- marks

all-false : (n k : ℕ) → get_or (replicate n false) k false ≡ false
all-false zero k = refl
all-false (suc n) zero = refl
all-false (suc n) (suc k) = all-false n k

-- nothing is marked at first
pub none-marked : (n : ℕ) → AreMarked (replicate n false) []
none-marked n k inside = (
  λ h. absurd (true≢false (sym h ∙ all-false n k)),
  λ h. absurd (omega (arith, h.1)),
)

module _ (marked : List Bool) (numbers : List ℕ) (y : ℕ) (inside : y < length marked) where
  pub marked-more : AreMarked marked numbers → AreMarked (set marked y true) (numbers ++ y ∷ [])
  marked-more marks n within = by (cases_eq n y)
    where
      old : n < length marked
      old = omega (arith, within, length-set marked y true)

      by : (n ≡ y) ⊎ (n ≡ y → ⊥) → IsTrue (get_or (set marked y true) n false) ↔ Contains (numbers ++ y ∷ []) n
      by (inl same) = (
        λ h. let P : ℕ → Type 0 = λ k. Contains (numbers ++ y ∷ []) k in subst P (sym same) (Contains-push numbers y),
        λ h. ap (λ k. get_or (set marked y true) k false) same ∙ get_or-set_same marked y true false inside,
      )
      by (inr other) =
          let same : get_or (set marked y true) n false ≡ get_or marked n false = get_or-set_other marked y n true false other in (
            λ h. Contains-append_left numbers (y ∷ []) n ((marks n old).0 (subst IsTrue same h)),
            λ h. subst IsTrue (sym same) ((marks n old).1 (earlier (Contains-push_cases numbers y n h))),
          )
        where
          earlier : Contains numbers n ⊎ (y ≡ n) → Contains numbers n
          earlier (inl h) = h
          earlier (inr e) = absurd (other (sym e))

  pub different-more : AreMarked marked numbers → get_or marked y false ≡ false → AreDifferent numbers → AreDifferent (numbers ++ y ∷ [])
  different-more marks off different =
      all_pairs_push (λ a b. a ≢ b) numbers y different
      (λ k d within e. true≢false (sym ((marks y inside).1 (k, within, get_or_default numbers k y d within ∙ e)) ∙ off))

  -- one that is marked stands twice, whatever comes behind
  pub twice : AreMarked marked numbers → get_or marked y false ≡ true → (rest : List ℕ) → AreDifferent (numbers ++ y ∷ rest) → ⊥
  twice marks on rest different =
      let there = (marks y inside).0 on in
      different there.0 (length numbers) y there.1 (omega (arith, length-append numbers (y ∷ rest)))
      (get_or_append_left numbers (y ∷ rest) y there.0 there.1 ∙ there.2 ∙ sym (get_or_at numbers y rest y (length numbers) refl))

-- a front of different numbers
pub different-front : (xs ys : List ℕ) → AreDifferent (xs ++ ys) → AreDifferent xs
different-front xs ys different i j d below within e =
    different i j d below (omega (arith, within, length-append xs ys))
    (get_or_append_left xs ys d i (omega arith) ∙ e ∙ sym (get_or_append_left xs ys d j within))

pub none-different : AreDifferent []
none-different i j d below within = absurd (omega arith)

-- ---- a list of entries, one after another

abbrev numbers_of : List Entry → List ℕ
numbers_of entries = map (λ (e : Entry). e.number) entries

-- what was marked, and that no number stands twice
abbrev pub IsMarked : List Bool → List ℕ → Type 0
IsMarked marked numbers = AreMarked marked numbers × AreDifferent numbers

module _ (marked : List Bool) (numbers : List ℕ) (entries : List Entry) (i : ℕ) (entry : Entry) (inside : i < length entries)
    (is : entry ≡ get_or entries i entry) where
  next-numbers : numbers_of (take (i + 1) entries) ≡ numbers_of (take i entries) ++ entry.number ∷ []
  next-numbers =
      ap numbers_of (take_more entries i entry inside ∙ ap (λ e. take i entries ++ e ∷ []) (sym is))
      ∙ map-append (λ (e : Entry). e.number) (take i entries) (entry ∷ [])

  more-numbers : numbers ++ numbers_of (take (i + 1) entries) ≡ (numbers ++ numbers_of (take i entries)) ++ entry.number ∷ []
  more-numbers = ap (λ l. numbers ++ l) next-numbers ∙ sym (append_assoc numbers (numbers_of (take i entries)) (entry.number ∷ []))

  pub mark-step : entry.number < length marked → get_or marked entry.number false ≡ false → IsMarked marked (numbers ++ numbers_of (take i entries))
      → IsMarked (set marked entry.number true) (numbers ++ numbers_of (take (i + 1) entries))
  mark-step within off old =
      subst (IsMarked (set marked entry.number true)) (sym more-numbers) (
        marked-more marked (numbers ++ numbers_of (take i entries)) entry.number within old.0,
        different-more marked (numbers ++ numbers_of (take i entries)) entry.number within old.0 off old.1,
      )

  pub mark-stop : entry.number < length marked → get_or marked entry.number false ≡ true → IsMarked marked (numbers ++ numbers_of (take i entries))
      → AreDifferent (numbers ++ numbers_of entries) → ⊥
  mark-stop within on old different =
      twice marked (numbers ++ numbers_of (take i entries)) entry.number within old.0 on (numbers_of (drop (i + 1) entries))
      (subst AreDifferent all different)
    where
      cut : entries ≡ take i entries ++ (entry ∷ drop (i + 1) entries)
      cut = sym (take-append-drop i entries) ∙ ap (λ l. take i entries ++ l) (drop_more entries i entry inside ∙ ap (λ e. e ∷ drop (i + 1) entries) (sym is))

      all : numbers ++ numbers_of entries ≡ (numbers ++ numbers_of (take i entries)) ++ entry.number ∷ numbers_of (drop (i + 1) entries)
      all =
          ap (λ l. numbers ++ numbers_of l) cut
          ∙ ap (λ l. numbers ++ l) (map-append (λ (e : Entry). e.number) (take i entries) (entry ∷ drop (i + 1) entries))
          ∙ sym (append_assoc numbers (numbers_of (take i entries)) (entry.number ∷ numbers_of (drop (i + 1) entries)))

-- what marking a list says, by its answer
pub marks-true : (b : Bool) (marked : List Bool) (numbers : List ℕ) → b ≡ true → Marks b marked numbers → IsMarked marked numbers
marks-true true marked numbers is marks = marks
marks-true false marked numbers is marks = absurd (true≢false (sym is))

pub marks-false : (b : Bool) (marked : List Bool) (numbers : List ℕ) → b ≡ false → Marks b marked numbers → AreDifferent numbers → ⊥
marks-false true marked numbers is marks = absurd (true≢false is)
marks-false false marked numbers is marks = marks

-- ---- rows, one after another

module _ (list : Row → List Entry) (rows : List Row) (i : ℕ) (row : Row) (inside : i < length rows) (is : row ≡ get_or rows i row) where
  pub row-numbers : numbers_in list (take (i + 1) rows) ≡ numbers_in list (take i rows) ++ numbers_of (list row)
  row-numbers =
      ap (numbers_in list) (take_more rows i row inside ∙ ap (λ r. take i rows ++ r ∷ []) (sym is))
      ∙ ap numbers_of (flat_map-append list (take i rows) (row ∷ []) ∙ ap (λ l. flat_map list (take i rows) ++ l) (append-nil (list row)))
      ∙ map-append (λ (e : Entry). e.number) (flat_map list (take i rows)) (list row)

  -- the lists of one row more are marked, where none of its games was
  pub row-more : (before old new : List Bool) (result : Bool) (entries : List Entry) → before ≡ old → entries ≡ list row
      → ((numbers : List ℕ) → AreMarked before numbers → AreDifferent numbers → Marks result new (numbers ++ numbers_of entries)) → result ≡ true
      → IsMarked old (numbers_in list (take i rows)) → IsMarked new (numbers_in list (take (i + 1) rows))
  row-more before old new result entries before_is entries_are marks is marked =
      subst (IsMarked new) (sym row-numbers)
      (subst (λ (es : List Entry). IsMarked new (numbers_in list (take i rows) ++ numbers_of es)) entries_are
      (marks-true result new (numbers_in list (take i rows) ++ numbers_of entries) is
      (marks (numbers_in list (take i rows)) (subst (λ (m : List Bool). AreMarked m (numbers_in list (take i rows))) (sym before_is) marked.0) marked.1)))

  pub row-stop : (AreDifferent (numbers_in list (take i rows) ++ numbers_of (list row)) → ⊥) → AreDifferent (numbers_in list rows) → ⊥
  row-stop stop different =
      stop (subst AreDifferent row-numbers (different-front (numbers_in list (take (i + 1) rows)) (numbers_in list (drop (i + 1) rows))
      (subst AreDifferent cut different)))
    where
      cut : numbers_in list rows ≡ numbers_in list (take (i + 1) rows) ++ numbers_in list (drop (i + 1) rows)
      cut =
          ap (numbers_in list) (sym (take-append-drop (i + 1) rows))
          ∙ ap numbers_of (flat_map-append list (take (i + 1) rows) (drop (i + 1) rows))
          ∙ map-append (λ (e : Entry). e.number) (flat_map list (take (i + 1) rows)) (flat_map list (drop (i + 1) rows))

  -- some game of the row was
  pub row-none : (before old new : List Bool) (result : Bool) (entries : List Entry) → before ≡ old → entries ≡ list row
      → ((numbers : List ℕ) → AreMarked before numbers → AreDifferent numbers → Marks result new (numbers ++ numbers_of entries)) → result ≡ false
      → IsMarked old (numbers_in list (take i rows)) → AreDifferent (numbers_in list rows) → ⊥
  row-none before old new result entries before_is entries_are marks is marked =
      row-stop (subst (λ (es : List Entry). AreDifferent (numbers_in list (take i rows) ++ numbers_of es) → ⊥) entries_are
      (marks-false result new (numbers_in list (take i rows) ++ numbers_of entries) is
      (marks (numbers_in list (take i rows)) (subst (λ (m : List Bool). AreMarked m (numbers_in list (take i rows))) (sym before_is) marked.0) marked.1)))
