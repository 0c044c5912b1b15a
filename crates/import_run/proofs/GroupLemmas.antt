-- Whole groups and what follows them are the groups of all of their cuts.
use Rattle.std.proofs.Common.{◌≡◌, ℕ, ◌+◌, ◌-◌, ◌/◌, ◌<◌, ◌≤◌, ◌==◌, min, Bool, true, false, cond, List, [], ◌∷◌, ◌++◌, length, map, filter, count_by, if◌then◌else◌, refl, sym, ap, ◌∙◌, append_assoc, add-one, arith, zero, suc}
use Rattle.std.specs.List.{AllByRecursion, flat_map, range_with_len}
use Rattle.std.proofs.lemmas.Bool.{eq-eqb, ne_eqb, eqb-true, eqb-false}
use Rattle.std.proofs.lemmas.List.{append-nil}
use Rattle.std.proofs.lemmas.List.Sums.{sum_by-append, sum_by-cons}
use Rattle.explorer_model.specs.Cuts.{Cut, Text, TooLong, Preamble}
use Rattle.explorer_model.specs.declared.archive.Placed.{Placed}
use Rattle.explorer_model.specs.Imports.{is_text, numbered, group_number, group_at, group_count, groups}
use Rattle.import_run.specs.SoFar.{IsWhole}

abbrev pub texts_in : List Cut → ℕ
texts_in cuts = count_by is_text cuts

abbrev one_if : Cut → ℕ
one_if cut = cond (is_text cut) 1 0

pub texts-append : (cuts more : List Cut) → texts_in (cuts ++ more) ≡ texts_in cuts + texts_in more
texts-append cuts more = sum_by-append one_if cuts more

pub texts-cons : (cut : Cut) (cuts : List Cut) → texts_in (cut ∷ cuts) ≡ one_if cut + texts_in cuts
texts-cons cut cuts = sum_by-cons one_if cut cuts

pub some_cuts : (cuts : List Cut) → 0 < texts_in cuts → 0 < length cuts
some_cuts [] some = absurd (omega arith)
some_cuts (cut ∷ cuts) some = omega arith

-- ---- cuts picked by the number of texts before them

abbrev next : ℕ → Cut → ℕ
next n cut = if is_text cut then n + 1 else n

next_is : (n : ℕ) (cut : Cut) → next n cut ≡ n + one_if cut
next_is n (Text text) = refl
next_is n (TooLong place long) = omega arith
next_is n (Preamble place) = omega arith

abbrev pick : (ℕ → Bool) → ℕ → List Cut → List Cut
pick p n cuts = map (λ x. x.1) (filter (λ x. p x.0) (numbered n cuts))

picked : (b : Bool) (n : ℕ) (cut : Cut) (rest : List (ℕ × Cut)) → map (λ (x : ℕ × Cut). x.1) (cond b ((n, cut) ∷ rest) rest) ≡ cond b (cut ∷ map (λ x. x.1) rest) (map (λ x. x.1) rest)
picked true n cut rest = refl
picked false n cut rest = refl

pick-yes : (p : ℕ → Bool) (n : ℕ) (cut : Cut) (cuts : List Cut) → p n ≡ true → pick p n (cut ∷ cuts) ≡ cut ∷ pick p (next n cut) cuts
pick-yes p n cut cuts is = picked (p n) n cut (filter (λ x. p x.0) (numbered (next n cut) cuts)) ∙ ap (λ (b : Bool). cond b (cut ∷ pick p (next n cut) cuts) (pick p (next n cut) cuts)) is

pick-no : (p : ℕ → Bool) (n : ℕ) (cut : Cut) (cuts : List Cut) → p n ≡ false → pick p n (cut ∷ cuts) ≡ pick p (next n cut) cuts
pick-no p n cut cuts is = picked (p n) n cut (filter (λ x. p x.0) (numbered (next n cut) cuts)) ∙ ap (λ (b : Bool). cond b (cut ∷ pick p (next n cut) cuts) (pick p (next n cut) cuts)) is

pick_all : (p : ℕ → Bool) (n : ℕ) (cuts : List Cut) → ((k : ℕ) → n ≤ k → k ≤ n + texts_in cuts → p k ≡ true) → pick p n cuts ≡ cuts
pick_all p n [] each = refl
pick_all p n (cut ∷ cuts) each =
    let step = next_is n cut in
    let all = texts-cons cut cuts in
    pick-yes p n cut cuts (each n (omega arith) (omega arith))
    ∙ ap (λ (rest : List Cut). cut ∷ rest) (pick_all p (next n cut) cuts (λ k low high. each k (omega (arith, step)) (omega (arith, step, all))))

pick_none : (p : ℕ → Bool) (n : ℕ) (cuts : List Cut) → ((k : ℕ) → n ≤ k → k ≤ n + texts_in cuts → p k ≡ false) → pick p n cuts ≡ []
pick_none p n [] each = refl
pick_none p n (cut ∷ cuts) each =
    let step = next_is n cut in
    let all = texts-cons cut cuts in
    pick-no p n cut cuts (each n (omega arith) (omega arith))
    ∙ pick_none p (next n cut) cuts (λ k low high. each k (omega (arith, step)) (omega (arith, step, all)))

append_by : (p : ℕ → Bool) (n : ℕ) (cut : Cut) (cuts more more' : List Cut) (b : Bool) → p n ≡ b → pick p (next n cut) (cuts ++ more) ≡ pick p (next n cut) cuts ++ more' → pick p n (cut ∷ (cuts ++ more)) ≡ pick p n (cut ∷ cuts) ++ more'
append_by p n cut cuts more more' true is rest = pick-yes p n cut (cuts ++ more) is ∙ ap (λ (l : List Cut). cut ∷ l) rest ∙ ap (λ (l : List Cut). l ++ more') (sym (pick-yes p n cut cuts is))
append_by p n cut cuts more more' false is rest = pick-no p n cut (cuts ++ more) is ∙ rest ∙ ap (λ (l : List Cut). l ++ more') (sym (pick-no p n cut cuts is))

pick-append : (p : ℕ → Bool) (n : ℕ) (cuts more : List Cut) → pick p n (cuts ++ more) ≡ pick p n cuts ++ pick p (n + texts_in cuts) more
pick-append p n [] more = ap (λ (k : ℕ). pick p k more) (omega arith)
pick-append p n (cut ∷ cuts) more =
    append_by p n cut cuts more (pick p (n + texts_in (cut ∷ cuts)) more) (p n) refl
    (pick-append p (next n cut) cuts more ∙ ap (λ (k : ℕ). pick p (next n cut) cuts ++ pick p k more) (omega (arith, next_is n cut, texts-cons cut cuts)))

shift_by : (p q : ℕ → Bool) (n m : ℕ) (cut : Cut) (cuts : List Cut) (b : Bool) → q m ≡ b → p n ≡ q m → pick p (next n cut) cuts ≡ pick q (next m cut) cuts → pick p n (cut ∷ cuts) ≡ pick q m (cut ∷ cuts)
shift_by p q n m cut cuts true is here rest = pick-yes p n cut cuts (here ∙ is) ∙ ap (λ (l : List Cut). cut ∷ l) rest ∙ sym (pick-yes q m cut cuts is)
shift_by p q n m cut cuts false is here rest = pick-no p n cut cuts (here ∙ is) ∙ rest ∙ sym (pick-no q m cut cuts is)

pick_shift : (p q : ℕ → Bool) (n m : ℕ) (cuts : List Cut) → ((k : ℕ) → p (n + k) ≡ q (m + k)) → pick p n cuts ≡ pick q m cuts
pick_shift p q n m [] same = refl
pick_shift p q n m (cut ∷ cuts) same =
    let at : n ≡ n + 0 = omega arith in
    let there : m + 0 ≡ m = omega arith in
    shift_by p q n m cut cuts (q m) refl (ap p at ∙ same 0 ∙ ap q there)
    (pick_shift p q (next n cut) (next m cut) cuts (λ k.
    let from : next n cut + k ≡ n + (one_if cut + k) = omega (arith, next_is n cut) in
    let to : m + (one_if cut + k) ≡ next m cut + k = omega (arith, next_is m cut) in
    ap p from ∙ same (one_if cut + k) ∙ ap q to))

-- ---- ranges

range_more : (a n : ℕ) → range_with_len a (n + 1) ≡ a ∷ range_with_len (a + 1) n
range_more a n = rw add-one

range_shift : (f g : ℕ → List Cut) (a n : ℕ) → ((k : ℕ) → f (k + 1) ≡ g k) → map f (range_with_len (a + 1) n) ≡ map g (range_with_len a n)
range_shift f g a zero same = refl
range_shift f g a (suc n) same =
    ap (λ (first : List Cut). first ∷ map f (range_with_len (a + 1 + 1) n)) (same a)
    ∙ ap (λ (rest : List (List Cut)). g a ∷ rest) (range_shift f g (a + 1) n same)

-- ---- groups

count_of : (cuts : List Cut) → 0 < length cuts → group_count cuts ≡ (texts_in cuts - 1) / 512 + 1
count_of [] some = absurd (omega arith)
count_of (cut ∷ cuts) some = refl

in_group : (n k g : ℕ) → min k (n - 1) / 512 ≡ g → (group_number n k == g) ≡ true
in_group n k g is = eq-eqb _ _ is

-- cuts with few texts are one group
pub groups_one : (cuts : List Cut) → 0 < length cuts → texts_in cuts ≤ 512 → groups cuts ≡ cuts ∷ []
unfolding groups
groups_one cuts some few =
    let one : group_count cuts ≡ 0 + 1 = omega (arith, count_of cuts some) in
    ap (λ (n : ℕ). map (group_at cuts) (range_with_len 0 n)) one
    ∙ ap (map (group_at cuts)) (range_more 0 0)
    ∙ ap (λ (group : List Cut). group ∷ []) (pick_all (λ n. group_number (texts_in cuts) n == 0) 0 cuts (λ k low high. in_group (texts_in cuts) k 0 (omega arith)))

module _ (front : List Cut) (text : Placed) (n : ℕ) (full : texts_in front ≡ 511) (rest : List Cut) (size : texts_in ((front ++ Text text ∷ []) ++ rest) ≡ 512 + n) where
  whole : texts_in (front ++ Text text ∷ []) ≡ 512
  whole = omega (arith, texts-append front (Text text ∷ []), texts-cons (Text text) [])

  split : (p : ℕ → Bool) → pick p 0 ((front ++ Text text ∷ []) ++ rest) ≡ (pick p 0 front ++ pick p 511 (Text text ∷ [])) ++ pick p 512 rest
  split p =
      pick-append p 0 (front ++ Text text ∷ []) rest
      ∙ ap (λ (l : List Cut). l ++ pick p (0 + texts_in (front ++ Text text ∷ [])) rest) (pick-append p 0 front (Text text ∷ []) ∙ ap (λ (k : ℕ). pick p 0 front ++ pick p k (Text text ∷ [])) (omega arith))
      ∙ ap (λ (k : ℕ). (pick p 0 front ++ pick p 511 (Text text ∷ [])) ++ pick p k rest) (omega (arith, whole))

  pick_first : (p : ℕ → Bool) → ((k : ℕ) → k ≤ 511 → p k ≡ true) → ((k : ℕ) → 512 ≤ k → p k ≡ false) → pick p 0 ((front ++ Text text ∷ []) ++ rest) ≡ front ++ Text text ∷ []
  pick_first p low high =
      split p
      ∙ ap (λ (l : List Cut). (l ++ pick p 511 (Text text ∷ [])) ++ pick p 512 rest) (pick_all p 0 front (λ k a b. low k (omega arith)))
      ∙ ap (λ (l : List Cut). (front ++ l) ++ pick p 512 rest) (pick-yes p 511 (Text text) [] (low 511 (omega arith)))
      ∙ ap (λ (l : List Cut). (front ++ Text text ∷ []) ++ l) (pick_none p 512 rest (λ k a b. high k (omega arith)))
      ∙ append-nil (front ++ Text text ∷ [])

  pick_later : (p : ℕ → Bool) → ((k : ℕ) → k ≤ 511 → p k ≡ false) → pick p 0 ((front ++ Text text ∷ []) ++ rest) ≡ pick p 512 rest
  pick_later p low =
      split p
      ∙ ap (λ (l : List Cut). (l ++ pick p 511 (Text text ∷ [])) ++ pick p 512 rest) (pick_none p 0 front (λ k a b. low k (omega arith)))
      ∙ ap (λ (l : List Cut). l ++ pick p 512 rest) (pick-no p 511 (Text text) [] (low 511 (omega arith)))

abbrev joined : List Cut → Placed → List Cut → List Cut
joined front text rest = (front ++ Text text ∷ []) ++ rest

-- the groups of a whole group and of cuts with a text behind it
first_full : (front : List Cut) (text : Placed) (rest : List Cut) → texts_in front ≡ 511 → 0 < texts_in rest → groups (joined front text rest) ≡ (front ++ Text text ∷ []) ∷ groups rest
unfolding groups
first_full front text rest full some =
    ap (λ (n : ℕ). map (group_at (joined front text rest)) (range_with_len 0 n)) count
    ∙ ap (map (group_at (joined front text rest))) (range_more 0 (group_count rest))
    ∙ ap (λ (group : List Cut). group ∷ map (group_at (joined front text rest)) (range_with_len (0 + 1) (group_count rest))) first
    ∙ ap (λ (later : List (List Cut)). (front ++ Text text ∷ []) ∷ later) (range_shift (group_at (joined front text rest)) (group_at rest) 0 (group_count rest) next_group)
  where
    size : texts_in (joined front text rest) ≡ 512 + texts_in rest
    size = omega (arith, full, texts-append (front ++ Text text ∷ []) rest, texts-append front (Text text ∷ []), texts-cons (Text text) [])

    count : group_count (joined front text rest) ≡ group_count rest + 1
    count = omega (arith, size, count_of (joined front text rest) (some_cuts (joined front text rest) (omega (arith, size))), count_of rest (some_cuts rest some))

    first : group_at (joined front text rest) 0 ≡ front ++ Text text ∷ []
    first = pick_first front text (texts_in rest) full rest size (λ n. group_number (texts_in (joined front text rest)) n == 0)
        (λ k low. eq-eqb _ _ (omega (arith, size))) (λ k high. ne_eqb _ _ (λ is. omega (arith, size, is)))

    same_number : (g k : ℕ) → (group_number (texts_in (joined front text rest)) (512 + k) == (g + 1)) ≡ (group_number (texts_in rest) (0 + k) == g)
    same_number g k = by_test (group_number (texts_in rest) (0 + k) == g) refl
      where
        by_test : (b : Bool) → (group_number (texts_in rest) (0 + k) == g) ≡ b → (group_number (texts_in (joined front text rest)) (512 + k) == (g + 1)) ≡ b
        by_test true is = eq-eqb _ _ (let same = eqb-true _ _ is in omega (arith, size, some, same))
        by_test false is = ne_eqb _ _ (λ same. eqb-false _ _ is (omega (arith, size, some, same)))

    next_group : (g : ℕ) → group_at (joined front text rest) (g + 1) ≡ group_at rest g
    next_group g =
        pick_later front text (texts_in rest) full rest size (λ n. group_number (texts_in (joined front text rest)) n == (g + 1)) (λ k low. ne_eqb _ _ (λ is. omega (arith, size, is)))
        ∙ pick_shift (λ n. group_number (texts_in (joined front text rest)) n == (g + 1)) (λ n. group_number (texts_in rest) n == g) 512 0 rest (same_number g)

pub groups_first : (group rest : List Cut) → IsWhole group → 0 < texts_in rest → groups (group ++ rest) ≡ group ∷ groups rest
groups_first group rest full some =
    ap (λ (g : List Cut). groups (g ++ rest)) full.ends
    ∙ first_full full.front full.text rest full.texts some
    ∙ ap (λ (g : List Cut). g ∷ groups rest) (sym full.ends)

abbrev pub all_cuts : List (List Cut) → List Cut
all_cuts closed = flat_map (λ (group : List Cut). group) closed

pub groups_closed : (closed : List (List Cut)) (rest : List Cut) → AllByRecursion IsWhole closed → 0 < texts_in rest → groups (all_cuts closed ++ rest) ≡ closed ++ groups rest
groups_closed [] rest full some = refl
groups_closed (group ∷ closed) rest full some =
    ap groups (append_assoc group (all_cuts closed) rest)
    ∙ groups_first group (all_cuts closed ++ rest) full.0 (omega (arith, texts-append (all_cuts closed) rest, some))
    ∙ ap (λ (later : List (List Cut)). group ∷ later) (groups_closed closed rest full.1 some)

pub texts_whole : (group : List Cut) → IsWhole group → texts_in group ≡ 512
texts_whole group full = ap texts_in full.ends ∙ omega (arith, full.texts, texts-append full.front (Text full.text ∷ []), texts-cons (Text full.text) [])
