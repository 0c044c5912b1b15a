-- The texts of a batch, where some of their ids are stored.
use Rattle.std.proofs.Common.{◌≡◌, ◌<◌, ◌≤◌, ◌+◌, ℕ, true, false, cond, List, [], ◌∷◌, ◌++◌, length, map, filter_map, drop, get_or, Option, None, Some, refl, sym, ap, ◌∙◌, arith, add-one, suc, append_assoc, length-append}
use Rattle.std.proofs.lemmas.List.{map-append, append-nil}
use Rattle.std.proofs.lemmas.List.Elements.{filter-append, filter_map-append}
use Rattle.std.specs.List.{AllByRecursion}
use Rattle.std.specs.Option.{option_map}
use Rattle.std.specs.Prelude.{is_none}
use Rattle.explorer_model.specs.declared.archive.Placed.{Placed}
use Rattle.explorer_model.specs.declared.fault.Refusal.{Refusal}
use Rattle.explorer_model.specs.Imports.{Candidate, Numbering}
use Rattle.ingest_desk.specs.declared.clashing.Clashing.{Clashing}
use Rattle.ingest_desk.specs.Clashes.{clashes_from, and_clash}
use Rattle.import_run.specs.Settling.{id_of, left_by, named_by, named_first, placed, repeated}
use Rattle.std.proofs.lemmas.Bool.Decides.{nat_tests}
use Rattle.std.specs.Prelude.{◌==◌}
use Rattle.std.proofs.Common.{zero}
use Rattle.plain_laws.specs.Lists.{same_cons}

-- how far the texts are named
pub record Naming (number : Numbering) (candidates : List Candidate) (rest : List (List ℕ)) (pairs : List Clashing) (at next : ℕ) (refused : List Refusal) (others : List Placed) : Type 0 where
  pub done : List Candidate
  pub left : List Candidate
  pub all : candidates ≡ done ++ left
  pub count : length done ≡ at
  pub texts : rest ≡ map (λ c. c.text) left
  pub named : refused ≡ named_by number done
  pub unnamed : others ≡ map placed (left_by number done)
  pub ahead : drop next pairs ≡ clashes_from at number (map id_of left)

pub begun : (number : Numbering) (candidates : List Candidate) (rest : List (List ℕ)) (pairs : List Clashing) → rest ≡ map (λ c. c.text) candidates → pairs ≡ clashes_from 0 number (map id_of candidates)
    → Naming number candidates rest pairs 0 0 [] []
begun number candidates rest pairs texts are = record {
  done = [];
  left = candidates;
  all = refl;
  count = refl;
  texts = texts;
  named = refl;
  unnamed = refl;
  ahead = are;
}

weaker : (at : ℕ) (pairs : List Clashing) → AllByRecursion (λ pair. at + 1 ≤ pair.place) pairs → AllByRecursion (λ pair. at ≤ pair.place) pairs
weaker at [] each = tt
weaker at (p ∷ pairs) each = (omega (arith, each.0), weaker at pairs each.1)

above_by : (at : ℕ) (o : Option ℕ) (pairs : List Clashing) → AllByRecursion (λ pair. at + 1 ≤ pair.place) pairs → AllByRecursion (λ pair. at ≤ pair.place) (and_clash at o pairs)
above_by at None pairs each = weaker at pairs each
above_by at (Some n) pairs each = (omega arith, weaker at pairs each)

above : (number : Numbering) (at : ℕ) (ids : List (List ℕ)) → AllByRecursion (λ pair. at ≤ pair.place) (clashes_from at number ids)
above number at [] = tt
above number at (id ∷ ids) = above_by at (number id) (clashes_from (at + 1) number ids) (above number (at + 1) ids)

none_first : (at : ℕ) (pairs : List Clashing) → AllByRecursion (λ pair. at + 1 ≤ pair.place) pairs → named_first at pairs ≡ None
none_first at [] each = refl
none_first at (p ∷ pairs) each = ap (λ b. cond b (Some p.number) None) (apart p.place at (omega (arith, each.0)))
  where
    apart : (m n : ℕ) → n < m → (m == n) ≡ false
    apart m n lt = grind (arith, nat_tests)

first_by : (at : ℕ) (o : Option ℕ) (pairs : List Clashing) → AllByRecursion (λ pair. at + 1 ≤ pair.place) pairs → named_first at (and_clash at o pairs) ≡ o
first_by at None pairs each = none_first at pairs each
first_by at (Some n) pairs each = ap (λ b. cond b (Some n) None) (itself at)
  where
    itself : (m : ℕ) → (m == m) ≡ true
    itself m = grind (arith, nat_tests)

pub first_number : (number : Numbering) (at : ℕ) (id : List ℕ) (ids : List (List ℕ)) → named_first at (clashes_from at number (id ∷ ids)) ≡ number id
first_number number at id ids = first_by at (number id) (clashes_from (at + 1) number ids) (above number (at + 1) ids)

pub drop-next : (pairs : List Clashing) (i : ℕ) (p : Clashing) (more : List Clashing) → drop i pairs ≡ p ∷ more → drop (i + 1) pairs ≡ more
drop-next pairs i p more e = rw add-one (by_tail pairs i p more e)
  where
    nil_cons : (x : Clashing) (xs : List Clashing) → [] ≡ x ∷ xs → ⊥
    nil_cons x xs e = cc

    tail_of : List Clashing → List Clashing
    tail_of l = drop 1 l

    by_tail : (pairs : List Clashing) (i : ℕ) (p : Clashing) (more : List Clashing) → drop i pairs ≡ p ∷ more → drop (suc i) pairs ≡ more
    by_tail [] zero p more e = absurd (nil_cons p more e)
    by_tail [] (suc i) p more e = absurd (nil_cons p more e)
    by_tail (x ∷ pairs) zero p more e = ap (drop 1) e
    by_tail (x ∷ pairs) (suc i) p more e = by_tail pairs i p more e

pub passed_by : (at : ℕ) (o : Option ℕ) (pairs : List Clashing) (next : ℕ) (more : List Clashing) (n : ℕ) → drop next pairs ≡ and_clash at o more → o ≡ Some n → drop (next + 1) pairs ≡ more
passed_by at None pairs next more n ahead is = absurd (none_some n is)
  where
    none_some : (n : ℕ) → None ≡ Some n → ⊥
    none_some n e = cc
passed_by at (Some m) pairs next more n ahead is = drop-next pairs next (record { place = at; number = m }) more ahead

named_more : (number : Numbering) (done : List Candidate) (c : Candidate) (o : Option ℕ) → number (id_of c) ≡ o
    → (named_by number (done ++ c ∷ []) ≡ named_by number done ++ filter_map (option_map (repeated c.place)) (o ∷ []))
    × (left_by number (done ++ c ∷ []) ≡ left_by number done ++ cond (is_none o) (c ∷ []) [])
named_more number done c o is = (
  filter_map-append (λ (c : Candidate). option_map (repeated c.place) (number (id_of c))) done (c ∷ [])
      ∙ ap (λ o. named_by number done ++ filter_map (option_map (repeated c.place)) (o ∷ [])) is,
  filter-append (λ (c : Candidate). is_none (number (id_of c))) done (c ∷ []) ∙ ap (λ o. left_by number done ++ cond (is_none o) (c ∷ []) []) is,
)

module _ (number : Numbering) (candidates : List Candidate) (text : List ℕ) (rest : List (List ℕ)) (pairs : List Clashing) (at next place : ℕ) (refused : List Refusal) (others : List Placed) (places : List ℕ) where
  cons_nil : (x : List ℕ) (xs : List (List ℕ)) → x ∷ xs ≡ [] → ⊥
  cons_nil x xs e = cc

  place_of : (done : List Candidate) (c : Candidate) (left : List Candidate) → get_or (map (λ (c : Candidate). c.place) (done ++ c ∷ left)) (length done) 0 ≡ c.place
  place_of [] c left = refl
  place_of (b ∷ done) c left = place_of done c left

  pub named_step : Naming number candidates (text ∷ rest) pairs at next refused others → places ≡ map (λ c. c.place) candidates → place ≡ get_or places at 0
      → (n : ℕ) → Some n ≡ named_first at (drop next pairs)
      → Naming number candidates rest pairs (at + 1) (next + 1) (refused ++ repeated place n ∷ []) others
  named_step so_far places_are here n is = by_left so_far.left so_far.all so_far.texts so_far.ahead
    where
      by_left : (left : List Candidate) → candidates ≡ so_far.done ++ left → text ∷ rest ≡ map (λ c. c.text) left → drop next pairs ≡ clashes_from at number (map id_of left)
          → Naming number candidates rest pairs (at + 1) (next + 1) (refused ++ repeated place n ∷ []) others
      by_left [] all texts ahead = absurd (cons_nil text rest texts)
      by_left (c ∷ left) all texts ahead =
          let found : number (id_of c) ≡ Some n = sym (first_number number at (id_of c) (map id_of left)) ∙ ap (named_first at) (sym ahead) ∙ sym is in
          let more = named_more number so_far.done c (Some n) found in
          let at_place : place ≡ c.place = here ∙ ap (λ l. get_or l at 0) (places_are ∙ ap (map (λ (c : Candidate). c.place)) all)
          ∙ ap (λ k. get_or (map (λ (c : Candidate). c.place) (so_far.done ++ c ∷ left)) k 0) (sym so_far.count) ∙ place_of so_far.done c left in
          record {
            done = so_far.done ++ c ∷ [];
            left = left;
            all = all ∙ sym (append_assoc so_far.done (c ∷ []) left);
            count = length-append so_far.done (c ∷ []) ∙ ap (λ k. k + 1) so_far.count;
            texts = (same_cons text c.text rest (map (λ c. c.text) left) texts).1;
            named = ap (λ l. l ++ repeated place n ∷ []) so_far.named ∙ ap (λ p. named_by number so_far.done ++ repeated p n ∷ []) at_place ∙ sym more.0;
            unnamed = so_far.unnamed ∙ ap (map placed) (sym (more.1 ∙ append-nil (left_by number so_far.done)));
            ahead = passed_by at (number (id_of c)) pairs next (clashes_from (at + 1) number (map id_of left)) n ahead found;
          }

  pub other_step : Naming number candidates (text ∷ rest) pairs at next refused others → places ≡ map (λ c. c.place) candidates → place ≡ get_or places at 0
      → None ≡ named_first at (drop next pairs)
      → Naming number candidates rest pairs (at + 1) next refused (others ++ record { place = place; bytes = text } ∷ [])
  other_step so_far places_are here is = by_left so_far.left so_far.all so_far.texts so_far.ahead
    where
      by_left : (left : List Candidate) → candidates ≡ so_far.done ++ left → text ∷ rest ≡ map (λ c. c.text) left → drop next pairs ≡ clashes_from at number (map id_of left)
          → Naming number candidates rest pairs (at + 1) next refused (others ++ record { place = place; bytes = text } ∷ [])
      by_left [] all texts ahead = absurd (cons_nil text rest texts)
      by_left (c ∷ left) all texts ahead =
          let found : number (id_of c) ≡ None = sym (first_number number at (id_of c) (map id_of left)) ∙ ap (named_first at) (sym ahead) ∙ sym is in
          let more = named_more number so_far.done c None found in
          let at_place : place ≡ c.place = here ∙ ap (λ l. get_or l at 0) (places_are ∙ ap (map (λ (c : Candidate). c.place)) all)
          ∙ ap (λ k. get_or (map (λ (c : Candidate). c.place) (so_far.done ++ c ∷ left)) k 0) (sym so_far.count) ∙ place_of so_far.done c left in
          let both = same_cons text c.text rest (map (λ c. c.text) left) texts in
          let same : record { place = place; bytes = text } ≡ placed c = λ i. record { place = at_place i; bytes = both.0 i } in
          record {
            done = so_far.done ++ c ∷ [];
            left = left;
            all = all ∙ sym (append_assoc so_far.done (c ∷ []) left);
            count = length-append so_far.done (c ∷ []) ∙ ap (λ k. k + 1) so_far.count;
            texts = both.1;
            named = so_far.named ∙ sym (more.0 ∙ append-nil (named_by number so_far.done));
            unnamed = ap (λ l. l ++ record { place = place; bytes = text } ∷ []) so_far.unnamed ∙ ap (λ (t : Placed). map placed (left_by number so_far.done) ++ t ∷ []) same
                ∙ sym (ap (map placed) more.1 ∙ map-append placed (left_by number so_far.done) (c ∷ []));
            ahead = ahead ∙ ap (λ o. and_clash at o (clashes_from (at + 1) number (map id_of left))) found;
          }

pub ended : (number : Numbering) (candidates : List Candidate) (pairs : List Clashing) (at next : ℕ) (refused : List Refusal) (others : List Placed)
    → Naming number candidates [] pairs at next refused others → (refused ≡ named_by number candidates) × (others ≡ map placed (left_by number candidates))
ended number candidates pairs at next refused others so_far = by_left so_far.left so_far.all so_far.texts
  where
    nil_cons : (x : List ℕ) (xs : List (List ℕ)) → [] ≡ x ∷ xs → ⊥
    nil_cons x xs e = cc

    by_left : (left : List Candidate) → candidates ≡ so_far.done ++ left → [] ≡ map (λ (c : Candidate). c.text) left → (refused ≡ named_by number candidates) × (others ≡ map placed (left_by number candidates))
    by_left [] all texts =
        let same = all ∙ append-nil so_far.done in
        (so_far.named ∙ ap (named_by number) (sym same), so_far.unnamed ∙ ap (λ l. map placed (left_by number l)) (sym same))
    by_left (c ∷ left) all texts = absurd (nil_cons _ _ texts)
