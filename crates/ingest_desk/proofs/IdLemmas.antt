-- Numbers of ids, and which of a batch's ids have one.
use Rattle.std.proofs.Common.{◌≡◌, ◌<◌, ◌+◌, ℕ, Bool, true, false, cond, List, [], ◌∷◌, ◌++◌, length, take, get_or, Option, None, Some, refl, sym, ap, ◌∙◌, subst, arith, add-zero, add-one}
use Rattle.std.proofs.lemmas.List.{map_more, length-map, length-take-le, get_or-take, get_or_default}
use Rattle.std.proofs.lemmas.Slice.Eq.{bytes_eq-Decides}
use Rattle.std.specs.List.{All}
use Rattle.std.specs.Option.{option_or}
use Rattle.std.specs.Prelude.{bytes_eq, Result, Ok, Err, IsOk, OnOk}
use Rattle.std.proofs.lemmas.Bool.{false_from_ne_true}
use Rattle.plain_laws.specs.Bytes.{bytes_eq-comm}
use Rattle.plain_laws.specs.Options.{cond-some, option_or-assoc}
use Rattle.explorer_model.specs.declared.archive.Classes.{Classes}
use Rattle.explorer_model.specs.Imports.{Numbering}
use Rattle.explorer_model.specs.Journal.{HaveDifferentIds}
use Rattle.ingest_desk.specs.declared.clashing.Clashing.{Clashing}
use Rattle.ingest_desk.specs.Clashes.{clashes_from, and_clash, ids_of, is_id, number_among}

and_clash-append : (place : ℕ) (number : Option ℕ) (xs ys : List Clashing)
    → and_clash place number (xs ++ ys) ≡ and_clash place number xs ++ ys
and_clash-append place None xs ys = refl
and_clash-append place (Some n) xs ys = refl

pub clashes-append : (place : ℕ) (number : Numbering) (ids more : List (List ℕ))
    → clashes_from place number (ids ++ more)
    ≡ clashes_from place number ids ++ clashes_from (place + length ids) number more
clashes-append place number [] more =
    ap (λ p. clashes_from p number more) (sym (add-zero place))
clashes-append place number (id ∷ ids) more =
    let p : (place + 1) + length ids ≡ place + length (id ∷ ids) = omega arith in
    let rest = clashes_from (place + 1) number ids in
    ap (and_clash place (number id))
    (clashes-append (place + 1) number ids more ∙ ap (λ p. rest ++ clashes_from p number more) p)
    ∙ and_clash-append place (number id) rest
    (clashes_from (place + length (id ∷ ids)) number more)

pub option_or-cond : (b : Bool) (x : ℕ) (o p : Option ℕ)
    → cond b (Some x) (option_or o p) ≡ option_or (cond b (Some x) o) p
option_or-cond true x o p = refl
option_or-cond false x o p = refl

-- the number among ids and more of them
pub number-append : (first : ℕ) (ids more : List (List ℕ)) (id : List ℕ)
    → number_among first (ids ++ more) id
    ≡ option_or (number_among first ids id) (number_among (first + length ids) more id)
number-append first [] more id = ap (λ p. number_among p more id) (sym (add-zero first))
number-append first (x ∷ ids) more id =
    let p : (first + 1) + length ids ≡ first + length (x ∷ ids) = omega arith in
    let rest = number_among (first + 1) ids id in
    ap (cond (is_id id x) (Some first))
    (number-append (first + 1) ids more id ∙ ap (λ p. option_or rest (number_among p more id)) p)
    ∙ option_or-cond (is_id id x) first rest (number_among (first + length (x ∷ ids)) more id)

-- one more of the games
ids_more : (classes : List Classes) (i : ℕ) (game : Classes) → i < length classes
    → game ≡ get_or classes i game
    → ids_of (take (i + 1) classes) ≡ ids_of (take i classes) ++ game.id.bytes ∷ []
ids_more classes i game lt is =
    map_more (λ (g : Classes). g.id.bytes) classes i game lt
    ∙ ap (λ (g : Classes). ids_of (take i classes) ++ g.id.bytes ∷ []) (sym is)

length-ids : (classes : List Classes) (i : ℕ) → i < length classes
    → length (ids_of (take i classes)) ≡ i
length-ids classes i lt =
    length-map (take i classes) (λ (g : Classes). g.id.bytes)
    ∙ length-take-le i classes (omega (arith, lt))

-- ---- an id that is put in

pub false_true : false ≡ true → ⊥
false_true e = cc

-- the numbers once a new id is put in
pub put_one : (f g : Numbering) (id : List ℕ) (number : ℕ)
    → ((other : List ℕ) → g other ≡ cond (bytes_eq id other) (Some number) (f other)) → f id ≡ None
    → (other : List ℕ) → g other ≡ option_or (f other) (number_among number (id ∷ []) other)
put_one f g id number put none other =
    let is : bytes_eq id other ≡ true → f other ≡ None =
    λ e. ap f (sym ((bytes_eq-Decides id other).0 e)) ∙ none in
    put other
    ∙ cond-some (bytes_eq id other) number (f other) is
    ∙ ap (λ b. option_or (f other) (cond b (Some number) None)) (bytes_eq-comm id other)

-- ---- ids that differ

pub number-none : (id : List ℕ) (first : ℕ) (classes : List Classes)
    → ((k : ℕ) (d : Classes) → k < length classes
    → bytes_eq id (get_or classes k d).id.bytes ≡ false)
    → number_among first (ids_of classes) id ≡ None
number-none id first [] apart = refl
number-none id first (game ∷ classes) apart =
    let head : bytes_eq id game.id.bytes ≡ false = apart 0 game (omega arith) in
    let rest : (k : ℕ) (d : Classes) → k < length classes
    → bytes_eq id (get_or classes k d).id.bytes ≡ false =
    λ k d lt.
    let h : bytes_eq id (get_or (game ∷ classes) (k + 1) d).id.bytes ≡ false =
    apart (k + 1) d (omega (arith, lt)) in rw add-one at h in
    ap (λ b. cond b (Some first) (number_among (first + 1) (ids_of classes) id)) head
    ∙ number-none id (first + 1) classes rest

pub other_bytes : (a b : List ℕ) → (b ≡ a → ⊥) → bytes_eq a b ≡ false
other_bytes a b ne = false_from_ne_true (bytes_eq a b) (λ e. ne (sym ((bytes_eq-Decides a b).0 e)))

-- none of the games before one has its id
pub absent : (classes : List Classes) (i first : ℕ) (d : Classes) → HaveDifferentIds classes
    → i < length classes
    → number_among first (ids_of (take i classes)) (get_or classes i d).id.bytes ≡ None
absent classes i first d different lt =
    number-none (get_or classes i d).id.bytes first (take i classes)
    (λ k e within.
    let n : length (take i classes) ≡ i = length-take-le i classes (omega (arith, lt)) in
    let below : k < i = omega (arith, within, n) in
    rw (get_or-take i classes k e below)
    (let same : get_or classes i d ≡ get_or classes i e = get_or_default classes i d e lt in
    rw same (other_bytes (get_or classes i e).id.bytes (get_or classes k e).id.bytes
    (different k i e below lt))))

-- ---- steps of the loops

clashes_step : (number : Numbering) (classes : List Classes) (i : ℕ) (game : Classes)
    (pairs : List Clashing) → i < length classes → game ≡ get_or classes i game
    → pairs ≡ clashes_from 0 number (ids_of (take i classes))
    → pairs ++ and_clash i (number game.id.bytes) []
    ≡ clashes_from 0 number (ids_of (take (i + 1) classes))
clashes_step number classes i game pairs lt is found =
    let before = ids_of (take i classes) in
    let n : 0 + length before ≡ i = omega (arith, length-ids classes i lt) in
    ap (λ ps. ps ++ and_clash i (number game.id.bytes) []) found
    ∙ ap (λ k. clashes_from 0 number before ++ clashes_from k number (game.id.bytes ∷ [])) (sym n)
    ∙ sym (clashes-append 0 number before (game.id.bytes ∷ []))
    ∙ ap (clashes_from 0 number) (sym (ids_more classes i game lt is))

pub clashes_more : (number : Numbering) (classes : List Classes) (i place : ℕ) (game : Classes)
    (before after : List Clashing) (o : Option ℕ)
    → i < length classes → game ≡ get_or classes i game → o ≡ number game.id.bytes → place ≡ i
    → after ≡ before ++ and_clash place o []
    → before ≡ clashes_from 0 number (ids_of (take i classes))
    → after ≡ clashes_from 0 number (ids_of (take (i + 1) classes))
clashes_more number classes i place game before after o lt item is at more found =
    more
    ∙ ap (λ o. before ++ and_clash place o []) is
    ∙ ap (λ p. before ++ and_clash p (number game.id.bytes) []) at
    ∙ clashes_step number classes i game before lt item found

pub numbers_more : (old now new : Numbering) (classes : List Classes) (first number i : ℕ)
    (game : Classes)
    → i < length classes → game ≡ get_or classes i game → number ≡ first + i
    → ((id : List ℕ) → now id
    ≡ option_or (old id) (number_among first (ids_of (take i classes)) id))
    → ((id : List ℕ) → new id
    ≡ option_or (now id) (number_among number (game.id.bytes ∷ []) id))
    → (id : List ℕ) → new id
    ≡ option_or (old id) (number_among first (ids_of (take (i + 1) classes)) id)
numbers_more old now new classes first number i game lt item at before step id =
    let done = ids_of (take i classes) in
    let one = game.id.bytes ∷ [] in
    let p : first + length done ≡ number = omega (arith, at, length-ids classes i lt) in
    let more : ids_of (take (i + 1) classes) ≡ done ++ one = ids_more classes i game lt item in
    step id
    ∙ ap (λ o. option_or o (number_among number one id)) (before id)
    ∙ option_or-assoc (old id) (number_among first done id) (number_among number one id)
    ∙ ap (λ k. option_or (old id)
    (option_or (number_among first done id) (number_among k one id))) (sym p)
    ∙ ap (option_or (old id)) (sym (number-append first done one id))
    ∙ ap (λ l. option_or (old id) (number_among first l id)) (sym more)

-- a new id is not there yet
pub still_absent : (old now : Numbering) (classes : List Classes) (first i : ℕ) (game : Classes)
    → i < length classes → game ≡ get_or classes i game → HaveDifferentIds classes
    → All (λ c. old c.id.bytes ≡ None) classes
    → ((id : List ℕ) → now id
    ≡ option_or (old id) (number_among first (ids_of (take i classes)) id))
    → now game.id.bytes ≡ None
still_absent old now classes first i game lt item different new before =
    let P : Classes → Type 0 = λ g. now g.id.bytes ≡ None in
    let at = get_or classes i game in
    subst P (sym item)
    (before at.id.bytes
    ∙ ap (λ o. option_or o (number_among first (ids_of (take i classes)) at.id.bytes)) (new i game lt)
    ∙ absent classes i first game different lt)

-- what holds of an Ok, where it is one
pub ok_then : {T E : Type 0} (r : Result T E) (P : Type 0) → IsOk r → OnOk r P → P
ok_then (Ok x) P ok on = on
ok_then (Err e) P ok on = absurd (false_true ok)
