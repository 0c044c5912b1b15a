-- Slots, once results stand in them.
use borrow.Author.Count.{below_more}
use Rattle.std.proofs.Common.{◌≡◌, ◌<◌, ◌≤◌, ◌+◌, ℕ, zero, suc, List, [], ◌∷◌, ◌++◌, length, get_or, set, replicate, Option, Some, None, IfSome, Ok, Err, IfOk, drop, refl, sym, ap, ◌∙◌, subst, arith}
use Rattle.std.specs.List.{All, AllByRecursion, flat_map}
use Rattle.std.proofs.lemmas.List.{drop-drop, get_or-drop, get_or_append_left, get_or_push, length-drop, length-replicate, length-set, length_push}
use Rattle.std.proofs.lemmas.List.Elements.{recursion_from_All}
use Rattle.side_by_side.specs.Taking.{Leaf, put_all, taken_by}

pub put_all-append : {X : Type 0} (slots : List (Option X)) (xs ys : List (ℕ × X)) → put_all slots (xs ++ ys) ≡ put_all (put_all slots xs) ys
put_all-append slots [] ys = refl
put_all-append slots (x ∷ xs) ys = put_all-append (set slots x.0 (Some x.1)) xs ys

pub put_all-length : {X : Type 0} (slots : List (Option X)) (taken : List (ℕ × X)) → length (put_all slots taken) ≡ length slots
put_all-length slots [] = refl
put_all-length slots (x ∷ taken) = put_all-length (set slots x.0 (Some x.1)) taken ∙ length-set slots x.0 (Some x.1)

-- ---- what holds of each result holds of what stands in each slot

-- what stands in a slot
abbrev pub Stands : {X : Type 0} → (ℕ × X → Type 0) → List (Option X) → Type 0
Stands P slots = (i : ℕ) → IfSome (get_or slots i None) (λ x. P (i, x))

pub none-stands : {X : Type 0} (P : ℕ × X → Type 0) (count : ℕ) → Stands P (replicate count None)
none-stands P zero i = tt
none-stands P (suc count) zero = tt
none-stands P (suc count) (suc i) = none-stands (λ one. P (suc one.0, one.1)) count i

one-stands : {X : Type 0} (P : ℕ × X → Type 0) (slots : List (Option X)) (i : ℕ) (x : X) → P (i, x) → Stands P slots → Stands P (set slots i (Some x))
one-stands P [] i x is stands k = tt
one-stands P (s ∷ slots) zero x is stands zero = is
one-stands P (s ∷ slots) zero x is stands (suc k) = stands (suc k)
one-stands P (s ∷ slots) (suc i) x is stands zero = stands zero
one-stands P (s ∷ slots) (suc i) x is stands (suc k) =
    one-stands (λ one. P (suc one.0, one.1)) slots i x is (λ j. stands (suc j)) k

pub all-stand : {X : Type 0} (P : ℕ × X → Type 0) (slots : List (Option X)) (taken : List (ℕ × X)) → AllByRecursion P taken → Stands P slots
    → Stands P (put_all slots taken)
all-stand P slots [] each stands = stands
all-stand P slots (x ∷ taken) each stands =
    all-stand P (set slots x.0 (Some x.1)) taken each.1 (one-stands P slots x.0 x.1 each.0 stands)

-- ---- of all leaves

pub slots-count : {X : Type 0} (slots : List (Option X)) (count : ℕ) (taken : List (ℕ × X)) → slots ≡ put_all (replicate count None) taken
    → length slots ≡ count
slots-count slots count taken are =
    ap length are ∙ put_all-length (replicate count None) taken ∙ length-replicate count None

both-each : {X : Type 0} (P : X → Type 0) (xs ys : List X) → AllByRecursion P xs → AllByRecursion P ys → AllByRecursion P (xs ++ ys)
both-each P [] ys front behind = behind
both-each P (x ∷ xs) ys front behind = (front.0, both-each P xs ys front.1 behind)

leaf-given : {X : Type 0} (P : ℕ × X → Type 0) (leaf : Leaf X) → IfOk leaf (λ taken. All P taken.items) → AllByRecursion P (taken_by leaf)
leaf-given P (Ok taken) each = recursion_from_All P taken.items each
leaf-given P (Err refused) each = tt

leaves-given : {X : Type 0} (P : ℕ × X → Type 0) (leaves : List (Leaf X))
    → ((n : ℕ) (d : Leaf X) → n < length leaves → IfOk (get_or leaves n d) (λ taken. All P taken.items))
    → AllByRecursion P (flat_map taken_by leaves)
leaves-given P [] each = tt
leaves-given P (leaf ∷ leaves) each =
    both-each P (taken_by leaf) (flat_map taken_by leaves) (leaf-given P leaf (each 0 leaf (omega arith)))
    (leaves-given P leaves (λ n d below. each (suc n) d (omega (arith, below))))

pub slots-given : {X : Type 0} (P : ℕ × X → Type 0) (slots : List (Option X)) (count : ℕ) (leaves : List (Leaf X))
    → slots ≡ put_all (replicate count None) (flat_map taken_by leaves)
    → ((n : ℕ) (d : Leaf X) → n < length leaves → IfOk (get_or leaves n d) (λ taken. All P taken.items))
    → Stands P slots
slots-given {X} P slots count leaves are each =
    subst (λ (l : List (Option X)). Stands P l) (sym are)
    (all-stand P (replicate count None) (flat_map taken_by leaves) (leaves-given P leaves each) (none-stands P count))

-- one leaf more
pub next-leaf : {X : Type 0} (slots next : List (Option X)) (left rest : List (Leaf X)) (leaf : Leaf X) (taken : List (ℕ × X)) (all : List (Option X))
    → left ≡ leaf ∷ rest → taken_by leaf ≡ taken → next ≡ put_all slots taken → put_all slots (flat_map taken_by left) ≡ all
    → put_all next (flat_map taken_by rest) ≡ all
next-leaf slots next left rest leaf taken all first took put whole =
    ap (λ l. put_all l (flat_map taken_by rest)) (put ∙ ap (put_all slots) (sym took))
    ∙ sym (put_all-append slots (taken_by leaf) (flat_map taken_by rest))
    ∙ ap (λ l. put_all slots (flat_map taken_by l)) (sym first)
    ∙ whole

-- ---- the next slot

pub slot-behind : {A B : Type 0} (xs left rest : List A) (x : A) (made next : List B) (y : B) → next ≡ made ++ y ∷ [] → left ≡ drop (length made) xs
    → left ≡ x ∷ rest → rest ≡ drop (length next) xs
slot-behind xs left rest x made next y pushed at first =
    sym (ap (drop 1) (sym at ∙ first)) ∙ drop-drop 1 (length made) xs
    ∙ ap (λ n. drop n xs) (sym (ap length pushed ∙ length_push made y))

-- a slot is left, so there are more of them than results
pub slot-within : {A B : Type 0} (xs left rest : List A) (x : A) (made next : List B) (y : B) → next ≡ made ++ y ∷ [] → left ≡ drop (length made) xs
    → left ≡ x ∷ rest → length next ≤ length xs
slot-within xs left rest x made next y pushed at first =
    omega (arith, sym (length-drop (length made) xs) ∙ ap length (sym at ∙ first), ap length pushed ∙ length_push made y)

pub slot-is : {A : Type 0} (n : ℕ) (xs left rest : List A) (x d : A) → left ≡ drop n xs → left ≡ x ∷ rest → get_or xs n d ≡ x
slot-is n xs left rest x d at first =
    let here : get_or (drop n xs) 0 d ≡ get_or xs (n + 0) d = get_or-drop n xs 0 d in
    let same : n + 0 ≡ n = omega arith in
    ap (λ k. get_or xs k d) (sym same) ∙ sym here ∙ ap (λ l. get_or l 0 d) (sym at ∙ first)

pub slot-given : {X : Type 0} (P : ℕ × X → Type 0) (slots left rest : List (Option X)) (slot : Option X) (n index : ℕ) → Stands P slots
    → left ≡ drop n slots → left ≡ slot ∷ rest → index ≡ n → IfSome slot (λ x. P (index, x))
slot-given {X} P slots left rest slot n index stands at first is =
    subst (λ (s : Option X). IfSome s (λ x. P (index, x))) (slot-is index slots left rest slot None (at ∙ ap (λ k. drop k slots) (sym is)) first)
    (stands index)

pub no-slot : {A : Type 0} (n : ℕ) (xs left : List A) → left ≡ drop n xs → length left ≡ 0 → length xs ≤ n
no-slot n xs left at none = omega (arith, sym (length-drop n xs) ∙ ap length (sym at) ∙ none)

-- one result more
pub one-given : {X : Type 0} (P : ℕ → X → Type 0) (made next : List X) (x : X) (index : ℕ) → next ≡ made ++ x ∷ [] → index ≡ length made
    → P index x → ((k : ℕ) (d : X) → k < length made → P k (get_or made k d))
    → (k : ℕ) (d : X) → k < length next → P k (get_or next k d)
one-given {X} P made next x index pushed is given each k d below =
    let n = length made in
    let long : length next ≡ n + 1 = ap length pushed ∙ length_push made x in
    let before : (j : ℕ) → j < n → get_or made j d ≡ get_or next j d =
    λ j early. sym (get_or_append_left made (x ∷ []) d j early) ∙ ap (λ l. get_or l j d) (sym pushed) in
    let last : x ≡ get_or next n d = sym (get_or_push made x d n refl) ∙ ap (λ l. get_or l n d) (sym pushed) in
    let at_last : P n x = subst (λ (j : ℕ). P j x) is given in
    below_more (λ j. P j (get_or next j d)) n
    (λ j early. subst (λ (y : X). P j y) (before j early) (each j d early))
    (subst (λ (y : X). P n y) last at_last) k (omega (arith, below, long))
