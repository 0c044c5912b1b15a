-- Batches of so many games come to one list of segments.
use Rattle.std.proofs.Common.{◌≡◌, ◌⊎◌, inl, inr, ◌+◌, ◌*◌, ◌<◌, ◌≤◌, ℕ, zero, suc, Bool, true, false, List, [], ◌∷◌, ◌++◌, length, refl, sym, subst, ◌∙◌, arith}
use Rattle.std.specs.Prelude.{nat_lt}
use Rattle.std.proofs.lemmas.Bool.Decides.{nat_tests}
use Rattle.published_index.specs.Cover.{list_limit}
use Rattle.explorer.specs.Trial.Segments.{AreApart, AreDrained, AreJoined, GetsRoom, GoAllBehind, GoesBehind, JoinsAll, JoinsIfDue, JoinsLast}

-- ---- one join

-- neighbours that stand apart are not to become one
not_due : (earlier : List ℕ) (left right : ℕ) (later : List ℕ) → AreApart (earlier ++ left ∷ right ∷ later) → left ≤ 2 * right → ⊥
not_due [] left right later apart due = omega (arith, apart.0, due)
not_due (games ∷ earlier) left right later apart due = not_due earlier left right later apart.1 due

one_place : (earlier : List ℕ) (left right : ℕ) (later earlier' : List ℕ) (left' right' : ℕ) (later' : List ℕ) → earlier ++ left ∷ right ∷ later ≡ earlier' ++ left' ∷ right' ∷ later' → AreApart (right ∷ later) → AreApart (right' ∷ later')
    → left ≤ 2 * right → left' ≤ 2 * right' → earlier ++ (left + right) ∷ later ≡ earlier' ++ (left' + right') ∷ later'
one_place [] left right later [] left' right' later' all last last' due due' =
    let l : left ≡ left' = cc in
    let r : right ≡ right' = cc in
    let rest : later ≡ later' = cc in
    λ i. (l i + r i) ∷ rest i
one_place [] left right later (games ∷ earlier') left' right' later' all last last' due due' =
    let tail : right ∷ later ≡ earlier' ++ left' ∷ right' ∷ later' = cc in
    absurd (not_due earlier' left' right' later' (subst AreApart tail last) due')
one_place (games ∷ earlier) left right later [] left' right' later' all last last' due due' =
    let tail : right' ∷ later' ≡ earlier ++ left ∷ right ∷ later = cc in
    absurd (not_due earlier left right later (subst AreApart tail last') due)
one_place (games ∷ earlier) left right later (other ∷ earlier') left' right' later' all last last' due due' =
    let head : games ≡ other = cc in
    let tail : earlier ++ left ∷ right ∷ later ≡ earlier' ++ left' ∷ right' ∷ later' = cc in
    let rest = one_place earlier left right later earlier' left' right' later' tail last last' due due' in
    λ i. head i ∷ rest i

one_join : (sizes first second : List ℕ) → JoinsLast sizes first → JoinsLast sizes second → first ≡ second
one_join sizes first second a b =
    a.new_are
    ∙ one_place a.earlier a.left a.right a.later b.earlier b.left b.right b.later (sym a.sizes_are ∙ b.sizes_are) a.last b.last a.due b.due
    ∙ sym b.new_are

none_joins : (sizes new : List ℕ) → AreApart sizes → JoinsLast sizes new → ⊥
none_joins sizes new apart joins =
    not_due joins.earlier joins.left joins.right joins.later (subst AreApart joins.sizes_are apart) joins.due

one_if_due : (sizes first second : List ℕ) → JoinsIfDue sizes first → JoinsIfDue sizes second → first ≡ second
one_if_due sizes first second (inl a) (inl b) = a.1 ∙ sym b.1
one_if_due sizes first second (inl a) (inr b) = absurd (none_joins sizes second a.0 b)
one_if_due sizes first second (inr a) (inl b) = absurd (none_joins sizes first b.0 a)
one_if_due sizes first second (inr a) (inr b) = one_join sizes first second a b

-- ---- batches

one_room : (sizes first second : List ℕ) → GetsRoom sizes first → GetsRoom sizes second → first ≡ second
one_room sizes first second a b = by (nat_lt (length sizes) list_limit) refl
  where
    by : (few : Bool) → nat_lt (length sizes) list_limit ≡ few → first ≡ second
    by true is =
        let few : length sizes < list_limit = grind (arith, nat_tests) in
        a.has_room few ∙ sym (b.has_room few)
    by false is =
        let full : list_limit ≤ length sizes = grind (arith, nat_tests) in
        one_join sizes first second (a.is_full full) (b.is_full full)

one_behind : (games : ℕ) (sizes first second : List ℕ) → GoesBehind games sizes first → GoesBehind games sizes second → first ≡ second
one_behind games sizes first second a b =
    let rooms = one_room sizes a.roomy b.roomy a.room b.room in
    one_if_due (b.roomy ++ games ∷ []) first second (subst (λ (l : List ℕ). JoinsIfDue (l ++ games ∷ []) first) rooms a.joins) b.joins

all_behind : (batches sizes first second : List ℕ) → GoAllBehind batches sizes first → GoAllBehind batches sizes second → first ≡ second
all_behind [] sizes first second a b = a ∙ sym b
all_behind (games ∷ more) sizes first second a b =
    let next = one_behind games sizes a.0 b.0 a.1 b.1 in
    all_behind more b.0 first second (subst (λ (l : List ℕ). GoAllBehind more l first) next a.2) b.2

-- ---- all joins

all_joins : (joins joins' : ℕ) (sizes first second : List ℕ) → JoinsAll joins sizes first → JoinsAll joins' sizes second → first ≡ second
all_joins zero zero sizes first second a b = a.1 ∙ sym b.1
all_joins zero (suc joins') sizes first second a b = absurd (none_joins sizes b.0 a.0 b.1)
all_joins (suc joins) zero sizes first second a b = absurd (none_joins sizes a.0 b.0 a.1)
all_joins (suc joins) (suc joins') sizes first second a b =
    let next = one_join sizes a.0 b.0 a.1 b.1 in
    all_joins joins joins' b.0 first second (subst (λ (l : List ℕ). JoinsAll joins l first) next a.2) b.2

pub one_drained : (batches first second : List ℕ) → AreDrained batches first → AreDrained batches second → first ≡ second
one_drained batches first second a b =
    let behind = all_behind batches [] a.behind b.behind a.go b.go in
    all_joins a.joined.joins b.joined.joins b.behind first second
    (subst (λ (l : List ℕ). JoinsAll a.joined.joins l first) behind a.joined.joined) b.joined.joined

-- ---- one join before others

pub joined_none : (sizes : List ℕ) → AreApart sizes → AreJoined sizes sizes
joined_none sizes apart = record { joins = 0; joined = (apart, refl) }

pub joined_more : (sizes next new : List ℕ) → JoinsLast sizes next → AreJoined next new → AreJoined sizes new
joined_more sizes next new joins later = record { joins = suc later.joins; joined = (next, joins, later.joined) }
