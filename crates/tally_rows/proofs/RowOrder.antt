-- The order of parts tells each two of them apart.
use Rattle.std.proofs.Common.{◌≡◌, ℕ, true, false, None, Some, if◌then◌else◌, ◌==◌, ap, sym, subst, ◌∙◌, refl}
use Rattle.std.specs.declared.cmp.Ordering.{Ordering}
use Rattle.std.specs.declared.cmp.Ordering.TheVariants.{Less, Equal, Greater}
use Rattle.std.specs.Ordering.{nat_cmp, ordering_then, is_eq}
use Rattle.std.specs.Option.{option_cmp}
use Rattle.std.specs.Cmp.{Equal-is, tied_itself, both_ways}
use Rattle.std.specs.FinMap.{IsAntisymmetric, nat_cmp-IsAntisymmetric, slice_cmp-IsAntisymmetric}
use Rattle.explorer_model.specs.declared.archive.Speed.{Speed}
use Rattle.explorer_model.specs.declared.archive.Speed.TheVariants.{UltraBullet, Bullet, Blitz, Rapid, Classical, Correspondence}
use Rattle.explorer_model.specs.declared.chess.Role.{Role}
use Rattle.explorer_model.specs.declared.chess.Role.TheVariants.{Pawn, Knight, Bishop, Rook, Queen, King}
use Rattle.explorer_model.specs.Order.{speed_index, role_index}
use Rattle.explorer_model.proofs.Squares.{square_eq}
use Rattle.tally_rows.specs.declared.row_key.RowKey.{RowKey}
use Rattle.tally_rows.specs.RowKey.{month_order, move_order, row_order, row_order-total, same_row_key}

then-first : (p q : Ordering) → ordering_then p q ≡ Equal → p ≡ Equal
then-first Less q e = e
then-first Equal q e = refl
then-first Greater q e = e

then-second : (p q : Ordering) → ordering_then p q ≡ Equal → q ≡ Equal
then-second Less q e = cc
then-second Equal q e = e
then-second Greater q e = cc

option_cmp-IsAntisymmetric : {K : Type 0} {R : K → K → Ordering} → IsAntisymmetric R → IsAntisymmetric (option_cmp R)
option_cmp-IsAntisymmetric same None None e = refl
option_cmp-IsAntisymmetric same None (Some y) e = cc
option_cmp-IsAntisymmetric same (Some x) None e = cc
option_cmp-IsAntisymmetric same (Some x) (Some y) e = ap Some (same x y e)

-- the variant at a place
role_at : ℕ → Role
role_at n =
    if n == 0 then Pawn
    else (if n == 1 then Knight
    else (if n == 2 then Bishop
    else (if n == 3 then Rook
    else (if n == 4 then Queen
    else King))))

role_at-index : (role : Role) → role_at (role_index role) ≡ role
unfolding role_at
role_at-index Pawn = refl
role_at-index Knight = refl
role_at-index Bishop = refl
role_at-index Rook = refl
role_at-index Queen = refl
role_at-index King = refl

pub role_index-same : (a b : Role) → role_index a ≡ role_index b → a ≡ b
role_index-same a b e = sym (role_at-index a) ∙ ap role_at e ∙ role_at-index b

speed_at : ℕ → Speed
speed_at n =
    if n == 0 then UltraBullet
    else (if n == 1 then Bullet
    else (if n == 2 then Blitz
    else (if n == 3 then Rapid
    else (if n == 4 then Classical
    else Correspondence))))

speed_at-index : (speed : Speed) → speed_at (speed_index speed) ≡ speed
unfolding speed_at
speed_at-index UltraBullet = refl
speed_at-index Bullet = refl
speed_at-index Blitz = refl
speed_at-index Rapid = refl
speed_at-index Classical = refl
speed_at-index Correspondence = refl

speed_index-same : (a b : Speed) → speed_index a ≡ speed_index b → a ≡ b
speed_index-same a b e = sym (speed_at-index a) ∙ ap speed_at e ∙ speed_at-index b

month_order-IsAntisymmetric : IsAntisymmetric month_order
month_order-IsAntisymmetric a b e =
    let year : a.year ≡ b.year = nat_cmp-IsAntisymmetric _ _ (then-first _ _ e) in
    let month : a.month ≡ b.month = nat_cmp-IsAntisymmetric _ _ (then-second _ _ e) in
    λ i. record { year = year i; month = month i }

move_order-IsAntisymmetric : IsAntisymmetric move_order
move_order-IsAntisymmetric a b e =
    let from : a.from ≡ b.from = square_eq a.from b.from (nat_cmp-IsAntisymmetric _ _ (then-first _ _ e)) in
    let rest = then-second _ _ e in
    let to : a.to ≡ b.to = square_eq a.to b.to (nat_cmp-IsAntisymmetric _ _ (then-first _ _ rest)) in
    let by_role : IsAntisymmetric (λ (r s : Role). nat_cmp (role_index r) (role_index s)) =
    λ r s d. role_index-same r s (nat_cmp-IsAntisymmetric _ _ d) in
    let promotion : a.promotion ≡ b.promotion = option_cmp-IsAntisymmetric by_role _ _ (then-second _ _ rest) in
    λ i. record { from = from i; to = to i; promotion = promotion i }

pub row_order-IsAntisymmetric : IsAntisymmetric row_order
unfolding row_order
row_order-IsAntisymmetric a b e =
    let key : a.key ≡ b.key = slice_cmp-IsAntisymmetric nat_cmp-IsAntisymmetric a.key b.key (then-first _ _ e) in
    let e2 = then-second _ _ e in
    let next : a.next ≡ b.next = option_cmp-IsAntisymmetric move_order-IsAntisymmetric a.next b.next (then-first _ _ e2) in
    let e3 = then-second _ _ e2 in
    let month : a.month ≡ b.month = month_order-IsAntisymmetric a.month b.month (then-first _ _ e3) in
    let e4 = then-second _ _ e3 in
    let speed : a.speed ≡ b.speed = speed_index-same _ _ (nat_cmp-IsAntisymmetric _ _ (then-first _ _ e4)) in
    let group : a.group.value ≡ b.group.value = nat_cmp-IsAntisymmetric _ _ (then-second _ _ e4) in
    λ i. record { key = key i; next = next i; month = month i; speed = speed i; group = record { value = group i } }

pub same_row_key-is : (a b : RowKey) → same_row_key a b ≡ true → a ≡ b
unfolding same_row_key
same_row_key-is a b e = row_order-IsAntisymmetric a b ((Equal-is (row_order a b)).0 e)

pub same_row_key-self : (a : RowKey) → same_row_key a a ≡ true
unfolding same_row_key
same_row_key-self a = ap is_eq (tied_itself row_order-total a)

-- parts of which one comes first are not the same, whichever is asked first
pub same_row_key-Less : (a b : RowKey) → row_order a b ≡ Less → same_row_key a b ≡ false
unfolding same_row_key
same_row_key-Less a b e = ap is_eq e

pub same_row_key-comm : (a b : RowKey) → same_row_key a b ≡ same_row_key b a
same_row_key-comm a b =
    both_ways (same_row_key a b) (same_row_key b a)
    (λ e. subst (λ c. same_row_key c a ≡ true) (same_row_key-is a b e) (same_row_key-self a))
    (λ e. subst (λ c. same_row_key c b ≡ true) (same_row_key-is b a e) (same_row_key-self b))
