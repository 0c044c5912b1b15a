-- No two moves have one place in the order.
use Rattle.std.proofs.Common.{◌≡◌, ℕ, zero, suc, ◌+◌, ◌*◌, ◌<◌, ◌≤◌, List, [], ◌∷◌, Option, Some, None, refl, sym, ◌∙◌, ap, slice_index_or, arith, lit<}
use Rattle.explorer_model.specs.declared.chess.Role.{Role}
use Rattle.explorer_model.specs.declared.chess.Role.TheVariants.{Pawn, Knight, Bishop, Rook, Queen, King}
use Rattle.explorer_model.specs.declared.chess.Move.{Move}
use Rattle.explorer_model.specs.declared.square.Square.{Square}
use Rattle.explorer_model.proofs.Squares.{square_eq}
use Rattle.explorer_model.specs.Chess.{IsPromotion}
use Rattle.legal_moves.specs.Listing.{promotion_place, place_of}

pub promotion_place-lt : (o : Option Role) → promotion_place o < 8
promotion_place-lt None = lit< tt
promotion_place-lt (Some Knight) = lit< tt
promotion_place-lt (Some Bishop) = lit< tt
promotion_place-lt (Some Rook) = lit< tt
promotion_place-lt (Some Queen) = lit< tt
promotion_place-lt (Some Pawn) = lit< tt
promotion_place-lt (Some King) = lit< tt

-- what stands on a place
promoted_at : ℕ → Option Role
promoted_at zero = None
promoted_at (suc zero) = Some Knight
promoted_at (suc (suc zero)) = Some Bishop
promoted_at (suc (suc (suc zero))) = Some Rook
promoted_at (suc (suc (suc (suc zero)))) = Some Queen
promoted_at (suc (suc (suc (suc (suc zero))))) = Some Pawn
promoted_at (suc (suc (suc (suc (suc (suc n)))))) = Some King

promoted_at-promotion_place : (o : Option Role) → promoted_at (promotion_place o) ≡ o
unfolding promoted_at
promoted_at-promotion_place None = refl
promoted_at-promotion_place (Some Knight) = refl
promoted_at-promotion_place (Some Bishop) = refl
promoted_at-promotion_place (Some Rook) = refl
promoted_at-promotion_place (Some Queen) = refl
promoted_at-promotion_place (Some Pawn) = refl
promoted_at-promotion_place (Some King) = refl

promotion_eq : (a b : Option Role) → promotion_place a ≡ promotion_place b → a ≡ b
promotion_eq a b e = sym (promoted_at-promotion_place a) ∙ ap promoted_at e ∙ promoted_at-promotion_place b

-- the parts of a place
record AreSame (a b c x y z : ℕ) : Type 0 where
  first : a ≡ x
  second : b ≡ y
  third : c ≡ z

places_same : (a b c x y z : ℕ) → b < 64 → c < 8 → y < 64 → z < 8 → 512 * a + 8 * b + c ≡ 512 * x + 8 * y + z → AreSame a b c x y z
places_same a b c x y z lb lc ly lz e = record { first = omega arith; second = omega arith; third = omega arith }

move_eq : (m n : Move) → m.from ≡ n.from → m.to ≡ n.to → m.promotion ≡ n.promotion → m ≡ n
move_eq m n f t r = λ i. record { from = f i; to = t i; promotion = r i }

pub place_of-injective : (m n : Move) → place_of m ≡ place_of n → m ≡ n
place_of-injective m n e =
    let same : AreSame m.from.index m.to.index (promotion_place m.promotion) n.from.index n.to.index (promotion_place n.promotion) =
    places_same _ _ _ _ _ _ m.to.on_board (promotion_place-lt m.promotion) n.to.on_board (promotion_place-lt n.promotion) e in
    move_eq m n (square_eq m.from n.from same.first) (square_eq m.to n.to same.second) (promotion_eq m.promotion n.promotion same.third)

pub place_of-lt : (m : Move) → place_of m < 32768
place_of-lt m =
    let last : promotion_place m.promotion < 8 = promotion_place-lt m.promotion in
    let from_on : m.from.index < 64 = m.from.on_board in
    let to_on : m.to.index < 64 = m.to.on_board in
    omega arith

-- A move from one square to another with one of the four promotions, and its place.

abbrev promotions : List (Option Role)
promotions = Some Knight ∷ Some Bishop ∷ Some Rook ∷ Some Queen ∷ []

abbrev pub step_with : Square → Square → ℕ → Move
step_with from to k = record { from = from; to = to; promotion = slice_index_or promotions k None }

promotions_in_place : (k : ℕ) → k < 4 → promotion_place (slice_index_or promotions k None) ≡ 1 + k
promotions_in_place zero h = refl
promotions_in_place (suc zero) h = refl
promotions_in_place (suc (suc zero)) h = refl
promotions_in_place (suc (suc (suc zero))) h = refl
promotions_in_place (suc (suc (suc (suc n)))) h = absurd (omega arith)

pub promotions_promote : (k : ℕ) → k < 4 → IsPromotion (slice_index_or promotions k None)
promotions_promote zero h = tt
promotions_promote (suc zero) h = tt
promotions_promote (suc (suc zero)) h = tt
promotions_promote (suc (suc (suc zero))) h = tt
promotions_promote (suc (suc (suc (suc n)))) h = absurd (omega arith)

plus : (n a k : ℕ) → a ≡ 1 + k → n + a ≡ n + 1 + k
plus n a k e = omega arith

pub place_of-step_with : (from to : Square) (k : ℕ) → k < 4 → place_of (step_with from to k) ≡ 512 * from.index + 8 * to.index + 1 + k
place_of-step_with from to k h = plus (512 * from.index + 8 * to.index) _ k (promotions_in_place k h)

-- the squares of a move, by its place

pub from_is : (m : Move) (from : ℕ) → 512 * from ≤ place_of m → place_of m < 512 * from + 512 → m.from.index ≡ from
from_is m from low high =
    let last : promotion_place m.promotion < 8 = promotion_place-lt m.promotion in
    let to_on : m.to.index < 64 = m.to.on_board in
    omega arith

pub to_from : (m : Move) (from at : ℕ) → m.from.index ≡ from → 512 * from + 8 * at ≤ place_of m → at ≤ m.to.index
to_from m from at e low = let last : promotion_place m.promotion < 8 = promotion_place-lt m.promotion in omega arith

pub to_before : (m : Move) (from at : ℕ) → m.from.index ≡ from → place_of m < 512 * from + 8 * at → m.to.index < at
to_before m from at e high = omega arith

pub promotion_from : (m : Move) (from to n : ℕ) → to < 64 → n < 8 → 512 * from + 8 * to + n ≤ place_of m → place_of m < 512 * from + 8 * to + 8
    → (m.from.index ≡ from) × (m.to.index ≡ to) × (n ≤ promotion_place m.promotion)
promotion_from m from to n to_on few low high =
    let last : promotion_place m.promotion < 8 = promotion_place-lt m.promotion in
    let here : m.to.index < 64 = m.to.on_board in
    (omega arith, omega arith, omega arith)
