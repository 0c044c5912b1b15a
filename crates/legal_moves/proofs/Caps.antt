-- No position has more than 415 legal moves: fifteen pieces with at most 27 moves each, and a king with at most 10.
use Rattle.std.proofs.Common.{◌≡◌, ℕ, zero, suc, ◌+◌, ◌*◌, ◌/◌, ◌%◌, ◌<◌, ◌≤◌, Bool, true, false, ltb, ◌&&◌, cond, List, [], ◌∷◌, length, take, Option, Some, None, refl, ◌∙◌, ap, subst, add-one, arith, lit≤}
use Rattle.std.specs.List.{sum_by, count_by, Contains, AllPairs}
use Rattle.std.proofs.lemmas.Bool.Decides.{nat_tests}
use Rattle.std.proofs.lemmas.List.Sums.{sum_by-cons, sum_by_more, sum_by-take-le}
use Rattle.plain_laws.specs.Lists.{contains-first, contains-later}
use Rattle.explorer_model.specs.declared.chess.Color.{Color}
use Rattle.explorer_model.specs.declared.chess.Role.{Role}
use Rattle.explorer_model.specs.declared.chess.Role.TheVariants.{Pawn, Knight, Bishop, Rook, Queen, King}
use Rattle.explorer_model.specs.declared.chess.Piece.{Piece}
use Rattle.explorer_model.specs.declared.chess.Position.{Position}
use Rattle.explorer_model.specs.declared.chess.Move.{Move}
use Rattle.explorer_model.specs.Board.{piece_of, piece_at}
use Rattle.explorer_model.specs.Chess.{is_color, is_king, is_of_color, is_king_of, HasPieces, IsValid, Legal}
use Rattle.legal_moves.specs.Listing.{promotion_place, place_of}
use Rattle.legal_moves.proofs.Places.{promotion_place-lt, place_of-lt}
use Rattle.legal_moves.proofs.Facts.{Mover, mover}
use Rattle.legal_moves.proofs.OneKing.{has_pieces, color_self}
use Rattle.step_tables.specs.Test.{all_below}
use Rattle.step_tables.proofs.Test.{all_below-at}
use Rattle.legal_moves.proofs.Sums.{sum_below, sum_below-add, sum_below-cong, sum_below-le, sum_below-more}
use Rattle.legal_moves.proofs.MoveSpans.{spans, may_become, destination, goes-destination}

-- Of one piece: a way is a square to end on with a promotion, as 8 * to + promotion.

way : Role → ℕ → ℕ → ℕ
way role from k = cond (destination role from (k / 8) (k % 8)) 1 0

-- the most ways of a role
ways : Role → ℕ
ways role = cond (is_king role) 10 27

counted : Role → Bool
counted role = all_below (λ from. ltb (sum_below (way role from) 512) (ways role + 1)) 64

pawn_counted : counted Pawn ≡ true
unfolding counted all_below sum_below way ways destination spans may_become
pawn_counted = refl

knight_counted : counted Knight ≡ true
unfolding counted all_below sum_below way ways destination spans may_become
knight_counted = refl

bishop_counted : counted Bishop ≡ true
unfolding counted all_below sum_below way ways destination spans may_become
bishop_counted = refl

rook_counted : counted Rook ≡ true
unfolding counted all_below sum_below way ways destination spans may_become
rook_counted = refl

queen_counted : counted Queen ≡ true
unfolding counted all_below sum_below way ways destination spans may_become
queen_counted = refl

king_counted : counted King ≡ true
unfolding counted all_below sum_below way ways destination spans may_become
king_counted = refl

all_counted : (role : Role) → counted role ≡ true
all_counted Pawn = pawn_counted
all_counted Knight = knight_counted
all_counted Bishop = bishop_counted
all_counted Rook = rook_counted
all_counted Queen = queen_counted
all_counted King = king_counted

within : (x y : ℕ) → ltb x (y + 1) ≡ true → x ≤ y
within x y e = grind (arith, nat_tests)

role_ways : (role : Role) (from : ℕ) → from < 64 → sum_below (way role from) 512 ≤ ways role
unfolding counted
role_ways role from h = within _ _ (all_below-at _ 64 (all_counted role) from h)

-- Of what stands on a square: nothing and an enemy have no ways.

own_way : Bool → Role → ℕ → ℕ → ℕ
own_way own role from k = cond own (way role from k) 0

own_ways : Bool → Role → ℕ
own_ways own role = cond own (ways role) 0

way_of : Color → Option Piece → ℕ → ℕ → ℕ
way_of color None from k = 0
way_of color (Some piece) from k = own_way (is_color piece.color color) piece.role from k

ways_of : Color → Option Piece → ℕ
ways_of color None = 0
ways_of color (Some piece) = own_ways (is_color piece.color color) piece.role

no_ways : (n : ℕ) → sum_below (λ k. 0) n ≡ 0
unfolding sum_below
no_ways zero = refl
no_ways (suc n) = let h : sum_below (λ k. 0) n ≡ 0 = no_ways n in omega arith

own_counted : (own : Bool) (role : Role) (from : ℕ) → from < 64 → sum_below (own_way own role from) 512 ≤ own_ways own role
unfolding own_way own_ways
own_counted true role from h = role_ways role from h
own_counted false role from h = let e : sum_below (λ k. 0) 512 ≡ 0 = no_ways 512 in omega arith

piece_counted : (color : Color) (occupant : Option Piece) (from : ℕ) → from < 64 → sum_below (way_of color occupant from) 512 ≤ ways_of color occupant
unfolding way_of ways_of
piece_counted color None from h = let e : sum_below (λ k. 0) 512 ≡ 0 = no_ways 512 in omega arith
piece_counted color (Some piece) from h = own_counted (is_color piece.color color) piece.role from h

-- Of a position: the places of the moves that begin on one square are a block of 512.

way_at : Position → ℕ → ℕ
way_at p n = way_of p.turn (piece_at p.squares (n / 512)) (n / 512) (n % 512)

block : (p : Position) (s : ℕ) → sum_below (λ k. way_at p (512 * s + k)) 512 ≡ sum_below (way_of p.turn (piece_at p.squares s) s) 512
unfolding way_at
block p s = sum_below-cong _ _ 512 (λ k h.
    let square : (512 * s + k) / 512 ≡ s = omega arith in
    let rest : (512 * s + k) % 512 ≡ k = omega arith in
    ap (λ x. way_of p.turn (piece_at p.squares x) x ((512 * s + k) % 512)) square ∙ ap (way_of p.turn (piece_at p.squares s) s) rest)

blocks_more : (p : Position) (s : ℕ) → s < 64 → length p.squares ≡ 64
    → sum_below (way_at p) (512 * s) ≤ sum_by (ways_of p.turn) (take s p.squares)
    → sum_below (way_at p) (512 * (s + 1)) ≤ sum_by (ways_of p.turn) (take (s + 1) p.squares)
blocks_more p s on whole before =
    let e : 512 * (s + 1) ≡ 512 * s + 512 = omega arith in
    let split : sum_below (way_at p) (512 * s + 512) ≡ sum_below (way_at p) (512 * s) + sum_below (λ k. way_at p (512 * s + k)) 512 =
    sum_below-add (way_at p) (512 * s) 512 in
    let same : sum_below (way_at p) (512 * (s + 1)) ≡ sum_below (way_at p) (512 * s + 512) = ap (sum_below (way_at p)) e in
    let here : sum_below (λ k. way_at p (512 * s + k)) 512 ≡ sum_below (way_of p.turn (piece_at p.squares s) s) 512 = block p s in
    let most : sum_below (way_of p.turn (piece_at p.squares s) s) 512 ≤ ways_of p.turn (piece_at p.squares s) = piece_counted p.turn (piece_at p.squares s) s on in
    let more : sum_by (ways_of p.turn) (take (s + 1) p.squares) ≡ sum_by (ways_of p.turn) (take s p.squares) + ways_of p.turn (piece_at p.squares s) =
    sum_by_more (ways_of p.turn) p.squares s None (let h : s < length p.squares = omega arith in h) in
    omega arith

blocks : (p : Position) (s : ℕ) → s ≤ 64 → length p.squares ≡ 64
    → sum_below (way_at p) (512 * s) ≤ sum_by (ways_of p.turn) (take s p.squares)
unfolding sum_below
blocks p zero on whole = omega arith
blocks p (suc s) on whole =
    let P : ℕ → Type 0 = λ n. sum_below (way_at p) (512 * n) ≤ sum_by (ways_of p.turn) (take n p.squares) in
    let below : s ≤ 64 = omega arith in
    let next : s < 64 = omega arith in
    subst P (add-one s) (blocks_more p s next whole (blocks p s below whole))

-- Of a side: 27 for each piece, and 17 less for the king.

piece_share : (color : Color) (occupant : Option Piece)
    → ways_of color occupant + 17 * cond (is_king_of color occupant) 1 0 ≡ 27 * cond (is_of_color color occupant) 1 0
unfolding ways_of own_ways ways
piece_share color None = refl
piece_share color (Some piece) = by_tests (is_color piece.color color) (is_king piece.role)
  where
    by_tests : (own king : Bool) → cond own (cond king 10 27) 0 + 17 * cond (own && king) 1 0 ≡ 27 * cond own 1 0
    by_tests true true = refl
    by_tests true false = refl
    by_tests false king = refl

side_share : (color : Color) (squares : List (Option Piece))
    → sum_by (ways_of color) squares + 17 * count_by (is_king_of color) squares ≡ 27 * count_by (is_of_color color) squares
side_share color [] = refl
side_share color (occupant ∷ squares) =
    let before : sum_by (ways_of color) squares + 17 * count_by (is_king_of color) squares ≡ 27 * count_by (is_of_color color) squares =
    side_share color squares in
    let ways_more : sum_by (ways_of color) (occupant ∷ squares) ≡ ways_of color occupant + sum_by (ways_of color) squares = sum_by-cons _ occupant squares in
    let kings_more : count_by (is_king_of color) (occupant ∷ squares) ≡ cond (is_king_of color occupant) 1 0 + count_by (is_king_of color) squares = sum_by-cons _ occupant squares in
    let pieces_more : count_by (is_of_color color) (occupant ∷ squares) ≡ cond (is_of_color color occupant) 1 0 + count_by (is_of_color color) squares = sum_by-cons _ occupant squares in
    let share : ways_of color occupant + 17 * cond (is_king_of color occupant) 1 0 ≡ 27 * cond (is_of_color color occupant) 1 0 = piece_share color occupant in
    omega arith

all_ways : (p : Position) → IsValid p → sum_below (way_at p) 32768 ≤ 415
all_ways p valid =
    let blocked : sum_below (way_at p) (512 * 64) ≤ sum_by (ways_of p.turn) (take 64 p.squares) = blocks p 64 (omega arith) valid.board in
    let whole : sum_by (ways_of p.turn) (take 64 p.squares) ≤ sum_by (ways_of p.turn) p.squares = sum_by-take-le (ways_of p.turn) p.squares 64 in
    let share : sum_by (ways_of p.turn) p.squares + 17 * count_by (is_king_of p.turn) p.squares ≡ 27 * count_by (is_of_color p.turn) p.squares = side_share p.turn p.squares in
    let sets : HasPieces p.squares p.turn = has_pieces p p.turn valid in
    omega arith

-- Each legal move is one of the ways.

cond_true : (b : Bool) → b ≡ true → let one : ℕ = 1 in cond b one 0 ≡ one
cond_true b e = ap (λ x. let one : ℕ = 1 in cond x one 0) e

way_some : (color : Color) (role : Role) (from k : ℕ) → way_of color (piece_of color role) from k ≡ way role from k
unfolding way_of own_way
way_some color role from k = ap (λ own. cond own (way role from k) 0) (color_self color)

at_place : (p : Position) (n s k : ℕ) → n / 512 ≡ s → n % 512 ≡ k → way_at p n ≡ way_of p.turn (piece_at p.squares s) s k
unfolding way_at
at_place p n s k square rest =
    ap (λ x. way_of p.turn (piece_at p.squares x) x (n % 512)) square ∙ ap (way_of p.turn (piece_at p.squares s) s) rest

at_way : (role : Role) (from k to promotion : ℕ) → k / 8 ≡ to → k % 8 ≡ promotion → destination role from to promotion ≡ true → way role from k ≡ 1
unfolding way
at_way role from k to promotion e f h = cond_true (destination role from (k / 8) (k % 8)) (ap (λ t. destination role from t (k % 8)) e ∙ ap (destination role from to) f ∙ h)

moves_way : (p : Position) (m : Move) → Mover p m → way_at p (place_of m) ≡ 1
moves_way p m mover =
    let last : promotion_place m.promotion < 8 = promotion_place-lt m.promotion in
    let to_on : m.to.index < 64 = m.to.on_board in
    let from_is : place_of m / 512 ≡ m.from.index = omega arith in
    let rest_is : place_of m % 512 ≡ 8 * m.to.index + promotion_place m.promotion = omega arith in
    let to_is : (8 * m.to.index + promotion_place m.promotion) / 8 ≡ m.to.index = omega arith in
    let promotion_is : (8 * m.to.index + promotion_place m.promotion) % 8 ≡ promotion_place m.promotion = omega arith in
    at_place p (place_of m) m.from.index (8 * m.to.index + promotion_place m.promotion) from_is rest_is
    ∙ ap (λ o. way_of p.turn o m.from.index (8 * m.to.index + promotion_place m.promotion)) mover.stands
    ∙ way_some p.turn mover.role m.from.index _
    ∙ at_way mover.role m.from.index (8 * m.to.index + promotion_place m.promotion) m.to.index (promotion_place m.promotion) to_is promotion_is
    (goes-destination p m mover.role mover.stands mover.goes)

-- A list of moves whose places rise has at most as many as there are ways.

rising_tail : (m : Move) (ms : List Move) → AllPairs (λ a b. place_of a < place_of b) (m ∷ ms) → AllPairs (λ a b. place_of a < place_of b) ms
rising_tail m ms rising = λ i j d before inside. rising (suc i) (suc j) d (let h : suc i < suc j = omega arith in h) (let h : suc j < suc (length ms) = omega arith in h)

rising_head : (m x : Move) (ms : List Move) → AllPairs (λ a b. place_of a < place_of b) (m ∷ ms) → Contains ms x → place_of m < place_of x
rising_head m x ms rising c =
    let k : ℕ = c.0 in
    let h : k < length ms = c.1 in
    let P : Move → Type 0 = λ y. place_of m < place_of y in
    subst P c.2 (rising 0 (suc k) x (omega arith) (let g : suc k < suc (length ms) = omega arith in g))

fits_from : (p : Position) (low high : ℕ) (ms : List Move)
    → AllPairs (λ a b. place_of a < place_of b) ms
    → ((m : Move) → Contains ms m → low ≤ place_of m)
    → ((m : Move) → Contains ms m → place_of m < high)
    → ((m : Move) → Contains ms m → way_at p (place_of m) ≡ 1)
    → low ≤ high
    → length ms + sum_below (way_at p) low ≤ sum_below (way_at p) high
fits_from p low high [] rising above below counts ordered =
    let h : sum_below (way_at p) low ≤ sum_below (way_at p) high = sum_below-le (way_at p) low high ordered in omega arith
fits_from p low high (m ∷ ms) rising above below counts ordered =
    let here : ℕ = place_of m in
    let low_is : low ≤ here = above m (contains-first ms m) in
    let high_is : here < high = below m (contains-first ms m) in
    let one : way_at p here ≡ 1 = counts m (contains-first ms m) in
    let rest : length ms + sum_below (way_at p) (here + 1) ≤ sum_below (way_at p) high =
    fits_from p (here + 1) high ms (rising_tail m ms rising)
    (λ x c. let h : here < place_of x = rising_head m x ms rising c in omega arith)
    (λ x c. below x (contains-later m ms x c))
    (λ x c. counts x (contains-later m ms x c))
    (omega arith) in
    let more : sum_below (way_at p) (here + 1) ≡ sum_below (way_at p) here + way_at p here = sum_below-more (way_at p) here in
    let low_less : sum_below (way_at p) low ≤ sum_below (way_at p) here = sum_below-le (way_at p) low here low_is in
    omega arith

le_through : (n low high most : ℕ) → n + low ≤ high → high ≤ most → n ≤ most
le_through n low high most h k = omega arith

pub legal_moves_few : (p : Position) (ms : List Move) → IsValid p → AllPairs (λ a b. place_of a < place_of b) ms
    → ((m : Move) → Contains ms m → Legal p m) → length ms ≤ 415
legal_moves_few p ms valid rising legal =
    le_through (length ms) (sum_below (way_at p) 0) (sum_below (way_at p) 32768) 415
    (fits_from p 0 32768 ms rising (λ m c. omega arith) (λ m c. place_of-lt m) (λ m c. moves_way p m (mover p m (legal m c).0)) (lit≤ tt))
    (all_ways p valid)
