-- How a list of the first legal moves grows.
use Rattle.std.proofs.Common.{◌≡◌, ◌≢◌, ℕ, ◌+◌, ◌*◌, ◌<◌, ◌≤◌, ◌⊎◌, ◌↔◌, Bool, true, false, IsTrue, Option, Some, None, List, [], ◌∷◌, ◌++◌, length, get_or, refl, sym, ap, subst, inl, inr, arith}
use Rattle.std.specs.List.{Contains, AllPairs, All}
use Rattle.std.proofs.lemmas.List.Elements.{Contains-append_left, Contains-push, Contains-push_cases, Contains-get_or}
use Rattle.std.proofs.lemmas.List.Quantifiers.{all_pairs_push}
use Rattle.plain_laws.specs.Lists.{contains-none}
use Rattle.step_tables.specs.Bitboard.{Holds}
use Rattle.step_tables.proofs.BitboardLemmas.{Holds-zero}
use Rattle.explorer_model.specs.declared.chess.Role.{Role}
use Rattle.explorer_model.specs.declared.chess.Role.TheVariants.{Pawn, Knight, Bishop, Rook, Queen, King}
use Rattle.explorer_model.specs.declared.chess.Position.{Position}
use Rattle.explorer_model.specs.declared.chess.Move.{Move}
use Rattle.explorer_model.specs.Board.{piece_at, IsOfColor}
use Rattle.explorer_model.specs.Chess.{IsValid, IsPromotion, Legal}
use Rattle.legal_moves.specs.Listing.{promotion_place, place_of, ListsBelow, IsDestination, IsPromoting}
use Rattle.legal_moves.specs.EnemySets.{IsBitboardOf, IsWithout}
use Rattle.legal_moves.proofs.DestinationLemmas.{pseudo_legal-promotion, pseudo_legal-destination}
use Rattle.legal_moves.proofs.Places.{promotion_place-lt, from_is, to_from, to_before, promotion_from, place_of-injective, place_of-lt}
use Rattle.legal_moves.proofs.Caps.{legal_moves_few}

lt_or_le : (a b : ℕ) → (a < b) ⊎ (b ≤ a)
lt_or_le a b = search arith

below_or_at : (a n : ℕ) → a < n + 1 → (a < n) ⊎ (a ≡ n)
below_or_at a n h = elim (lt_or_le a n) [ inl less ↦ inl less | inr more ↦ inr (omega arith) ]

pub lists-none : (p : Position) → ListsBelow p 0 []
lists-none p = record {
  sound = λ m c. absurd (contains-none m c);
  below = λ m c. absurd (contains-none m c);
  complete = λ m legal h. absurd (omega arith);
  rising = λ i j d ij h. absurd (omega arith);
}

-- one more move, at the place that comes next
pub lists-push : (p : Position) (m : Move) (moves : List Move) → ListsBelow p (place_of m) moves → Legal p m
    → ListsBelow p (place_of m + 1) (moves ++ m ∷ [])
lists-push p m moves l legal = record {
  sound = λ x c. elim (Contains-push_cases moves m x c) [ inl old ↦ l.sound x old | inr new ↦ subst (Legal p) new legal ];
  below = λ x c. elim (Contains-push_cases moves m x c) [
    | inl old ↦ (let h : place_of x < place_of m = l.below x old in omega arith)
    | inr new ↦ (let h : place_of m ≡ place_of x = ap place_of new in omega arith)
  ];
  complete = λ x x_legal h. elim (below_or_at (place_of x) (place_of m) h) [
    | inl less ↦ Contains-append_left moves (m ∷ []) x (l.complete x x_legal less)
    | inr equal ↦ subst (Contains (moves ++ m ∷ [])) (sym (place_of-injective x m equal)) (Contains-push moves m)
  ];
  rising = all_pairs_push (λ a b. place_of a < place_of b) moves m l.rising (λ k d h. l.below (get_or moves k d) (Contains-get_or moves k d h));
}

-- places on which no legal move stands
pub lists-skip : (p : Position) (n k : ℕ) (moves : List Move) → ListsBelow p n moves → n ≤ k
    → ((m : Move) → Legal p m → n ≤ place_of m → place_of m < k → ⊥)
    → ListsBelow p k moves
lists-skip p n k moves l more none = record {
  sound = l.sound;
  below = λ m c. (let h : place_of m < n = l.below m c in omega arith);
  complete = λ m legal h. elim (lt_or_le (place_of m) n) [
    | inl less ↦ l.complete m legal less
    | inr above ↦ absurd (none m legal above h)
  ];
  rising = l.rising;
}

-- one place, on which a move stands that is not legal
pub lists-pass : (p : Position) (m : Move) (moves : List Move) → ListsBelow p (place_of m) moves → ¬ Legal p m
    → ListsBelow p (place_of m + 1) moves
lists-pass p m moves l illegal =
    lists-skip p (place_of m) (place_of m + 1) moves l (omega arith)
    (λ x legal above below. illegal (subst (Legal p) (place_of-injective x m (omega arith)) legal))

-- What the whole list has.

pub all-each : (p : Position) (n : ℕ) (moves : List Move) → 32768 ≤ n → ListsBelow p n moves → (m : Move) → Contains moves m ↔ Legal p m
all-each p n moves all l m = (
  λ c. l.sound m c,
  λ legal. l.complete m legal (let h : place_of m < 32768 = place_of-lt m in omega arith),
)

places_apart : (a b : Move) → place_of a < place_of b → a ≢ b
places_apart a b less e = let same : place_of a ≡ place_of b = ap place_of e in omega arith

pub all-once : (p : Position) (n : ℕ) (moves : List Move) → ListsBelow p n moves → AllPairs (λ a b. a ≢ b) moves
all-once p n moves l i j d before inside = places_apart _ _ (l.rising i j d before inside)

pub all-sound : (p : Position) (n : ℕ) (moves : List Move) → ListsBelow p n moves → All (λ m. Legal p m) moves
all-sound p n moves l k d inside = l.sound _ (Contains-get_or moves k d inside)

pub lists-few : (p : Position) (n : ℕ) (moves : List Move) → IsValid p → ListsBelow p n moves → length moves ≤ 415
lists-few p n moves valid l = legal_moves_few p moves valid l.rising l.sound

-- there is room for one more
pub lists-room : (p : Position) (m : Move) (moves : List Move) → IsValid p → ListsBelow p (place_of m) moves → Legal p m → length moves < 416
lists-room p m moves valid l legal = let few : length moves ≤ 415 = lists-few p (place_of m) moves valid l in omega arith

-- A list without moves.

pub some_listed : (p : Position) (n : ℕ) (moves : List Move) → ListsBelow p n moves → (length moves ≡ 0 → ⊥) → (m : Move) × Legal p m
some_listed p n [] l some = absurd (some refl)
some_listed p n (m ∷ moves) l some = (m, l.sound m (0, omega arith, refl))

pub none_listed : (p : Position) (n : ℕ) → 32768 ≤ n → ListsBelow p n [] → (m : Move) × Legal p m → ⊥
none_listed p n all l some =
    contains-none some.0 (l.complete some.0 some.1 (let h : place_of some.0 < 32768 = place_of-lt some.0 in omega arith))

-- The moves from one square to another.

promotion_last : (o : Option Role) → IsPromotion o → (1 ≤ promotion_place o) × (promotion_place o < 5)
promotion_last None h = absurd h
promotion_last (Some Pawn) h = absurd h
promotion_last (Some Knight) h = (omega arith, omega arith)
promotion_last (Some Bishop) h = (omega arith, omega arith)
promotion_last (Some Rook) h = (omega arith, omega arith)
promotion_last (Some Queen) h = (omega arith, omega arith)
promotion_last (Some King) h = absurd h

skip-between : (p : Position) (from to n k : ℕ) (moves : List Move) → to < 64 → n ≤ k → n < 8 → k ≤ 8
    → ((m : Move) → Legal p m → m.from.index ≡ from → m.to.index ≡ to → n ≤ promotion_place m.promotion → promotion_place m.promotion < k → ⊥)
    → ListsBelow p (512 * from + 8 * to + n) moves → ListsBelow p (512 * from + 8 * to + k) moves
skip-between p from to n k moves on more few most none l =
    lists-skip p (512 * from + 8 * to + n) (512 * from + 8 * to + k) moves l (omega arith)
    (λ m legal low high.
    let parts : (m.from.index ≡ from) × (m.to.index ≡ to) × (n ≤ promotion_place m.promotion) =
    promotion_from m from to n on few low (let h : place_of m < 512 * from + 8 * to + k = high in omega arith) in
    let here : m.from.index ≡ from = parts.0 in
    let there : m.to.index ≡ to = parts.1 in
    let h : place_of m < 512 * from + 8 * to + k = high in
    none m legal here there parts.2 (omega arith))

promoting_at : (p : Position) (m : Move) (from to : ℕ) → m.from.index ≡ from → m.to.index ≡ to → IsPromoting p m.from.index m.to.index → IsPromoting p from to
promoting_at p m from to here there promoting =
    let A : ℕ → Type 0 = λ a. IsPromoting p a m.to.index in
    let B : ℕ → Type 0 = λ b. IsPromoting p from b in
    subst B there (subst A here promoting)

-- after the move that promotes nothing, where none is promoted
pub quiet-listed : (p : Position) (from to : ℕ) (moves : List Move) → to < 64 → ¬ IsPromoting p from to
    → ListsBelow p (512 * from + 8 * to + 1) moves → ListsBelow p (512 * from + 8 * to + 8) moves
quiet-listed p from to moves on unpromoting l =
    skip-between p from to 1 8 moves on (omega arith) (omega arith) (omega arith)
    (λ m legal here there some last. elim (pseudo_legal-promotion p m legal.0) [
      | inl none ↦ (let e : promotion_place m.promotion ≡ 0 = ap promotion_place none.0 in let h : 1 ≤ promotion_place m.promotion = some in omega arith)
      | inr promoted ↦ unpromoting (promoting_at p m from to here there promoted.0)
    ])
    l

-- before the promotions, and after them

pub promotions-next : (p : Position) (from to : ℕ) (moves : List Move) → from < 64 → to < 64 → IsPromoting p from to
    → ListsBelow p (512 * from + 8 * to) moves → ListsBelow p (512 * from + 8 * to + 1) moves
promotions-next p from to moves from_on on promoting l =
    let P : ℕ → Type 0 = λ n. ListsBelow p n moves in
    let e : 512 * from + 8 * to ≡ 512 * from + 8 * to + 0 = omega arith in
    skip-between p from to 0 1 moves on (omega arith) (omega arith) (omega arith)
    (λ m legal here there low high. elim (pseudo_legal-promotion p m legal.0) [
      | inl none ↦ none.1 (
          let A : ℕ → Type 0 = λ a. IsPromoting p a m.to.index in
          let B : ℕ → Type 0 = λ b. IsPromoting p from b in
          subst A (sym here) (subst B (sym there) promoting)
          )
      | inr promoted ↦ (
          let some : 1 ≤ promotion_place m.promotion = (promotion_last m.promotion promoted.1).0 in
          let h : promotion_place m.promotion < 1 = high in
          omega arith
          )
    ])
    (subst P e l)

pub promotions-listed : (p : Position) (from to : ℕ) (moves : List Move) → to < 64
    → ListsBelow p (512 * from + 8 * to + 5) moves → ListsBelow p (512 * from + 8 * to + 8) moves
promotions-listed p from to moves on l =
    skip-between p from to 5 8 moves on (omega arith) (omega arith) (omega arith)
    (λ m legal here there low high. let h : 5 ≤ promotion_place m.promotion = low in elim (pseudo_legal-promotion p m legal.0) [
      | inl none ↦ (let e : promotion_place m.promotion ≡ 0 = ap promotion_place none.0 in omega arith)
      | inr promoted ↦ (let last : promotion_place m.promotion < 5 = (promotion_last m.promotion promoted.1).1 in omega arith)
    ])
    l

-- The moves from one square, by the squares that are left in a set of those that they may end on.

beyond_it : (b to : ℕ) → (b < to → ⊥) → (b ≡ to → ⊥) → to + 1 ≤ b
beyond_it b to above apart = omega arith

pub record IsWalked (p : Position) (from all rest : ℕ) (moves : List Move) : Type 0 where
  pub at : ℕ
  pub at_most : at ≤ 64
  pub lists : ListsBelow p (512 * from + 8 * at) moves
  pub left : (m : Move) → m.from.index ≡ from → Legal p m → at ≤ m.to.index → Holds rest m.to.index
  pub above : (b : ℕ) → b < 64 → Holds rest b → at ≤ b
  pub within : (b : ℕ) → b < 64 → Holds rest b → Holds all b

pub walked-none : (p : Position) (from all : ℕ) (moves : List Move) → ListsBelow p (512 * from) moves
    → ((m : Move) → m.from.index ≡ from → Holds all m.to.index ↔ IsDestination p m) → IsWalked p from all all moves
walked-none p from all moves l destination = record {
  at = 0;
  at_most = omega arith;
  lists = (let P : ℕ → Type 0 = λ n. ListsBelow p n moves in let e : 512 * from ≡ 512 * from + 8 * 0 = omega arith in subst P e l);
  left = λ m here legal _. (destination m here).1 (pseudo_legal-destination p m legal.0);
  above = λ b on bit. omega arith;
  within = λ b on bit. bit;
}

-- up to the next square that is left
pub walked-to : (p : Position) (from all rest to : ℕ) (moves : List Move) (w : IsWalked p from all rest moves) → w.at ≤ to → to ≤ 64
    → ((b : ℕ) → b < to → ¬ Holds rest b) → ListsBelow p (512 * from + 8 * to) moves
walked-to p from all rest to moves w ahead on none =
    lists-skip p (512 * from + 8 * w.at) (512 * from + 8 * to) moves w.lists (let h : w.at ≤ to = ahead in omega arith)
    (λ m legal low high.
    let here : m.from.index ≡ from = from_is m from (let h : 512 * from + 8 * w.at ≤ place_of m = low in omega arith) (let h : place_of m < 512 * from + 8 * to = high in omega arith) in
    none m.to.index (to_before m from to here high) (w.left m here legal (to_from m from w.at here low)))

pub walked-destination : (p : Position) (from all rest to : ℕ) (moves : List Move) → IsWalked p from all rest moves → to < 64 → Holds rest to
    → ((m : Move) → m.from.index ≡ from → Holds all m.to.index ↔ IsDestination p m)
    → (m : Move) → m.from.index ≡ from → m.to.index ≡ to → IsDestination p m
walked-destination p from all rest to moves w on bit destination m here there =
    (destination m here).0 (let P : ℕ → Type 0 = λ b. Holds all b in subst P (sym there) (w.within to on bit))

pub walked-next : (p : Position) (from all rest less to : ℕ) (moves more : List Move) → IsWalked p from all rest moves → to < 64
    → ((b : ℕ) → b < to → ¬ Holds rest b) → Holds rest to → IsWithout rest to less
    → ListsBelow p (512 * from + 8 * to + 8) more → IsWalked p from all less more
walked-next p from all rest less to moves more w on lowest within without l = record {
  at = to + 1;
  at_most = omega arith;
  lists = (let P : ℕ → Type 0 = λ n. ListsBelow p n more in let e : 512 * from + 8 * to + 8 ≡ 512 * from + 8 * (to + 1) = omega arith in subst P e l);
  left = λ m here legal beyond.
      let start : w.at ≤ to = w.above to on within in
      let before : w.at ≤ m.to.index = omega arith in
      (without m.to.index m.to.on_board).1 (w.left m here legal before, λ e. omega arith);
  above = λ b b_on bit.
      let old : Holds rest b × (b ≡ to → ⊥) = (without b b_on).0 bit in
      beyond_it b to (λ below. lowest b below old.0) old.1;
  within = λ b b_on bit. w.within b b_on ((without b b_on).0 bit).0;
}

pub walked-all : (p : Position) (from all rest : ℕ) (moves : List Move) → IsWalked p from all rest moves → rest ≡ 0
    → ListsBelow p (512 * from + 512) moves
walked-all p from all rest moves w none =
    let P : ℕ → Type 0 = λ n. ListsBelow p n moves in
    let e : 512 * from + 8 * 64 ≡ 512 * from + 512 = omega arith in
    subst P e (walked-to p from all rest 64 moves w w.at_most (omega arith)
    (λ b _ bit. Holds-zero b (let Q : ℕ → Type 0 = λ x. Holds x b in subst Q none bit)))

-- The moves from all squares of the own pieces, by those that are left.

pub record IsSwept (p : Position) (rest : ℕ) (moves : List Move) : Type 0 where
  pub at : ℕ
  pub at_most : at ≤ 64
  pub lists : ListsBelow p (512 * at) moves
  pub left : (m : Move) → Legal p m → at ≤ m.from.index → Holds rest m.from.index
  pub above : (b : ℕ) → b < 64 → Holds rest b → at ≤ b
  pub own : (b : ℕ) → b < 64 → Holds rest b → IsOfColor p.turn (piece_at p.squares b)

pub swept-none : (p : Position) (own : ℕ) → IsBitboardOf (IsOfColor p.turn) p.squares own → IsSwept p own []
swept-none p own is = record {
  at = 0;
  at_most = omega arith;
  lists = lists-none p;
  left = λ m legal _. (is m.from.index m.from.on_board).1 legal.0.0;
  above = λ b on bit. omega arith;
  own = λ b on bit. (is b on).0 bit;
}

from_before : (m : Move) (at : ℕ) → place_of m < 512 * at → m.from.index < at
from_before m at high = omega arith

from_from : (m : Move) (at : ℕ) → 512 * at ≤ place_of m → at ≤ m.from.index
from_from m at low =
    let last : promotion_place m.promotion < 8 = promotion_place-lt m.promotion in
    let to_on : m.to.index < 64 = m.to.on_board in
    omega arith

pub swept-to : (p : Position) (rest from : ℕ) (moves : List Move) (w : IsSwept p rest moves) → w.at ≤ from → from ≤ 64
    → ((b : ℕ) → b < from → ¬ Holds rest b) → ListsBelow p (512 * from) moves
swept-to p rest from moves w ahead on none =
    lists-skip p (512 * w.at) (512 * from) moves w.lists (let h : w.at ≤ from = ahead in omega arith)
    (λ m legal low high. none m.from.index (from_before m from high) (w.left m legal (from_from m w.at low)))

pub swept-next : (p : Position) (rest less from : ℕ) (moves more : List Move) → IsSwept p rest moves → from < 64
    → ((b : ℕ) → b < from → ¬ Holds rest b) → Holds rest from → IsWithout rest from less
    → ListsBelow p (512 * from + 512) more → IsSwept p less more
swept-next p rest less from moves more w on lowest within without l = record {
  at = from + 1;
  at_most = omega arith;
  lists = (let P : ℕ → Type 0 = λ n. ListsBelow p n more in let e : 512 * from + 512 ≡ 512 * (from + 1) = omega arith in subst P e l);
  left = λ m legal beyond.
      let start : w.at ≤ from = w.above from on within in
      let before : w.at ≤ m.from.index = omega arith in
      (without m.from.index m.from.on_board).1 (w.left m legal before, λ e. omega arith);
  above = λ b b_on bit.
      let old : Holds rest b × (b ≡ from → ⊥) = (without b b_on).0 bit in
      beyond_it b from (λ below. lowest b below old.0) old.1;
  own = λ b b_on bit. w.own b b_on ((without b b_on).0 bit).0;
}

pub swept-all : (p : Position) (rest : ℕ) (moves : List Move) → IsSwept p rest moves → rest ≡ 0 → ListsBelow p 32768 moves
swept-all p rest moves w none =
    let P : ℕ → Type 0 = λ n. ListsBelow p n moves in
    let e : 512 * 64 ≡ 32768 = refl in
    subst P e (swept-to p rest 64 moves w w.at_most (omega arith)
    (λ b _ bit. Holds-zero b (let Q : ℕ → Type 0 = λ x. Holds x b in subst Q none bit)))

-- What a test says.

pub some-true : (b : Bool) (P : Type 0) → IsTrue b ↔ P → b ≡ true → P
some-true b P says e = says.0 e

pub none-false : (b : Bool) (P : Type 0) → IsTrue b ↔ P → b ≡ false → ¬ P
none-false b P says e holds = let yes : b ≡ true = says.1 holds in cc

-- each move that is walked through is a legal one
pub listed_legal : (p : Position) (listed moves : List Move) (k : ℕ) (m : Move) → All (λ m. Legal p m) moves → listed ≡ moves → k < length listed
    → m ≡ get_or listed k m → Legal p m
listed_legal p listed moves k m sound same inside is =
    let AreLegal : List Move → Type 0 = λ moves. All (λ m. Legal p m) moves in
    subst (Legal p) (sym is) (subst AreLegal (sym same) sound k m inside)

-- what lists the legal moves of a board lists them as its position and its slice have them
pub lists-same : (p q : Position) (items moves : List Move) → q ≡ p → moves ≡ items
    → ((m : Move) → Contains items m ↔ Legal p m) → (m : Move) → Contains moves m ↔ Legal q m
lists-same p q items moves same listed each m =
    let P : Position → Type 0 = λ r. Contains items m ↔ Legal r m in
    let Q : List Move → Type 0 = λ list. Contains list m ↔ Legal q m in
    subst Q (sym listed) (subst P (sym same) (each m))
