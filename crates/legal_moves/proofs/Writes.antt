-- The squares after a move, as the few writes that make them.
use Rattle.std.proofs.Common.{◌≡◌, ℕ, ◌<◌, Bool, true, false, ◌&&◌, ◌==◌, if◌then◌else◌, List, length, set, Option, Some, None, refl, sym, ap, ◌∙◌, arith, lit<, get_or-set_other}
use Rattle.std.proofs.lemmas.Grind.{get_or-set_at}
use Rattle.std.proofs.lemmas.Bool.Decides.{nat_tests}
use Rattle.std.proofs.lemmas.List.{length-set}
use Rattle.std.proofs.lemmas.List.FromFn.{fill_by_all}
use Rattle.explorer_model.specs.declared.chess.Color.{Color}
use Rattle.explorer_model.specs.declared.chess.Color.TheVariants.{White, Black}
use Rattle.explorer_model.specs.declared.chess.Role.{Role}
use Rattle.explorer_model.specs.declared.chess.Role.TheVariants.{Pawn, Knight, Bishop, Rook, Queen, King}
use Rattle.explorer_model.specs.declared.chess.Side.{Side}
use Rattle.explorer_model.specs.declared.chess.Side.TheVariants.{Short, Long}
use Rattle.explorer_model.specs.declared.chess.Piece.{Piece}
use Rattle.explorer_model.specs.declared.chess.Position.{Position}
use Rattle.explorer_model.specs.declared.chess.Move.{Move}
use Rattle.explorer_model.specs.Board.{files_apart, halfway, piece_of, piece_at}
use Rattle.explorer_model.specs.Chess.{rook_home, is_pawn_at, is_king_at, is_square, takes_en_passant, is_pawn, is_king, captured_en_passant, is_castling, castling_side, arriving, placed, squares_after}

pub length-set_64 : (xs : List (Option Piece)) (i : ℕ) (occupant : Option Piece) → length xs ≡ 64 → length (set xs i occupant) ≡ 64
length-set_64 xs i occupant whole = length-set xs i occupant ∙ whole

pub piece_at-set : (xs : List (Option Piece)) (i k : ℕ) (occupant : Option Piece) → length xs ≡ 64 → i < 64
    → piece_at (set xs i occupant) k ≡ (if k == i then occupant else piece_at xs k)
piece_at-set xs i k occupant whole on_board = grind (arith, nat_tests, get_or-set_at, get_or-set_other)

-- the piece leaves one square and arrives on another
abbrev pub moved : List (Option Piece) → ℕ → ℕ → Option Piece → List (Option Piece)
moved xs from to occupant = set (set xs from None) to occupant

piece_at-moved : (xs : List (Option Piece)) (from to s : ℕ) (occupant : Option Piece) → length xs ≡ 64 → from < 64 → to < 64
    → piece_at (moved xs from to occupant) s ≡ (if s == to then occupant else if s == from then None else piece_at xs s)
piece_at-moved xs from to s occupant whole from_on to_on =
    piece_at-set (set xs from None) to s occupant (length-set_64 xs from None whole) to_on
    ∙ ap (λ o. if s == to then occupant else o) (piece_at-set xs from s None whole from_on)

pub length-moved : (xs : List (Option Piece)) (from to : ℕ) (occupant : Option Piece) → length xs ≡ 64 → length (moved xs from to occupant) ≡ 64
length-moved xs from to occupant whole = length-set_64 _ to occupant (length-set_64 xs from None whole)

-- `placed` with its tests, squares and pieces as variables
abbrev pub placed_by : Bool → Bool → ℕ → ℕ → ℕ → ℕ → ℕ → Option Piece → Option Piece → Option Piece → ℕ → Option Piece
placed_by takes castles from to passed home crossed arrives rook stands s =
    if s == to then arrives
    else if s == from then None
    else if takes && (s == passed) then None
    else if castles && (s == home) then None
    else if castles && (s == crossed) then rook
    else stands

pub placed-by : (p : Position) (m : Move) (takes castles : Bool) (s : ℕ) → takes_en_passant p m ≡ takes → is_castling p m ≡ castles
    → placed p m s
    ≡ placed_by takes castles m.from.index m.to.index (captured_en_passant m) (rook_home p.turn (castling_side m)) (halfway m.from.index m.to.index)
    (arriving (piece_at p.squares m.from.index) m.promotion) (piece_of p.turn Rook) (piece_at p.squares s) s
unfolding placed
placed-by p m takes castles s taken castled =
    let f : Bool → Bool → Option Piece =
    λ t c. placed_by t c m.from.index m.to.index (captured_en_passant m) (rook_home p.turn (castling_side m)) (halfway m.from.index m.to.index)
    (arriving (piece_at p.squares m.from.index) m.promotion) (piece_of p.turn Rook) (piece_at p.squares s) s in
    ap (λ t. f t (is_castling p m)) taken ∙ ap (λ c. f takes c) castled

pub squares-written : (p : Position) (m : Move) (xs : List (Option Piece)) → length xs ≡ 64
    → ((s : ℕ) → s < 64 → piece_at xs s ≡ placed p m s) → xs ≡ squares_after p m
unfolding squares_after
squares-written p m xs whole same = fill_by_all (placed p m) xs 64 None whole same

pub and-left : (x y : Bool) → x && y ≡ true → x ≡ true
and-left true y e = refl
and-left false y e = e

pub and-right : (x y : Bool) → x && y ≡ true → y ≡ true
and-right true y e = e
and-right false y e = cc

-- no pawn is a king
pub pawn_no_king : (o : Option Piece) → is_pawn_at o ≡ true → is_king_at o ≡ false
pawn_no_king None e = refl
pawn_no_king (Some piece) e = no_king piece.role e
  where
    no_king : (role : Role) → is_pawn role ≡ true → is_king role ≡ false
    no_king King e = cc
    no_king Pawn e = refl
    no_king Knight e = refl
    no_king Bishop e = refl
    no_king Rook e = refl
    no_king Queen e = refl

pub taking_no_castling : (p : Position) (m : Move) → takes_en_passant p m ≡ true → is_castling p m ≡ false
taking_no_castling p m e =
    ap (λ king. king && (files_apart m.from.index m.to.index == 2))
    (pawn_no_king (piece_at p.squares m.from.index) (and-left _ (is_square p.en_passant m.to.index) e))

pub rook_home_on_board : (color : Color) (side : Side) → rook_home color side < 64
rook_home_on_board White Short = lit< tt
rook_home_on_board White Long = lit< tt
rook_home_on_board Black Short = lit< tt
rook_home_on_board Black Long = lit< tt

pub passed_pawn_on_board : (m : Move) → captured_en_passant m < 64
passed_pawn_on_board m = let a : m.from.index < 64 = m.from.on_board in let b : m.to.index < 64 = m.to.on_board in omega arith

-- what arrives where nothing is promoted is what left
pub arriving-plain : (occupant : Option Piece) (promotion : Option Role) → promotion ≡ None → arriving occupant promotion ≡ occupant
arriving-plain occupant promotion none = ap (arriving occupant) none ∙ itself occupant
  where
    itself : (o : Option Piece) → arriving o None ≡ o
    itself None = refl
    itself (Some piece) = refl

-- most moves make two writes
pub plain_writes : (p : Position) (m : Move) → length p.squares ≡ 64 → takes_en_passant p m ≡ false → is_castling p m ≡ false
    → moved p.squares m.from.index m.to.index (arriving (piece_at p.squares m.from.index) m.promotion) ≡ squares_after p m
plain_writes p m whole no_taking no_castling =
    squares-written p m _ (length-moved _ _ _ _ whole)
    (λ s on. piece_at-moved p.squares _ _ s _ whole m.from.on_board m.to.on_board ∙ sym (placed-by p m false false s no_taking no_castling))

-- an en passant capture takes the passed pawn too
pub taking_writes : (p : Position) (m : Move) → length p.squares ≡ 64 → takes_en_passant p m ≡ true
    → moved (set p.squares (captured_en_passant m) None) m.from.index m.to.index (arriving (piece_at p.squares m.from.index) m.promotion)
    ≡ squares_after p m
taking_writes p m whole taking =
    squares-written p m _ (length-moved _ _ _ _ (length-set_64 p.squares (captured_en_passant m) None whole))
    (λ s on.
    piece_at-moved (set p.squares (captured_en_passant m) None) _ _ s _ (length-set_64 p.squares (captured_en_passant m) None whole) m.from.on_board m.to.on_board
    ∙ ap (λ o. if s == m.to.index then arriving (piece_at p.squares m.from.index) m.promotion else if s == m.from.index then None else o)
    (piece_at-set p.squares (captured_en_passant m) s None whole (passed_pawn_on_board m))
    ∙ sym (placed-by p m true false s taking (taking_no_castling p m taking)))

pub halfway_on_board : (a b : ℕ) → a < 64 → b < 64 → halfway a b < 64
halfway_on_board a b on_a on_b = omega arith

-- castling moves the rook too
pub castling_writes : (p : Position) (m : Move) → length p.squares ≡ 64 → takes_en_passant p m ≡ false → is_castling p m ≡ true
    → moved
    (set (set p.squares (halfway m.from.index m.to.index) (piece_of p.turn Rook)) (rook_home p.turn (castling_side m)) None)
    m.from.index m.to.index (arriving (piece_at p.squares m.from.index) m.promotion)
    ≡ squares_after p m
castling_writes p m whole no_taking castling =
    let crossed : ℕ = halfway m.from.index m.to.index in
    let home : ℕ = rook_home p.turn (castling_side m) in
    let rook : Option Piece = piece_of p.turn Rook in
    let one : length (set p.squares crossed rook) ≡ 64 = length-set_64 p.squares crossed rook whole in
    let two : length (set (set p.squares crossed rook) home None) ≡ 64 = length-set_64 _ home None one in
    squares-written p m _ (length-moved _ _ _ _ two)
    (λ s on.
    piece_at-moved (set (set p.squares crossed rook) home None) _ _ s _ two m.from.on_board m.to.on_board
    ∙ ap (λ o. if s == m.to.index then arriving (piece_at p.squares m.from.index) m.promotion else if s == m.from.index then None else o)
    (piece_at-set (set p.squares crossed rook) home s None one (rook_home_on_board p.turn (castling_side m))
    ∙ ap (λ o. if s == home then None else o)
    (piece_at-set p.squares crossed s rook whole (halfway_on_board _ _ m.from.on_board m.to.on_board)))
    ∙ sym (placed-by p m false true s no_taking castling))
