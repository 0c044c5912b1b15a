-- Where a piece of each role may go by geometry alone, whatever stands on the board.
use Rattle.std.proofs.Common.{◌≡◌, ◌≢◌, ℕ, ◌+◌, ◌<◌, ◌≤◌, ◌⊎◌, Bool, true, false, not, ltb, ◌&&◌, ◌||◌, ◌==◌, List, Option, Some, None, refl, sym, ap, subst, inl, inr, arith}
use Rattle.std.proofs.lemmas.Bool.Decides.{nat_tests}
use Rattle.explorer_model.specs.declared.chess.Color.{Color}
use Rattle.explorer_model.specs.declared.chess.Color.TheVariants.{White, Black}
use Rattle.explorer_model.specs.declared.chess.Role.{Role}
use Rattle.explorer_model.specs.declared.chess.Role.TheVariants.{Pawn, Knight, Bishop, Rook, Queen, King}
use Rattle.explorer_model.specs.declared.chess.Side.{Side}
use Rattle.explorer_model.specs.declared.chess.Side.TheVariants.{Short, Long}
use Rattle.explorer_model.specs.declared.chess.Piece.{Piece}
use Rattle.explorer_model.specs.declared.chess.Position.{Position}
use Rattle.explorer_model.specs.declared.chess.Move.{Move}
use Rattle.explorer_model.specs.Board.{file_of, rank_of, files_apart, ranks_apart, piece_of, piece_at, RookLine, BishopLine, IsRankAhead, RoleAttacks, PieceAttacks, Attacks}
use Rattle.explorer_model.specs.Chess.{last_rank, king_home, king_target, IsPromotion, Promotes, PawnSteps, PawnDoubleSteps, PawnCaptures, CastlesTo, Castles, RoleMoves}
use Rattle.legal_moves.specs.Listing.{promotion_place}

-- may a piece of this role go so many files and ranks far?
unfoldable pub spans : Role → ℕ → ℕ → Bool
spans Pawn files ranks = ltb files 2 && (ranks == 1) || (files == 0) && (ranks == 2)
spans Knight files ranks = (files == 1) && (ranks == 2) || (files == 2) && (ranks == 1)
spans Bishop files ranks = (files == ranks) && not (files == 0)
spans Rook files ranks = (files == 0) && not (ranks == 0) || (ranks == 0) && not (files == 0)
spans Queen files ranks = (files == ranks) && not (files == 0) || (files == 0) && not (ranks == 0) || (ranks == 0) && not (files == 0)
spans King files ranks = ltb files 2 && ltb ranks 2 && not (files + ranks == 0) || (files == 2) && (ranks == 0)

-- may a piece of this role be promoted so where it ends on this square?
unfoldable pub may_become : Role → ℕ → ℕ → Bool
may_become Pawn to promotion = (promotion == 0) || ltb promotion 5 && ((rank_of to == 0) || (rank_of to == 7))
may_become _ to promotion = promotion == 0

unfoldable pub destination : Role → ℕ → ℕ → ℕ → Bool
destination role from to promotion = spans role (files_apart from to) (ranks_apart from to) && may_become role to promotion

both : (x y : Bool) → x ≡ true → y ≡ true → x && y ≡ true
both true y a b = b
both false y a b = a

not_same : (a b : ℕ) → a ≢ b → files_apart a b ≡ 0 → ranks_apart a b ≡ 0 → ⊥
not_same a b apart f r = apart (omega arith)

knight_spans : (f r : ℕ) → ((f ≡ 1) × (r ≡ 2)) ⊎ ((f ≡ 2) × (r ≡ 1)) → spans Knight f r ≡ true
unfolding spans
knight_spans f r h = grind (arith, nat_tests)

bishop_spans : (f r : ℕ) → f ≡ r → (f ≡ 0 → r ≡ 0 → ⊥) → spans Bishop f r ≡ true
unfolding spans
bishop_spans f r h apart = grind (arith, nat_tests)

rook_spans : (f r : ℕ) → (f ≡ 0) ⊎ (r ≡ 0) → (f ≡ 0 → r ≡ 0 → ⊥) → spans Rook f r ≡ true
unfolding spans
rook_spans f r h apart = grind (arith, nat_tests)

queen_spans : (f r : ℕ) → ((f ≡ 0) ⊎ (r ≡ 0)) ⊎ (f ≡ r) → (f ≡ 0 → r ≡ 0 → ⊥) → spans Queen f r ≡ true
unfolding spans
queen_spans f r h apart = grind (arith, nat_tests)

king_spans : (f r : ℕ) → f ≤ 1 → r ≤ 1 → (f ≡ 0 → r ≡ 0 → ⊥) → spans King f r ≡ true
unfolding spans
king_spans f r files ranks apart = grind (arith, nat_tests)

castling_spans : (f r : ℕ) → f ≡ 2 → r ≡ 0 → spans King f r ≡ true
unfolding spans
castling_spans f r files ranks = grind (arith, nat_tests)

pawn_spans : (f r : ℕ) → ((f ≤ 1) × (r ≡ 1)) ⊎ ((f ≡ 0) × (r ≡ 2)) → spans Pawn f r ≡ true
unfolding spans
pawn_spans f r h = grind (arith, nat_tests)

one_rank : (color : Color) (a b : ℕ) → IsRankAhead color a b → ranks_apart a b ≡ 1
one_rank White a b ahead = omega arith
one_rank Black a b ahead = omega arith

queen_line_spans : (a b : ℕ) → RookLine a b ⊎ BishopLine a b → spans Queen (files_apart a b) (ranks_apart a b) ≡ true
queen_line_spans a b (inl line) = queen_spans _ _ (inl line.0) (not_same a b line.1)
queen_line_spans a b (inr line) = queen_spans _ _ (inr line.0) (not_same a b line.1)

at_most_one : (n : ℕ) → n ≡ 1 → n ≤ 1
at_most_one n e = omega arith

pub attacks-spans : (squares : List (Option Piece)) (color : Color) (role : Role) (a b : ℕ) → RoleAttacks squares color role a b
    → spans role (files_apart a b) (ranks_apart a b) ≡ true
attacks-spans squares color Pawn a b h = pawn_spans _ _ (inl (at_most_one _ h.1, one_rank color a b h.0))
attacks-spans squares color Knight a b h = knight_spans _ _ h
attacks-spans squares color Bishop a b h = bishop_spans _ _ h.0.0 (not_same a b h.0.1)
attacks-spans squares color Rook a b h = rook_spans _ _ h.0.0 (not_same a b h.0.1)
attacks-spans squares color Queen a b h = queen_line_spans a b h.0
attacks-spans squares color King a b h = king_spans _ _ h.0 h.1 (not_same a b h.2)

same_file : (a b : ℕ) → file_of a ≡ file_of b → files_apart a b ≡ 0
same_file a b e = omega arith

pawn_goes : (p : Position) (m : Move) → PawnSteps p m ⊎ PawnDoubleSteps p m ⊎ PawnCaptures p m
    → spans Pawn (files_apart m.from.index m.to.index) (ranks_apart m.from.index m.to.index) ≡ true
pawn_goes p m (inl s) = pawn_spans _ _ (inl (at_most_none _ (same_file _ _ s.0), one_rank p.turn _ _ s.1))
  where
    at_most_none : (n : ℕ) → n ≡ 0 → n ≤ 1
    at_most_none n e = omega arith
pawn_goes p m (inr (inl s)) = pawn_spans _ _ (inr (same_file _ _ s.1, s.2))
pawn_goes p m (inr (inr s)) = attacks-spans p.squares p.turn Pawn _ _ s.0

last_rank_cases : (color : Color) (to : ℕ) → rank_of to ≡ last_rank color → (rank_of to ≡ 0) ⊎ (rank_of to ≡ 7)
last_rank_cases White to e = inr e
last_rank_cases Black to e = inl e

promotion-lt : (o : Option Role) → IsPromotion o → promotion_place o < 5
promotion-lt None h = absurd h
promotion-lt (Some Pawn) h = absurd h
promotion-lt (Some Knight) h = omega arith
promotion-lt (Some Bishop) h = omega arith
promotion-lt (Some Rook) h = omega arith
promotion-lt (Some Queen) h = omega arith
promotion-lt (Some King) h = absurd h

pawn_plain : (to c : ℕ) → c ≡ 0 → may_become Pawn to c ≡ true
unfolding may_become
pawn_plain to c e = grind (arith, nat_tests)

pawn_promotes : (to c rank : ℕ) → rank_of to ≡ rank → c < 5 → (rank ≡ 0) ⊎ (rank ≡ 7) → may_become Pawn to c ≡ true
unfolding may_become
pawn_promotes to c rank e h ends =
    let test : (r : ℕ) → (r ≡ 0) ⊎ (r ≡ 7) → (c == 0) || ltb c 5 && ((r == 0) || (r == 7)) ≡ true = λ r cases. grind (arith, nat_tests) in
    test (rank_of to) (let P : ℕ → Type 0 = λ r. (r ≡ 0) ⊎ (r ≡ 7) in subst P (sym e) ends)

pawn_becomes : (color : Color) (m : Move) → Promotes color m → may_become Pawn m.to.index (promotion_place m.promotion) ≡ true
pawn_becomes color m (inl h) = pawn_promotes _ _ _ refl (promotion-lt m.promotion h.1) (last_rank_cases color m.to.index h.0)
pawn_becomes color m (inr h) = pawn_plain m.to.index (promotion_place m.promotion) (ap promotion_place h.1)

zero_is : (c : ℕ) → c ≡ 0 → (c == 0) ≡ true
zero_is c e = grind (arith, nat_tests)

pub castles_files : (color : Color) (side : Side) (from to : ℕ) → from ≡ king_home color → to ≡ king_target color side → files_apart from to ≡ 2
castles_files White Short from to f t = omega arith
castles_files White Long from to f t = omega arith
castles_files Black Short from to f t = omega arith
castles_files Black Long from to f t = omega arith

castles_ranks : (color : Color) (side : Side) (from to : ℕ) → from ≡ king_home color → to ≡ king_target color side → ranks_apart from to ≡ 0
castles_ranks White Short from to f t = omega arith
castles_ranks White Long from to f t = omega arith
castles_ranks Black Short from to f t = omega arith
castles_ranks Black Long from to f t = omega arith

castles_span : (p : Position) (m : Move) (side : Side) → CastlesTo side p m
    → spans King (files_apart m.from.index m.to.index) (ranks_apart m.from.index m.to.index) ≡ true
castles_span p m side c =
    castling_spans _ _ (castles_files p.turn side _ _ c.1 c.2) (castles_ranks p.turn side _ _ c.1 c.2)

attacks_as : (p : Position) (m : Move) (role : Role) → piece_at p.squares m.from.index ≡ piece_of p.turn role
    → Attacks p.squares m.from.index m.to.index
    → spans role (files_apart m.from.index m.to.index) (ranks_apart m.from.index m.to.index) ≡ true
attacks_as p m role stands attacks =
    let P : Option Piece → Type 0 = λ o. PieceAttacks p.squares o m.from.index m.to.index in
    attacks-spans p.squares p.turn role _ _ (subst P stands attacks)

king_goes : (p : Position) (m : Move) → piece_at p.squares m.from.index ≡ piece_of p.turn King
    → Attacks p.squares m.from.index m.to.index ⊎ Castles p m
    → spans King (files_apart m.from.index m.to.index) (ranks_apart m.from.index m.to.index) ≡ true
king_goes p m stands (inl attacks) = attacks_as p m King stands attacks
king_goes p m stands (inr (inl c)) = castles_span p m Short c
king_goes p m stands (inr (inr c)) = castles_span p m Long c

pub goes-destination : (p : Position) (m : Move) (role : Role) → piece_at p.squares m.from.index ≡ piece_of p.turn role → RoleMoves p role m
    → destination role m.from.index m.to.index (promotion_place m.promotion) ≡ true
unfolding destination may_become
goes-destination p m Pawn stands goes = both _ _ (pawn_goes p m goes.0) (pawn_becomes p.turn m goes.1)
goes-destination p m Knight stands goes = both _ _ (attacks_as p m Knight stands goes.0) (zero_is _ (ap promotion_place goes.1))
goes-destination p m Bishop stands goes = both _ _ (attacks_as p m Bishop stands goes.0) (zero_is _ (ap promotion_place goes.1))
goes-destination p m Rook stands goes = both _ _ (attacks_as p m Rook stands goes.0) (zero_is _ (ap promotion_place goes.1))
goes-destination p m Queen stands goes = both _ _ (attacks_as p m Queen stands goes.0) (zero_is _ (ap promotion_place goes.1))
goes-destination p m King stands goes = both _ _ (king_goes p m stands goes.0) (zero_is _ (ap promotion_place goes.1))
