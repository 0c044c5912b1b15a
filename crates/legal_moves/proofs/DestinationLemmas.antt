-- Where pieces may go, as sets of squares, and which of these moves are pseudo-legal moves.
use Rattle.std.proofs.Common.{◌≡◌, ◌↔◌, ℕ, ◌<◌, ◌^◌, ◌⊎◌, true, List, Option, Some, None, bit_and, bit_or, w64, refl, sym, ap, ◌∙◌, subst, inl, inr, arith}
use Rattle.std.specs.Int.{bit_not}
use Rattle.step_tables.specs.Bitboard.{Holds}
use Rattle.step_tables.proofs.BitboardLemmas.{Holds-zero, Holds-or, Holds-and, Holds-but}
use Rattle.explorer_model.specs.declared.chess.Color.{Color}
use Rattle.explorer_model.specs.declared.chess.Color.TheVariants.{White, Black}
use Rattle.explorer_model.specs.declared.chess.Role.{Role}
use Rattle.explorer_model.specs.declared.chess.Role.TheVariants.{Pawn, Knight, Bishop, Rook, Queen, King}
use Rattle.explorer_model.specs.declared.chess.Side.{Side}
use Rattle.explorer_model.specs.declared.chess.Side.TheVariants.{Short, Long}
use Rattle.explorer_model.specs.declared.chess.Piece.{Piece}
use Rattle.explorer_model.specs.declared.chess.Position.{Position}
use Rattle.explorer_model.specs.declared.chess.Move.{Move}
use Rattle.explorer_model.specs.Board.{file_of, rank_of, ranks_apart, halfway, opponent, piece_at, IsEmpty, IsOfColor, IsPiece, IsRankAhead, PawnDiagonal, IsOpen, RoleAttacks, PieceAttacks, Attacks}
use Rattle.explorer_model.specs.Chess.{king_home, rook_home, king_target, has_right, last_rank, pawn_rank, IsPromotion, IsSquare, HasCrossed, IsValid, PawnSteps, PawnDoubleSteps, PawnCaptures, CastlesTo, Castles, RoleMoves, PieceMoves, PseudoLegal}
use Rattle.legal_moves.specs.declared.check_info.CheckInfo.{CheckInfo}
use Rattle.legal_moves.specs.Listing.{RoleReaches, PieceReaches, IsDestination, IsPromoting}
use Rattle.legal_moves.specs.EnemySets.{IsOccupied, IsBitboardOf, IsInfoOf}
use Rattle.legal_moves.proofs.Facts.{no_piece, castles_to_empty, opponent-other}
use Rattle.legal_moves.proofs.OneKing.{has_pieces, one_king}
use Rattle.explorer_model.proofs.Pieces.{king_home_on_board}

-- Pseudo-legal moves are the moves that go as a piece does, with a promotion where a pawn comes to its last rank, and else with none.

pseudo_legal_goes : (p : Position) (role : Role) (m : Move) → RoleMoves p role m → RoleReaches p role m
pseudo_legal_goes p Pawn m goes = goes.0
pseudo_legal_goes p Knight m goes = goes.0
pseudo_legal_goes p Bishop m goes = goes.0
pseudo_legal_goes p Rook m goes = goes.0
pseudo_legal_goes p Queen m goes = goes.0
pseudo_legal_goes p King m goes = goes.0

pseudo_legal_goes_as : (p : Position) (o : Option Piece) (m : Move) → PieceMoves p o m → PieceReaches p o m
pseudo_legal_goes_as p None m goes = goes
pseudo_legal_goes_as p (Some piece) m goes = pseudo_legal_goes p piece.role m goes

pub pseudo_legal-destination : (p : Position) (m : Move) → PseudoLegal p m → IsDestination p m
pseudo_legal-destination p m c = (c.0, c.1, pseudo_legal_goes_as p (piece_at p.squares m.from.index) m c.2)

quiet_goes : (p : Position) (m : Move) (color : Color) (role : Role) → color ≡ p.turn → RoleReaches p role m → m.promotion ≡ None
    → ((rank_of m.to.index ≡ last_rank p.turn) → (color ≡ p.turn) × (role ≡ Pawn) → ⊥) → RoleMoves p role m
quiet_goes p m color Pawn own goes none unpromoting = (goes, inr (λ last. unpromoting last (own, refl), none))
quiet_goes p m color Knight own goes none unpromoting = (goes, none)
quiet_goes p m color Bishop own goes none unpromoting = (goes, none)
quiet_goes p m color Rook own goes none unpromoting = (goes, none)
quiet_goes p m color Queen own goes none unpromoting = (goes, none)
quiet_goes p m color King own goes none unpromoting = (goes, none)

quiet_goes_as : (p : Position) (o : Option Piece) (m : Move) → IsOfColor p.turn o → PieceReaches p o m → m.promotion ≡ None
    → ((rank_of m.to.index ≡ last_rank p.turn) → IsPiece p.turn Pawn o → ⊥) → PieceMoves p o m
quiet_goes_as p None m own goes none unpromoting = goes
quiet_goes_as p (Some piece) m own goes none unpromoting = quiet_goes p m piece.color piece.role own goes none unpromoting

pub quiet_pseudo_legal : (p : Position) (m : Move) → IsDestination p m → m.promotion ≡ None → ¬ IsPromoting p m.from.index m.to.index → PseudoLegal p m
quiet_pseudo_legal p m r none unpromoting =
    (r.0, r.1, quiet_goes_as p (piece_at p.squares m.from.index) m r.0 r.2 none (λ last pawn. unpromoting (last, pawn)))

promoting_goes : (p : Position) (o : Option Piece) (m : Move) → IsPiece p.turn Pawn o → PieceReaches p o m → rank_of m.to.index ≡ last_rank p.turn
    → IsPromotion m.promotion → PieceMoves p o m
promoting_goes p None m pawn goes last promotes = absurd pawn
promoting_goes p (Some piece) m pawn goes last promotes =
    let To : Role → Type 0 = λ role. RoleReaches p role m in
    let As : Role → Type 0 = λ role. RoleMoves p role m in
    subst As (sym pawn.1) (subst To pawn.1 goes, inl (last, promotes))

pub promoting_pseudo_legal : (p : Position) (m : Move) → IsDestination p m → IsPromoting p m.from.index m.to.index → IsPromotion m.promotion → PseudoLegal p m
promoting_pseudo_legal p m r promoting promotes =
    (r.0, r.1, promoting_goes p (piece_at p.squares m.from.index) m promoting.1 r.2 promoting.0 promotes)

-- What a pseudo-legal move promotes.

goes_promotion : (p : Position) (m : Move) (color : Color) (role : Role) → color ≡ p.turn → RoleMoves p role m
    → ((m.promotion ≡ None) × ((rank_of m.to.index ≡ last_rank p.turn) → (color ≡ p.turn) × (role ≡ Pawn) → ⊥))
    ⊎ ((rank_of m.to.index ≡ last_rank p.turn) × (color ≡ p.turn) × (role ≡ Pawn)) × IsPromotion m.promotion
goes_promotion p m color Pawn own goes = elim goes.1 [ inl h ↦ inr ((h.0, own, refl), h.1) | inr h ↦ inl (h.1, λ last _. h.0 last) ]
goes_promotion p m color Knight own goes = inl (goes.1, λ last pawn. let no_way : Knight ≡ Pawn = pawn.1 in cc)
goes_promotion p m color Bishop own goes = inl (goes.1, λ last pawn. let no_way : Bishop ≡ Pawn = pawn.1 in cc)
goes_promotion p m color Rook own goes = inl (goes.1, λ last pawn. let no_way : Rook ≡ Pawn = pawn.1 in cc)
goes_promotion p m color Queen own goes = inl (goes.1, λ last pawn. let no_way : Queen ≡ Pawn = pawn.1 in cc)
goes_promotion p m color King own goes = inl (goes.1, λ last pawn. let no_way : King ≡ Pawn = pawn.1 in cc)

goes_as_promotion : (p : Position) (m : Move) (o : Option Piece) → IsOfColor p.turn o → PieceMoves p o m
    → ((m.promotion ≡ None) × ((rank_of m.to.index ≡ last_rank p.turn) × IsPiece p.turn Pawn o → ⊥))
    ⊎ ((rank_of m.to.index ≡ last_rank p.turn) × IsPiece p.turn Pawn o) × IsPromotion m.promotion
goes_as_promotion p m None own goes = absurd own
goes_as_promotion p m (Some piece) own goes = elim (goes_promotion p m piece.color piece.role own goes) [
  | inl h ↦ inl (h.0, λ promoting. h.1 promoting.0 promoting.1)
  | inr h ↦ inr ((h.0.0, (h.0.1, h.0.2)), h.1)
]

pub pseudo_legal-promotion : (p : Position) (m : Move) → PseudoLegal p m
    → ((m.promotion ≡ None) × (¬ IsPromoting p m.from.index m.to.index)) ⊎ (IsPromoting p m.from.index m.to.index × IsPromotion m.promotion)
pseudo_legal-promotion p m c = goes_as_promotion p m (piece_at p.squares m.from.index) c.0 c.2

-- a square that is not occupied is empty
empty_where : (o : Option Piece) → IsOccupied o → IsEmpty o → ⊥
empty_where None h e = h
empty_where (Some piece) h e = cc

unoccupied : (o : Option Piece) → ¬ IsOccupied o → IsEmpty o
unoccupied None h = refl
unoccupied (Some piece) h = absurd (h tt)

pub occupied-not_empty : (squares : List (Option Piece)) (bitboard s : ℕ) → IsBitboardOf IsOccupied squares bitboard → s < 64 → Holds bitboard s → ¬ IsEmpty (piece_at squares s)
occupied-not_empty squares bitboard s is on bit empty = empty_where (piece_at squares s) ((is s on).0 bit) empty

pub unoccupied-empty : (squares : List (Option Piece)) (bitboard s : ℕ) → IsBitboardOf IsOccupied squares bitboard → s < 64 → ¬ Holds bitboard s → IsEmpty (piece_at squares s)
unoccupied-empty squares bitboard s is on none = unoccupied (piece_at squares s) (λ there. none ((is s on).1 there))

-- Pawns go straight ahead.

pub record IsAhead (color : Color) (from next : ℕ) : Type 0 where
  pub on_board : next < 64
  pub file : file_of from ≡ file_of next
  pub rank : IsRankAhead color from next

one_ahead : (color : Color) (from next to : ℕ) → file_of from ≡ file_of next → IsRankAhead color from next
    → file_of from ≡ file_of to → IsRankAhead color from to → to ≡ next
one_ahead White from next to file rank same ahead = omega arith
one_ahead Black from next to file rank same ahead = omega arith

pub steps_to : (p : Position) (m : Move) (from next : ℕ) → m.from.index ≡ from → IsAhead p.turn from next → PawnSteps p m
    → (m.to.index ≡ next) × IsEmpty (piece_at p.squares next)
steps_to p m from next here ahead s =
    let F : ℕ → Type 0 = λ a. file_of a ≡ file_of m.to.index in
    let R : ℕ → Type 0 = λ a. IsRankAhead p.turn a m.to.index in
    let to : m.to.index ≡ next = one_ahead p.turn from next m.to.index ahead.file ahead.rank (subst F here s.0) (subst R here s.1) in
    let E : ℕ → Type 0 = λ a. IsEmpty (piece_at p.squares a) in
    (to, subst E to s.2)

pub step_from : (p : Position) (m : Move) (from next : ℕ) → m.from.index ≡ from → IsAhead p.turn from next → m.to.index ≡ next
    → IsEmpty (piece_at p.squares next) → PawnSteps p m
step_from p m from next here ahead to empty =
    let P : ℕ → ℕ → Type 0 = λ a b. (file_of a ≡ file_of b) × IsRankAhead p.turn a b × IsEmpty (piece_at p.squares b) in
    let A : ℕ → Type 0 = λ a. P a m.to.index in
    let B : ℕ → Type 0 = λ b. P from b in
    subst A (sym here) (subst B (sym to) (ahead.file, ahead.rank, empty))

-- the squares of a step of two

pub record AreAhead (color : Color) (from next second : ℕ) : Type 0 where
  pub first : rank_of from ≡ pawn_rank color
  pub one : IsAhead color from next
  pub two : IsAhead color next second

two_ahead : (color : Color) (from next second to : ℕ) → rank_of from ≡ pawn_rank color → file_of from ≡ file_of next → IsRankAhead color from next
    → file_of next ≡ file_of second → IsRankAhead color next second → from < 64 → to < 64 → file_of from ≡ file_of to → ranks_apart from to ≡ 2 → to ≡ second
two_ahead White from next second to first file rank file_two rank_two on_from on same apart = omega arith
two_ahead Black from next second to first file rank file_two rank_two on_from on same apart = omega arith

middle : (color : Color) (from next second : ℕ) → file_of from ≡ file_of next → IsRankAhead color from next
    → file_of next ≡ file_of second → IsRankAhead color next second → halfway from second ≡ next
middle White from next second file rank file_two rank_two = omega arith
middle Black from next second file rank file_two rank_two = omega arith

apart_by_two : (color : Color) (from next second : ℕ) → IsRankAhead color from next → IsRankAhead color next second → ranks_apart from second ≡ 2
apart_by_two White from next second rank rank_two = omega arith
apart_by_two Black from next second rank rank_two = omega arith

pub double_steps_to : (p : Position) (m : Move) (from next second : ℕ) → m.from.index ≡ from → AreAhead p.turn from next second → PawnDoubleSteps p m
    → (m.to.index ≡ second) × IsEmpty (piece_at p.squares next) × IsEmpty (piece_at p.squares second)
double_steps_to p m from next second here ahead s =
    let D : ℕ → Type 0 = λ a. (rank_of a ≡ pawn_rank p.turn) × (file_of a ≡ file_of m.to.index) × (ranks_apart a m.to.index ≡ 2)
    × IsEmpty (piece_at p.squares (halfway a m.to.index)) × IsEmpty (piece_at p.squares m.to.index) in
    let d : D from = subst D here s in
    let on_from : from < 64 = (let P : ℕ → Type 0 = λ a. a < 64 in subst P here m.from.on_board) in
    let to : m.to.index ≡ second =
    two_ahead p.turn from next second m.to.index ahead.first ahead.one.file ahead.one.rank ahead.two.file ahead.two.rank on_from m.to.on_board d.1 d.2 in
    let E : ℕ → Type 0 = λ a. IsEmpty (piece_at p.squares a) in
    let H : ℕ → Type 0 = λ b. IsEmpty (piece_at p.squares (halfway from b)) in
    (to, subst E (middle p.turn from next second ahead.one.file ahead.one.rank ahead.two.file ahead.two.rank) (subst H to d.3), subst E to d.4)

pub double_step_from : (p : Position) (m : Move) (from next second : ℕ) → m.from.index ≡ from → AreAhead p.turn from next second → m.to.index ≡ second
    → IsEmpty (piece_at p.squares next) → IsEmpty (piece_at p.squares second) → PawnDoubleSteps p m
double_step_from p m from next second here ahead to empty empty_two =
    let P : ℕ → ℕ → Type 0 = λ a b. (rank_of a ≡ pawn_rank p.turn) × (file_of a ≡ file_of b) × (ranks_apart a b ≡ 2)
    × IsEmpty (piece_at p.squares (halfway a b)) × IsEmpty (piece_at p.squares b) in
    let A : ℕ → Type 0 = λ a. P a m.to.index in
    let B : ℕ → Type 0 = λ b. P from b in
    let E : ℕ → Type 0 = λ a. IsEmpty (piece_at p.squares a) in
    subst A (sym here) (subst B (sym to) (
      ahead.first,
      ahead.one.file ∙ ahead.two.file,
      apart_by_two p.turn from next second ahead.one.rank ahead.two.rank,
      subst E (sym (middle p.turn from next second ahead.one.file ahead.one.rank ahead.two.file ahead.two.rank)) empty,
      empty_two,
    ))

middle_of : (color : Color) (from next to : ℕ) → rank_of from ≡ pawn_rank color → from < 64 → to < 64 → file_of from ≡ file_of to → ranks_apart from to ≡ 2
    → file_of from ≡ file_of next → IsRankAhead color from next → halfway from to ≡ next
middle_of White from next to first on_from on same apart file rank = omega arith
middle_of Black from next to first on_from on same apart file rank = omega arith

crosses : (p : Position) (m : Move) (from next : ℕ) → m.from.index ≡ from → IsAhead p.turn from next → PawnDoubleSteps p m
    → (rank_of from ≡ pawn_rank p.turn) × IsEmpty (piece_at p.squares next)
crosses p m from next here ahead s =
    let D : ℕ → Type 0 = λ a. (rank_of a ≡ pawn_rank p.turn) × (a < 64) × (file_of a ≡ file_of m.to.index) × (ranks_apart a m.to.index ≡ 2)
    × IsEmpty (piece_at p.squares (halfway a m.to.index)) in
    let d : D from = subst D here (s.0, m.from.on_board, s.1, s.2, s.3) in
    let E : ℕ → Type 0 = λ a. IsEmpty (piece_at p.squares a) in
    (d.0, subst E (middle_of p.turn from next m.to.index d.0 d.1 m.to.on_board d.2 d.3 ahead.file ahead.rank) d.4)

-- What the set of these squares has, as far as they are empty.

abbrev Advances : Position → Move → Type 0
Advances p m = PawnSteps p m ⊎ PawnDoubleSteps p m

pub advances-none : (p : Position) (m : Move) (from next : ℕ) → m.from.index ≡ from → IsAhead p.turn from next → ¬ IsEmpty (piece_at p.squares next)
    → Holds 0 m.to.index ↔ Advances p m
advances-none p m from next here ahead blocked = (
  λ bit. absurd (Holds-zero m.to.index bit),
  λ h. absurd (blocked (elim h [ inl s ↦ (steps_to p m from next here ahead s).1 | inr s ↦ (crosses p m from next here ahead s).1 ])),
)

pub advances-one : (p : Position) (m : Move) (from next one : ℕ) → m.from.index ≡ from → IsAhead p.turn from next → IsEmpty (piece_at p.squares next)
    → ((b : ℕ) → b < 64 → Holds one b ↔ (b ≡ next)) → (PawnDoubleSteps p m → ⊥) → Holds one m.to.index ↔ Advances p m
advances-one p m from next one here ahead empty only not_two = (
  λ bit. inl (step_from p m from next here ahead ((only m.to.index m.to.on_board).0 bit) empty),
  λ h. elim h [ inl s ↦ (only m.to.index m.to.on_board).1 (steps_to p m from next here ahead s).0 | inr s ↦ absurd (not_two s) ],
)

pub not_first : (p : Position) (m : Move) (from next : ℕ) → m.from.index ≡ from → IsAhead p.turn from next → (rank_of from ≡ pawn_rank p.turn → ⊥)
    → PawnDoubleSteps p m → ⊥
not_first p m from next here ahead apart s = apart (crosses p m from next here ahead s).0

pub advances-both : (p : Position) (m : Move) (from next second one two : ℕ) → m.from.index ≡ from → AreAhead p.turn from next second
    → IsEmpty (piece_at p.squares next) → IsEmpty (piece_at p.squares second)
    → ((b : ℕ) → b < 64 → Holds one b ↔ (b ≡ next)) → ((b : ℕ) → b < 64 → Holds two b ↔ (b ≡ second))
    → Holds (bit_or one two) m.to.index ↔ Advances p m
advances-both p m from next second one two here ahead empty empty_two only only_two = (
  λ bit. elim ((Holds-or one two m.to.index).0 bit) [
    | inl x ↦ inl (step_from p m from next here ahead.one ((only m.to.index m.to.on_board).0 x) empty)
    | inr y ↦ inr (double_step_from p m from next second here ahead ((only_two m.to.index m.to.on_board).0 y) empty empty_two)
  ],
  λ h. (Holds-or one two m.to.index).1 (elim h [
    | inl s ↦ inl ((only m.to.index m.to.on_board).1 (steps_to p m from next here ahead.one s).0)
    | inr s ↦ inr ((only_two m.to.index m.to.on_board).1 (double_steps_to p m from next second here ahead s).0)
  ]),
)

-- Pawns capture.

pub captures-says : (p : Position) (m : Move) (from diagonals enemies crossed : ℕ) → m.from.index ≡ from
    → ((to : ℕ) → to < 64 → Holds diagonals to ↔ PawnDiagonal p.turn from to)
    → IsBitboardOf (IsOfColor (opponent p.turn)) p.squares enemies → ((to : ℕ) → to < 64 → Holds crossed to ↔ IsSquare p.en_passant to)
    → Holds (bit_and diagonals (bit_or enemies crossed)) m.to.index ↔ PawnCaptures p m
captures-says p m from diagonals enemies crossed here says is at =
    let D : ℕ → Type 0 = λ a. PawnDiagonal p.turn a m.to.index in (
      λ bit.
          let h : Holds diagonals m.to.index × Holds (bit_or enemies crossed) m.to.index = (Holds-and diagonals (bit_or enemies crossed) m.to.index).0 bit in (
            subst D (sym here) ((says m.to.index m.to.on_board).0 h.0),
            elim ((Holds-or enemies crossed m.to.index).0 h.1) [
              | inl x ↦ inl ((is m.to.index m.to.on_board).0 x)
              | inr y ↦ inr ((at m.to.index m.to.on_board).0 y)
            ],
          ),
      λ s. (Holds-and diagonals (bit_or enemies crossed) m.to.index).1 (
        (says m.to.index m.to.on_board).1 (subst D here s.0),
        (Holds-or enemies crossed m.to.index).1 (elim s.1 [
          | inl x ↦ inl ((is m.to.index m.to.on_board).1 x)
          | inr y ↦ inr ((at m.to.index m.to.on_board).1 y)
        ]),
      ),
    )

-- Castling.

pub castling-none : (p : Position) (m : Move) (side : Side) → (CastlesTo side p m → ⊥) → Holds 0 m.to.index ↔ CastlesTo side p m
castling-none p m side none = (λ bit. absurd (Holds-zero m.to.index bit), λ h. absurd (none h))

pub castling-one : (p : Position) (info : CheckInfo) (m : Move) (side : Side) (one target : ℕ) → IsInfoOf p info → m.from.index ≡ info.king
    → has_right p.rights p.turn side ≡ true → IsOpen p.squares (king_home p.turn) (rook_home p.turn side) → target ≡ king_target p.turn side
    → ((b : ℕ) → b < 64 → Holds one b ↔ (b ≡ target)) → Holds one m.to.index ↔ CastlesTo side p m
castling-one p info m side one target informed here right open_path at only =
    let home : IsPiece p.turn King (piece_at p.squares (king_home p.turn)) = (informed.valid.rights p.turn side right).0 in
    let stands : info.king ≡ king_home p.turn =
    one_king p.squares p.turn (king_home p.turn) info.king informed.valid.board (has_pieces p p.turn informed.valid).0 (king_home_on_board p.turn) informed.on_board home informed.king in
    let K : ℕ → Type 0 = λ s. IsPiece p.turn King (piece_at p.squares s) in (
      λ bit. (right, here ∙ stands, (only m.to.index m.to.on_board).0 bit ∙ at, subst K (sym here) informed.king, open_path),
      λ h. (only m.to.index m.to.on_board).1 (h.2 ∙ sym at),
    )

-- Attacks that do not end on an own piece.

pub except-says : (bitboard others s : ℕ) → others < 2 ^ 64 → s < 64 → Holds (bit_and bitboard (bit_not w64 others)) s ↔ (Holds bitboard s × ¬ Holds others s)
except-says bitboard others s fits on = Holds-but bitboard others s fits on

pub others-say : (left destinations own to : ℕ) {Steps Own : Type 0} → Holds left to ↔ (Holds destinations to × ¬ Holds own to) → Holds destinations to ↔ Steps
    → Holds own to ↔ Own → Holds left to ↔ (Steps × ¬ Own)
others-say left destinations own to but says is = (
  λ bit. (says.0 (but.0 bit).0, λ mine. (but.0 bit).1 (is.1 mine)),
  λ h. but.1 (says.1 h.0, λ bit. h.1 (is.0 bit)),
)

pub sliders-say : (seen left destinations own to : ℕ) {Line Clear Open Own : Type 0} → Holds left to ↔ (Holds destinations to × ¬ Holds own to)
    → Holds destinations to ↔ Line → Holds own to ↔ Own
    → Holds seen to ↔ (Holds left to × Clear) → Clear ↔ Open → Holds seen to ↔ ((Line × Open) × ¬ Own)
sliders-say seen left destinations own to but says is informed clear = (
  λ bit.
      let h = informed.0 bit in
      let other = (others-say left destinations own to but says is).0 h.0 in
      ((other.0, clear.0 h.1), other.1),
  λ h. informed.1 ((others-say left destinations own to but says is).1 (h.0.0, h.1), clear.1 h.0.1),
)

-- What a piece reaches.

pub destination-by : (p : Position) (m : Move) (from : ℕ) (piece : Piece) → m.from.index ≡ from → piece_at p.squares from ≡ Some piece
    → IsOfColor p.turn (piece_at p.squares from) → ((¬ IsOfColor p.turn (piece_at p.squares m.to.index)) × RoleReaches p piece.role m) ↔ IsDestination p m
destination-by p m from piece here stands own =
    let at : piece_at p.squares m.from.index ≡ Some piece = ap (piece_at p.squares) here ∙ stands in
    let Own : ℕ → Type 0 = λ s. IsOfColor p.turn (piece_at p.squares s) in
    let To : Option Piece → Type 0 = λ o. PieceReaches p o m in
    (λ h. (subst Own (sym here) own, h.0, subst To (sym at) h.1), λ r. (r.1, subst To at r.2))

pub attacks-by : (p : Position) (m : Move) (from : ℕ) (piece : Piece) → m.from.index ≡ from → piece_at p.squares from ≡ Some piece
    → RoleAttacks p.squares piece.color piece.role from m.to.index ↔ Attacks p.squares m.from.index m.to.index
attacks-by p m from piece here stands =
    let A : ℕ → Type 0 = λ a. Attacks p.squares a m.to.index in
    let O : Option Piece → Type 0 = λ o. PieceAttacks p.squares o from m.to.index in
    (λ h. subst A (sym here) (subst O (sym stands) h), λ h. subst O stands (subst A here h))

pub empty_not_own : (color : Color) (o : Option Piece) → IsEmpty o → ¬ IsOfColor color o
empty_not_own color o empty own = no_piece color o empty own

enemy_not_own : (color : Color) (o : Option Piece) → IsOfColor (opponent color) o → ¬ IsOfColor color o
enemy_not_own color None enemy own = enemy
enemy_not_own color (Some piece) enemy own = opponent-other color (sym enemy ∙ own)

pub crossed_empty : (squares : List (Option Piece)) (color : Color) (s : ℕ) → HasCrossed squares color s → IsEmpty (piece_at squares s)
crossed_empty squares White s h = h.1
crossed_empty squares Black s h = h.1

captures_not_own : (p : Position) (m : Move) → IsValid p → PawnCaptures p m → ¬ IsOfColor p.turn (piece_at p.squares m.to.index)
captures_not_own p m valid s = elim s.1 [
  | inl enemy ↦ enemy_not_own p.turn _ enemy
  | inr at ↦ empty_not_own p.turn _ (crossed_empty p.squares p.turn m.to.index (valid.en_passant m.to.index at))
]

pub pawn-destination : (p : Position) (m : Move) (advances captures : ℕ) → IsValid p → Holds advances m.to.index ↔ (PawnSteps p m ⊎ PawnDoubleSteps p m)
    → Holds captures m.to.index ↔ PawnCaptures p m
    → Holds (bit_or advances captures) m.to.index ↔ ((¬ IsOfColor p.turn (piece_at p.squares m.to.index)) × RoleReaches p Pawn m)
pawn-destination p m advances captures valid straight aside = (
  λ bit. elim ((Holds-or advances captures m.to.index).0 bit) [
    | inl x ↦ elim (straight.0 x) [
      | inl s ↦ (empty_not_own p.turn _ s.2, inl s)
      | inr s ↦ (empty_not_own p.turn _ s.4, inr (inl s))
    ]
    | inr y ↦ (captures_not_own p m valid (aside.0 y), inr (inr (aside.0 y)))
  ],
  λ h. (Holds-or advances captures m.to.index).1 (elim h.1 [
    | inl s ↦ inl (straight.1 (inl s))
    | inr (inl s) ↦ inl (straight.1 (inr s))
    | inr (inr s) ↦ inr (aside.1 s)
  ]),
)

pub king-destination : (p : Position) (m : Move) (steps short long : ℕ)
    → Holds steps m.to.index ↔ (Attacks p.squares m.from.index m.to.index × ¬ IsOfColor p.turn (piece_at p.squares m.to.index))
    → Holds short m.to.index ↔ CastlesTo Short p m → Holds long m.to.index ↔ CastlesTo Long p m
    → Holds (bit_or (bit_or steps short) long) m.to.index ↔ ((¬ IsOfColor p.turn (piece_at p.squares m.to.index)) × RoleReaches p King m)
king-destination p m steps short long says says_short says_long = (
  λ bit. elim ((Holds-or (bit_or steps short) long m.to.index).0 bit) [
    | inl x ↦ elim ((Holds-or steps short m.to.index).0 x) [
      | inl y ↦ ((says.0 y).1, inl (says.0 y).0)
      | inr y ↦ (castles_clear (inl (says_short.0 y)), inr (inl (says_short.0 y)))
    ]
    | inr x ↦ (castles_clear (inr (says_long.0 x)), inr (inr (says_long.0 x)))
  ],
  λ h. (Holds-or (bit_or steps short) long m.to.index).1 (elim h.1 [
    | inl a ↦ inl ((Holds-or steps short m.to.index).1 (inl (says.1 (a, h.0))))
    | inr (inl c) ↦ inl ((Holds-or steps short m.to.index).1 (inr (says_short.1 c)))
    | inr (inr c) ↦ inr (says_long.1 c)
  ]),
)
  where
    castles_clear : Castles p m → ¬ IsOfColor p.turn (piece_at p.squares m.to.index)
    castles_clear c = empty_not_own p.turn _ (castles_to_empty p m c)

-- a pair, turned
pub turned : {A B C : Type 0} → A ↔ (B × C) → A ↔ (C × B)
turned f = (λ a. ((f.0 a).1, (f.0 a).0), λ h. f.1 (h.1, h.0))

pub and-says : {A B C D : Type 0} → A ↔ (B × D) → B ↔ C → A ↔ (C × D)
and-says f g = (λ a. (g.0 (f.0 a).0, (f.0 a).1), λ h. f.1 (g.1 h.0, h.1))

-- pieces that are neither pawns nor kings go where they attack
pub piece_goes : (p : Position) (m : Move) (role : Role) → (role ≡ Knight) ⊎ (role ≡ Bishop) ⊎ (role ≡ Rook) ⊎ (role ≡ Queen)
    → Attacks p.squares m.from.index m.to.index ↔ RoleReaches p role m
piece_goes p m Pawn (inl e) = absurd (let no_way : Pawn ≡ Knight = e in cc)
piece_goes p m Pawn (inr (inl e)) = absurd (let no_way : Pawn ≡ Bishop = e in cc)
piece_goes p m Pawn (inr (inr (inl e))) = absurd (let no_way : Pawn ≡ Rook = e in cc)
piece_goes p m Pawn (inr (inr (inr e))) = absurd (let no_way : Pawn ≡ Queen = e in cc)
piece_goes p m Knight one = (λ h. h, λ h. h)
piece_goes p m Bishop one = (λ h. h, λ h. h)
piece_goes p m Rook one = (λ h. h, λ h. h)
piece_goes p m Queen one = (λ h. h, λ h. h)
piece_goes p m King (inl e) = absurd (let no_way : King ≡ Knight = e in cc)
piece_goes p m King (inr (inl e)) = absurd (let no_way : King ≡ Bishop = e in cc)
piece_goes p m King (inr (inr (inl e))) = absurd (let no_way : King ≡ Rook = e in cc)
piece_goes p m King (inr (inr (inr e))) = absurd (let no_way : King ≡ Queen = e in cc)

-- an own king stands on the square that is seen
pub king_at : (p : Position) (info : CheckInfo) (from : ℕ) (piece : Piece) → IsInfoOf p info → from < 64 → piece_at p.squares from ≡ Some piece
    → IsOfColor p.turn (piece_at p.squares from) → piece.role ≡ King → from ≡ info.king
king_at p info from piece informed on stands own role =
    let Own : Option Piece → Type 0 = λ o. IsOfColor p.turn o in
    let Stands : Option Piece → Type 0 = λ o. IsPiece p.turn King o in
    one_king p.squares p.turn info.king from informed.valid.board (has_pieces p p.turn informed.valid).0 informed.on_board on informed.king
    (subst Stands (sym stands) (subst Own stands own, role))
