-- A text of FEN has one reading.
use Rattle.std.proofs.Common.{◌≡◌, ℕ, ◌↔◌, inl, inr, Bool, true, false, IsTrue, List, Option, Some, None, Result, Ok, Err, refl, sym, subst, ap, ◌∙◌}
use Rattle.std.proofs.lemmas.Bool.{cases_order}
use Rattle.std.proofs.lemmas.Option.{same_Some}
use Rattle.explorer_model.specs.declared.chess.Color.{Color}
use Rattle.explorer_model.specs.declared.chess.Color.TheVariants.{White, Black}
use Rattle.explorer_model.specs.declared.chess.Side.{Side}
use Rattle.explorer_model.specs.declared.chess.Side.TheVariants.{Short, Long}
use Rattle.explorer_model.specs.declared.chess.Piece.{Piece}
use Rattle.explorer_model.specs.declared.chess.Rights.{Rights}
use Rattle.explorer_model.specs.declared.chess.Position.{Position}
use Rattle.explorer_model.specs.declared.square.Square.{Square}
use Rattle.explorer_model.specs.declared.notation.FenFault.{FenFault}
use Rattle.explorer_model.specs.Chess.{has_right, HasCrossed, IsSquare}
use Rattle.explorer_model.specs.Fen.{field, en_passant_named, KeepsRights, IsNamed, GivesPosition, FenReads}
use Rattle.explorer_model.proofs.Squares.{square_eq}
use Rattle.fen_uci.proofs.Positions.{never_faulty}

bool_same : (a b : Bool) → (IsTrue a → IsTrue b) → (IsTrue b → IsTrue a) → a ≡ b
bool_same true true to from = refl
bool_same true false to from = sym (to refl)
bool_same false true to from = from refl
bool_same false false to from = refl

right_same : (squares : List (Option Piece)) (named r s : Rights) → KeepsRights squares named r → KeepsRights squares named s
    → (color : Color) (side : Side) → has_right r color side ≡ has_right s color side
right_same squares named r s keeps also color side =
    bool_same (has_right r color side) (has_right s color side)
    (λ has. (also color side).1 ((keeps color side).0 has)) (λ has. (keeps color side).1 ((also color side).0 has))

rights_same : (squares : List (Option Piece)) (named r s : Rights) → KeepsRights squares named r → KeepsRights squares named s → r ≡ s
rights_same squares named r s keeps also =
    let same = right_same squares named r s keeps also in
    let white_short : r.white_short ≡ s.white_short = same White Short in
    let white_long : r.white_long ≡ s.white_long = same White Long in
    let black_short : r.black_short ≡ s.black_short = same Black Short in
    let black_long : r.black_long ≡ s.black_long = same Black Long in
    λ i. record { white_short = white_short i; white_long = white_long i; black_short = black_short i; black_long = black_long i }

square_same : (a b : Option Square) → ((s : ℕ) → IsSquare a s → IsSquare b s) → ((s : ℕ) → IsSquare b s → IsSquare a s) → a ≡ b
square_same None None to from = refl
square_same None (Some b) to from = absurd (from b.index refl)
square_same (Some a) None to from = absurd (to a.index refl)
square_same (Some a) (Some b) to from = ap (λ (square : Square). Some square) (square_eq a b (sym (to a.index refl)))

-- the en passant square of a text, once its pieces and the side to move are known
abbrev KeepsEnPassant : List (Option Piece) → Color → Option ℕ → Option Square → Type 0
KeepsEnPassant squares turn named en_passant = (s : ℕ) → IsSquare en_passant s ↔ (IsNamed named s × HasCrossed squares turn s)

en_passant_same : (squares : List (Option Piece)) (turn : Color) (named : Option ℕ) (a b : Option Square)
    → KeepsEnPassant squares turn named a → KeepsEnPassant squares turn named b → a ≡ b
en_passant_same squares turn named a b keeps also =
    square_same a b (λ s there. (also s).1 ((keeps s).0 there)) (λ s there. (keeps s).1 ((also s).0 there))

position_same : (text : List ℕ) (p q : Position) → GivesPosition text p → GivesPosition text q → p ≡ q
position_same text p q (pieces, moves, (named, is, keeps), (en_passant, names, crosses), clock, number) (pieces', moves', (named', is', keeps'), (en_passant', names', crosses'), clock', number') =
    let squares : p.squares ≡ q.squares = same_Some p.squares q.squares (sym pieces.0 ∙ pieces'.0) in
    let turn : p.turn ≡ q.turn = same_Some p.turn q.turn (sym moves.0 ∙ moves'.0) in
    let named_same : named' ≡ named = same_Some named' named (sym is' ∙ is) in
    let keeps_here = subst (λ (xs : List (Option Piece)). KeepsRights xs named q.rights) (sym squares) (subst (λ (r : Rights). KeepsRights q.squares r q.rights) named_same keeps') in
    let rights : p.rights ≡ q.rights = rights_same p.squares named p.rights q.rights keeps keeps_here in
    let names_here = subst (λ (c : Color). en_passant_named c (field 4 text) ≡ Some en_passant') (sym turn) names' in
    let en_passant_is : en_passant' ≡ en_passant = same_Some en_passant' en_passant (sym names_here ∙ names) in
    let crosses_here =
    subst (λ (c : Color). KeepsEnPassant p.squares c en_passant q.en_passant) (sym turn)
    (subst (λ (xs : List (Option Piece)). KeepsEnPassant xs q.turn en_passant q.en_passant) (sym squares)
    (subst (λ (o : Option ℕ). KeepsEnPassant q.squares q.turn o q.en_passant) en_passant_is crosses')) in
    let en_passant : p.en_passant ≡ q.en_passant = en_passant_same p.squares p.turn en_passant p.en_passant q.en_passant crosses crosses_here in
    λ i. record { squares = squares i; turn = turn i; rights = rights i; en_passant = en_passant i }

fault_same : (f g : FenFault) → f.field ≡ g.field → f ≡ g
fault_same f g e = λ i. record { field = e i }

readings_same : (text : List ℕ) (r s : Result Position FenFault) → FenReads text r → FenReads text s → r ≡ s
readings_same text (Ok p) (Ok q) a b = ap (λ (x : Position). Ok x) (position_same text p q a b)
readings_same text (Ok p) (Err g) a first = absurd (never_faulty text p a g.field first)
readings_same text (Err f) (Ok q) first b = absurd (never_faulty text q b f.field first)
readings_same text (Err f) (Err g) first other = elim (cases_order f.field g.field) [
  | inl e ↦ ap (λ (x : FenFault). Err x) (fault_same f g e)
  | inr (inl less) ↦ let (p, kept) = other.left f.field less in absurd (first.none p kept)
  | inr (inr more) ↦ let (p, kept) = first.left g.field more in absurd (other.none p kept)
]

pub one_position : (text : List ℕ) (r s : Result Position FenFault) → FenReads text r → FenReads text s → r ≡ s
one_position text r s a b = readings_same text r s a b
