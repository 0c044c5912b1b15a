-- Programs for what notation says of a move: they compute which legal moves a text names, and which are written alike.
use Rattle.std.specs.Bool.{⊤}
use Rattle.std.proofs.Common.{◌≡◌, ℕ, Bool, true, false, not, ◌&&◌, ◌||◌, ◌==◌, Option, Some, None, refl, sym, ap, subst, ◌∙◌, true≢false}
use Rattle.std.proofs.lemmas.Bool.{and_from}
use Rattle.std.proofs.lemmas.Bool.Decides.{Decides-eqb}
use Rattle.explorer_model.specs.declared.chess.Color.{Color}
use Rattle.explorer_model.specs.declared.chess.Color.TheVariants.{White, Black}
use Rattle.explorer_model.specs.declared.chess.Role.{Role}
use Rattle.explorer_model.specs.declared.chess.Side.{Side}
use Rattle.explorer_model.specs.declared.chess.Side.TheVariants.{Short, Long}
use Rattle.explorer_model.specs.declared.chess.Move.{Move}
use Rattle.explorer_model.specs.declared.chess.Piece.{Piece}
use Rattle.explorer_model.specs.declared.chess.Position.{Position}
use Rattle.explorer_model.specs.declared.notation.NamedMove.{NamedMove}
use Rattle.explorer_model.specs.declared.notation.SanForm.{SanForm}
use Rattle.explorer_model.specs.declared.notation.SanForm.TheVariants.{Castling, Named}
use Rattle.explorer_model.specs.Board.{file_of, rank_of, piece_at}
use Rattle.explorer_model.specs.Chess.{castling_side, is_castling, is_color, Legal}
use Rattle.explorer_model.specs.Counting.{is_same_move}
use Rattle.explorer_model.specs.San.{captures, Agrees, IsAsNamed, IsRole, Rivals, RivalsOnFile}
use Rattle.chess_reference.proofs.Boards.{boards_compute}
use Rattle.chess_reference.proofs.DecisionLemmas.{decides-role, decides-same_promotion, each_legal, each_legal_to, for_each_legal, for_each_legal_to, is_role, is_same_promotion, same_move}

-- ---- the moves that a text names

-- a file or a rank is the named one, if one is named
unfoldable pub is_as_named : Option ℕ → ℕ → Bool
is_as_named None n = true
is_as_named (Some named) n = n == named

as_named : (named : Option ℕ) (n : ℕ) → IsAsNamed named n → is_as_named named n ≡ true
unfolding is_as_named
as_named None n h = refl
as_named (Some named) n h = (Decides-eqb n named).1 h

unfoldable pub has_role : Role → Option Piece → Bool
has_role role None = false
has_role role (Some piece) = is_role piece.role role

of_role : (role : Role) (o : Option Piece) → IsRole role o → has_role role o ≡ true
unfolding has_role
of_role role None h = absurd h
of_role role (Some piece) h = (decides-role piece.role role).1 h

unfoldable pub is_side : Side → Side → Bool
is_side Short Short = true
is_side Long Long = true
is_side a b = false

same_side : (a : Side) → is_side a a ≡ true
unfolding is_side
same_side Short = refl
same_side Long = refl

unfoldable pub is_same_answer : Bool → Bool → Bool
is_same_answer true b = b
is_same_answer false b = not b

same_answer : (a : Bool) → is_same_answer a a ≡ true
unfolding is_same_answer
same_answer true = refl
same_answer false = refl

-- the test of what agrees
unfoldable pub agrees : Position → SanForm → Move → Bool
agrees p (Castling side) m = is_castling p m && is_side (castling_side m) side
agrees p (Named form) m =
    (not (is_castling p m) && is_same_answer (captures p m) form.captures)
    && (has_role form.role (piece_at p.squares m.from.index) && (m.to.index == form.target))
    && ((is_as_named form.file (file_of m.from.index) && is_as_named form.rank (rank_of m.from.index))
    && is_same_promotion m.promotion form.promotion)

agreeing : (p : Position) (form : SanForm) (m : Move) → Agrees p form m → agrees p form m ≡ true
unfolding agrees
agreeing p (Castling side) m h = and_from _ _ h.0 (ap (λ s. is_side s side) h.1 ∙ same_side side)
agreeing p (Named form) m h =
    let takes = ap (λ a. is_same_answer a form.captures) h.2.0 ∙ same_answer form.captures in
    let named = and_from _ _ (of_role form.role (piece_at p.squares m.from.index) h.1.0) ((Decides-eqb _ _).1 h.2.1) in
    let whence = and_from _ _ (as_named form.file _ h.1.1) (as_named form.rank _ h.1.2) in
    and_from _ _ (and_from _ _ (and_from _ _ (ap not h.0) takes) named) (and_from _ _ whence ((decides-same_promotion _ _).1 h.2.2))

-- what is not so cannot be
never : (x : Bool) → not x ≡ true → x ≡ true → ⊥
never true e f = true≢false (sym e)
never false e f = true≢false (sym f)

-- no other legal move to the named target agrees
pub one_named : (p : Position) (form : NamedMove) (m : Move)
    → for_each_legal_to p (λ to. to == form.target) (λ o. not (agrees p (Named form) o) || is_same_move o m) ≡ true
    → (o : Move) → Legal p o → Agrees p (Named form) o → o ≡ m
one_named p form m each o legal agree =
    let test : Move → Bool = λ o. not (agrees p (Named form) o) || is_same_move o m in
    let at : test o ≡ true = each_legal_to p (λ to. to == form.target) test each o ((Decides-eqb _ _).1 agree.2.1) legal in
    let P : Bool → Type 0 = λ b. not b || is_same_move o m ≡ true in
    same_move o m (subst P (agreeing p (Named form) o agree) at)

pub none_named : (p : Position) (form : NamedMove)
    → for_each_legal_to p (λ to. to == form.target) (λ o. not (agrees p (Named form) o)) ≡ true
    → (m : Move) → Legal p m → ¬ Agrees p (Named form) m
none_named p form each m legal agree =
    let test : Move → Bool = λ o. not (agrees p (Named form) o) in
    never (agrees p (Named form) m)
    (each_legal_to p (λ to. to == form.target) test each m ((Decides-eqb _ _).1 agree.2.1) legal) (agreeing p (Named form) m agree)

-- no other legal move castles so
pub one_castles : (p : Position) (side : Side) (m : Move)
    → for_each_legal p (λ o. not (agrees p (Castling side) o) || is_same_move o m) ≡ true
    → (o : Move) → Legal p o → Agrees p (Castling side) o → o ≡ m
one_castles p side m each o legal agree =
    let test : Move → Bool = λ o. not (agrees p (Castling side) o) || is_same_move o m in
    let P : Bool → Type 0 = λ b. not b || is_same_move o m ≡ true in
    same_move o m (subst P (agreeing p (Castling side) o agree) (each_legal p test each o legal))

-- ---- moves that would be written alike

unfoldable pub is_same_piece : Option Piece → Option Piece → Bool
is_same_piece None None = true
is_same_piece (Some a) (Some b) = is_color a.color b.color && is_role a.role b.role
is_same_piece a b = false

same_color : (color : Color) → is_color color color ≡ true
same_color White = refl
same_color Black = refl

same_piece : (a : Option Piece) → is_same_piece a a ≡ true
unfolding is_same_piece
same_piece None = refl
same_piece (Some piece) = and_from _ _ (same_color piece.color) ((decides-role piece.role piece.role).1 refl)

unfoldable pub is_like : Position → Move → Move → Bool
is_like p m o =
    not (o.from.index == m.from.index)
    && (is_same_piece (piece_at p.squares o.from.index) (piece_at p.squares m.from.index) && (o.to.index == m.to.index))

differ : (x : Bool) → (x ≡ true → ⊥) → not x ≡ true
differ true h = absurd (h refl)
differ false h = refl

like : (p : Position) (m o : Move) → Rivals p m o → is_like p m o ≡ true
unfolding is_like
like p m o h =
    let here : Option Piece = piece_at p.squares m.from.index in
    let piece : is_same_piece (piece_at p.squares o.from.index) here ≡ true = ap (λ a. is_same_piece a here) h.1.1 ∙ same_piece here in
    and_from _ _ (differ _ (λ e. h.1.0 ((Decides-eqb _ _).0 e))) (and_from _ _ piece ((Decides-eqb _ _).1 h.1.2))

-- no other piece of the kind can go there
pub no_rival : (p : Position) (m : Move) → for_each_legal_to p (λ to. to == m.to.index) (λ o. not (is_like p m o)) ≡ true
    → (o : Move) → ¬ Rivals p m o
no_rival p m each o rival =
    let test : Move → Bool = λ o. not (is_like p m o) in
    never (is_like p m o)
    (each_legal_to p (λ to. to == m.to.index) test each o ((Decides-eqb _ _).1 rival.1.2) rival.0) (like p m o rival)

-- nor another one on its file
pub no_rival_on_file : (p : Position) (m : Move)
    → for_each_legal_to p (λ to. to == m.to.index) (λ o. not (is_like p m o && (file_of o.from.index == file_of m.from.index))) ≡ true
    → (o : Move) → ¬ RivalsOnFile p m o
no_rival_on_file p m each o h =
    let test : Move → Bool = λ o. is_like p m o && (file_of o.from.index == file_of m.from.index) in
    never (test o) (each_legal_to p (λ to. to == m.to.index) (λ o. not (test o)) each o ((Decides-eqb _ _).1 h.0.1.2) h.0.0)
    (and_from _ _ (like p m o h.0) ((Decides-eqb _ _).1 h.1))

pub none_at_all : (p : Position) → for_each_legal p (λ m. false) ≡ true → (m : Move) → ¬ Legal p m
none_at_all p each m legal = true≢false (sym (each_legal p (λ m. false) each m legal))

-- what is unfolded where all this computes
unfoldable pub notation_computes : ⊤
unfolding boards_compute is_as_named has_role is_side is_same_answer agrees is_same_piece is_like
notation_computes = tt
