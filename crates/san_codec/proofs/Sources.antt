-- What the squares from which pieces of one role go to one square say of a text.
use Rattle.std.proofs.Common.{◌≡◌, ◌≢◌, ◌↔◌, IfOk, ℕ, ◌<◌, Bool, true, false, ◌==◌, List, ◌∷◌, Option, Some, None, Result, Ok, Err, bit_and, refl, sym, ap, ◌∙◌, subst, slice_index_or, []}
use Rattle.std.proofs.Math.Bool.{not, beq}
use Rattle.std.proofs.lemmas.Bool.Decides.{Decides-eqb}
use Rattle.step_tables.specs.Bitboard.{Holds}
use Rattle.step_tables.specs.Test.{all_below, is_set_of}
use Rattle.step_tables.proofs.Test.{all_below-at, Holds-is_set_of}
use Rattle.step_tables.proofs.BitboardLemmas.{Holds-zero, Holds-and}
use Rattle.explorer_model.specs.declared.chess.Position.{Position}
use Rattle.explorer_model.specs.declared.chess.Move.{Move}
use Rattle.explorer_model.specs.declared.chess.Role.{Role}
use Rattle.explorer_model.specs.declared.chess.Piece.{Piece}
use Rattle.explorer_model.specs.declared.square.Square.{Square}
use Rattle.explorer_model.proofs.Squares.{square_eq}
use Rattle.explorer_model.specs.declared.notation.NamedMove.{NamedMove}
use Rattle.explorer_model.specs.declared.notation.SanForm.{SanForm}
use Rattle.explorer_model.specs.declared.notation.SanForm.TheVariants.{Named}
use Rattle.explorer_model.specs.declared.fault.SanFault.{SanFault}
use Rattle.explorer_model.specs.declared.fault.SanFault.TheVariants.{NoSuchMove, Ambiguous}
use Rattle.explorer_model.specs.Board.{file_of, rank_of, piece_at, IsOfColor, IsPiece}
use Rattle.explorer_model.specs.Chess.{Legal, is_castling}
use Rattle.explorer_model.specs.San.{captures, IsRole, IsAsNamed, Agrees, Answers}
use Rattle.legal_moves.specs.Sources.{move_from, IsSource}

-- Files and ranks as sets.

abbrev pub files : List ℕ
files = 72340172838076673 ∷ 144680345676153346 ∷ 289360691352306692 ∷ 578721382704613384 ∷ 1157442765409226768 ∷ 2314885530818453536 ∷ 4629771061636907072 ∷ 9259542123273814144 ∷ []

abbrev pub ranks : List ℕ
ranks = 255 ∷ 65280 ∷ 16711680 ∷ 4278190080 ∷ 1095216660480 ∷ 280375465082880 ∷ 71776119061217280 ∷ 18374686479671623680 ∷ []

files_right : all_below (λ f. is_set_of (λ s. file_of s == f) (slice_index_or files f 0)) 8 ≡ true
unfolding all_below
files_right = refl

ranks_right : all_below (λ r. is_set_of (λ s. rank_of s == r) (slice_index_or ranks r 0)) 8 ≡ true
unfolding all_below
ranks_right = refl

pub file-says : (f s : ℕ) → f < 8 → s < 64 → Holds (slice_index_or files f 0) s ↔ (file_of s ≡ f)
file-says f s on_f on_s =
    Holds-is_set_of (λ s. file_of s == f) (λ s. file_of s ≡ f) (slice_index_or files f 0) (λ b. Decides-eqb (file_of b) f)
    (all_below-at (λ f. is_set_of (λ s. file_of s == f) (slice_index_or files f 0)) 8 files_right f on_f) s on_s

pub rank-says : (r s : ℕ) → r < 8 → s < 64 → Holds (slice_index_or ranks r 0) s ↔ (rank_of s ≡ r)
rank-says r s on_r on_s =
    Holds-is_set_of (λ s. rank_of s == r) (λ s. rank_of s ≡ r) (slice_index_or ranks r 0) (λ b. Decides-eqb (rank_of b) r)
    (all_below-at (λ r. is_set_of (λ s. rank_of s == r) (slice_index_or ranks r 0)) 8 ranks_right r on_r) s on_s

-- Small facts.

pub same_flag : (a b : Bool) → not (beq a b) ≡ false → a ≡ b
same_flag true true e = refl
same_flag true false e = cc
same_flag false true e = cc
same_flag false false e = refl

pub answers_legal : (p : Position) (form : SanForm) (r : Result Move SanFault) → Answers p form r → IfOk r (λ m. Legal p m)
answers_legal p form (Ok m) h = h.0
answers_legal p form (Err fault) h = tt

-- A square is its index.

pub sources_at : (p : Position) (role : Role) (promotion : Option Role) (a b : Square) (found among : ℕ) → a.index ≡ b.index
    → ((from : Square) → Holds found from.index ↔ (Holds among from.index × IsSource p role a promotion from))
    → (from : Square) → Holds found from.index ↔ (Holds among from.index × IsSource p role b promotion from)
sources_at p role promotion a b found among e says =
    let P : Square → Type 0 = λ s. (from : Square) → Holds found from.index ↔ (Holds among from.index × IsSource p role s promotion from) in
    subst P (square_eq a b e) says

pub among-says : (p : Position) (role : Role) (promotion : Option Role) (to : Square) (file rank : Option ℕ) (found on_file on_rank : ℕ)
    → ((s : ℕ) → s < 64 → Holds on_file s ↔ IsAsNamed file (file_of s)) → ((s : ℕ) → s < 64 → Holds on_rank s ↔ IsAsNamed rank (rank_of s))
    → ((from : Square) → Holds found from.index ↔ (Holds (bit_and on_file on_rank) from.index × IsSource p role to promotion from))
    → (from : Square) → Holds found from.index
    ↔ ((IsAsNamed file (file_of from.index) × IsAsNamed rank (rank_of from.index)) × IsSource p role to promotion from)
among-says p role promotion to file rank found on_file on_rank files ranks says from = (
  λ bit.
      let h = (says from).0 bit in
      let both = (Holds-and on_file on_rank from.index).0 h.0 in
      (((files from.index from.on_board).0 both.0, (ranks from.index from.on_board).0 both.1), h.1),
  λ h. (says from).1
      ((Holds-and on_file on_rank from.index).1 ((files from.index from.on_board).1 h.0.0, (ranks from.index from.on_board).1 h.0.1), h.1),
)

-- What a source says, and what a move that agrees says.

module _ (p : Position) (named : NamedMove) (to : Square) (at : to.index ≡ named.target) where
  move_eq : (m n : Move) → m.from ≡ n.from → m.to ≡ n.to → m.promotion ≡ n.promotion → m ≡ n
  move_eq m n f t r = λ i. record { from = f i; to = t i; promotion = r i }

  own_piece : (role : Role) (o : Option Piece) → IsOfColor p.turn o → IsRole role o → IsPiece p.turn role o
  own_piece role None own is = own
  own_piece role (Some piece) own is = (own, is)

  role_of : (role : Role) (o : Option Piece) → IsPiece p.turn role o → IsRole role o
  role_of role None is = is
  role_of role (Some piece) is = is.1

  -- a legal move that agrees goes from a source
  pub agrees_from : (m : Move) → Legal p m → Agrees p (Named named) m
      → (m ≡ move_from m.from to named.promotion) × IsSource p named.role to named.promotion m.from
      × IsAsNamed named.file (file_of m.from.index) × IsAsNamed named.rank (rank_of m.from.index)
  agrees_from m legal agrees =
      let e : m ≡ move_from m.from to named.promotion =
      move_eq m (move_from m.from to named.promotion) refl (square_eq m.to to (agrees.2.1 ∙ sym at)) agrees.2.2 in
      let P : Move → Type 0 = λ m. (is_castling p m ≡ false) × Legal p m in
      let h : P (move_from m.from to named.promotion) = subst P e (agrees.0, legal) in
      (e, (own_piece named.role (piece_at p.squares m.from.index) legal.0.0 agrees.1.0, h.0, h.1), agrees.1.1, agrees.1.2)

  -- and what goes from a source agrees, if it captures as is said
  pub from_agrees : (from : Square) → IsSource p named.role to named.promotion from → IsAsNamed named.file (file_of from.index)
      → IsAsNamed named.rank (rank_of from.index) → captures p (move_from from to named.promotion) ≡ named.captures
      → Legal p (move_from from to named.promotion) × Agrees p (Named named) (move_from from to named.promotion)
  from_agrees from source file rank taking =
      (source.2, (source.1, (role_of named.role (piece_at p.squares from.index) source.0, file, rank), (taking, at, refl)))

  module _ (takes : Bool) (told : (m : Move) → m.to.index ≡ to.index → IsRole named.role (piece_at p.squares m.from.index) → takes ≡ captures p m) where
    -- one captures and the other says not
    pub none-taking : takes ≢ named.captures → Answers p (Named named) (Err NoSuchMove)
    none-taking apart m legal agrees = apart (told m (agrees.2.1 ∙ sym at) agrees.1.0 ∙ agrees.2.0)

    module _ (same : takes ≡ named.captures) (found : ℕ)
        (says : (from : Square) → Holds found from.index
        ↔ ((IsAsNamed named.file (file_of from.index) × IsAsNamed named.rank (rank_of from.index)) × IsSource p named.role to named.promotion from)) where
      found_of : (m : Move) → Legal p m → Agrees p (Named named) m → Holds found m.from.index
      found_of m legal agrees = let h = agrees_from m legal agrees in (says m.from).1 ((h.2, h.3), h.1)

      of_found : (from : Square) → Holds found from.index
          → Legal p (move_from from to named.promotion) × Agrees p (Named named) (move_from from to named.promotion)
      of_found from bit =
          let h = (says from).0 bit in
          from_agrees from h.1 h.0.0 h.0.1
          (sym (told (move_from from to named.promotion) refl (role_of named.role (piece_at p.squares from.index) h.1.0)) ∙ same)

      pub none-found : found ≡ 0 → Answers p (Named named) (Err NoSuchMove)
      none-found none m legal agrees =
          Holds-zero m.from.index (let P : ℕ → Type 0 = λ x. Holds x m.from.index in subst P none (found_of m legal agrees))

      pub two-found : (one two : Square) → Holds found one.index → Holds found two.index → one.index ≢ two.index
          → Answers p (Named named) (Err Ambiguous)
      two-found one two first second apart =
          let m = of_found one first in
          let o = of_found two second in (
            move_from one to named.promotion,
            move_from two to named.promotion,
            λ e. apart (ap (λ (m : Move). m.from.index) e),
            m.0,
            o.0,
            m.1,
            o.1,
          )

      pub one-found : (one : Square) → Holds found one.index → ((b : ℕ) → b < 64 → Holds found b → b ≡ one.index)
          → Answers p (Named named) (Ok (move_from one to named.promotion))
      one-found one first only =
          let m = of_found one first in (
            m.0,
            m.1,
            λ o legal agrees.
                let h = agrees_from o legal agrees in
                h.0 ∙ ap (λ s. move_from s to named.promotion) (square_eq o.from one (only o.from.index o.from.on_board (found_of o legal agrees))),
          )

      pub move-found : (n : Move) → n.to.index ≡ to.index → n.promotion ≡ named.promotion → Holds found n.from.index
          → ((b : ℕ) → b < 64 → Holds found b → b ≡ n.from.index) → Answers p (Named named) (Ok n)
      move-found n ends becomes first only =
          let e : n ≡ move_from n.from to named.promotion = move_eq n (move_from n.from to named.promotion) refl (square_eq n.to to ends) becomes in
          let P : Move → Type 0 = λ m. Answers p (Named named) (Ok m) in
          subst P (sym e) (one-found n.from first only)
