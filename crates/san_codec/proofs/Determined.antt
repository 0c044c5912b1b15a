-- A text has one reading, and a move one written form.
use Rattle.std.proofs.Common.{◌≡◌, ℕ, ◌++◌, List, Option, Some, None, Result, Ok, Err, refl, sym, subst, ap, ◌∙◌, inl, inr}
use Rattle.explorer_model.specs.declared.chess.Role.{Role}
use Rattle.explorer_model.specs.declared.chess.Role.TheVariants.{Pawn, Knight, Bishop, Rook, Queen, King}
use Rattle.explorer_model.specs.declared.chess.Piece.{Piece}
use Rattle.explorer_model.specs.declared.chess.Position.{Position}
use Rattle.explorer_model.specs.declared.chess.Move.{Move}
use Rattle.explorer_model.specs.declared.fault.SanFault.{SanFault}
use Rattle.explorer_model.specs.declared.fault.SanFault.TheVariants.{NotSan, NoSuchMove, Ambiguous}
use Rattle.explorer_model.specs.declared.notation.SanForm.{SanForm}
use Rattle.explorer_model.specs.declared.notation.Start.{Start}
use Rattle.explorer_model.specs.declared.notation.Start.TheVariants.{Unnamed, File, Rank, Square}
use Rattle.explorer_model.specs.declared.notation.CheckMark.{CheckMark}
use Rattle.explorer_model.specs.declared.notation.CheckMark.TheVariants.{Quiet, Check, Mate}
use Rattle.explorer_model.specs.Board.{piece_at}
use Rattle.explorer_model.specs.Chess.{after}
use Rattle.explorer_model.specs.San.{san_form, Answers, AnswersAs, SanReads, IsRole, PieceStart, StartOf, IsMarked, MoveText, SanText, named_text, mark_text}

answers_same : (p : Position) (form : SanForm) (r s : Result Move SanFault) → Answers p form r → Answers p form s → r ≡ s
answers_same p form (Ok m) (Ok o) (legal_m, on_m, only_m) (legal_o, on_o, only_o) = ap (λ (x : Move). Ok x) (only_o m legal_m on_m)
answers_same p form (Ok m) (Err NotSan) one none = absurd none
answers_same p form (Ok m) (Err NoSuchMove) (legal, on, only) none = absurd (none m legal on)
answers_same p form (Ok m) (Err Ambiguous) (legal, on, only) (x, y, differ, legal_x, legal_y, on_x, on_y) =
    absurd (differ (only x legal_x on_x ∙ sym (only y legal_y on_y)))
answers_same p form (Err NotSan) s none other = absurd none
answers_same p form (Err NoSuchMove) (Ok m) none (legal, on, only) = absurd (none m legal on)
answers_same p form (Err NoSuchMove) (Err NotSan) none other = absurd other
answers_same p form (Err NoSuchMove) (Err NoSuchMove) none other = refl
answers_same p form (Err NoSuchMove) (Err Ambiguous) none (x, y, differ, legal_x, legal_y, on_x, on_y) = absurd (none x legal_x on_x)
answers_same p form (Err Ambiguous) (Ok m) (x, y, differ, legal_x, legal_y, on_x, on_y) (legal, on, only) =
    absurd (differ (only x legal_x on_x ∙ sym (only y legal_y on_y)))
answers_same p form (Err Ambiguous) (Err NotSan) two other = absurd other
answers_same p form (Err Ambiguous) (Err NoSuchMove) (x, y, differ, legal_x, legal_y, on_x, on_y) none = absurd (none x legal_x on_x)
answers_same p form (Err Ambiguous) (Err Ambiguous) two other = refl

answers_as_same : (p : Position) (form : Option SanForm) (r s : Result Move SanFault) → AnswersAs p form r → AnswersAs p form s → r ≡ s
answers_as_same p None r s a b = a ∙ sym b
answers_as_same p (Some form) r s a b = answers_same p form r s a b

pub one_reading : (p : Position) (text : List ℕ) (r s : Result Move SanFault) → SanReads p text r → SanReads p text s → r ≡ s
one_reading p text r s a b = answers_as_same p (san_form text) r s a b

start_same : (p : Position) (m : Move) (a b : Start) → PieceStart p m a → PieceStart p m b → a ≡ b
start_same p m Unnamed Unnamed h g = refl
start_same p m Unnamed File h ((o, rivals), others) = absurd (h o rivals)
start_same p m Unnamed Rank h ((o, rivals), others) = absurd (h o rivals.0)
start_same p m Unnamed Square h ((o, rivals), others) = absurd (h o rivals.0)
start_same p m File Unnamed ((o, rivals), others) g = absurd (g o rivals)
start_same p m File File h g = refl
start_same p m File Rank (some, none) ((o, rivals), others) = absurd (none o rivals)
start_same p m File Square (some, none) ((o, rivals), others) = absurd (none o rivals)
start_same p m Rank Unnamed ((o, rivals), others) g = absurd (g o rivals.0)
start_same p m Rank File ((o, rivals), others) (some, none) = absurd (none o rivals)
start_same p m Rank Rank h g = refl
start_same p m Rank Square (some, none) (files, (o, rivals)) = absurd (none o rivals)
start_same p m Square Unnamed ((o, rivals), others) g = absurd (g o rivals.0)
start_same p m Square File ((o, rivals), others) (some, none) = absurd (none o rivals)
start_same p m Square Rank (files, (o, rivals)) (some, none) = absurd (none o rivals)
start_same p m Square Square h g = refl

start_of_same : (p : Position) (m : Move) (role : Role) (a b : Start) → StartOf p m role a → StartOf p m role b → a ≡ b
start_of_same p m Pawn a b h g = h ∙ sym g
start_of_same p m Knight a b h g = start_same p m a b h g
start_of_same p m Bishop a b h g = start_same p m a b h g
start_of_same p m Rook a b h g = start_same p m a b h g
start_of_same p m Queen a b h g = start_same p m a b h g
start_of_same p m King a b h g = start_same p m a b h g

role_same : (occupant : Option Piece) (a b : Role) → IsRole a occupant → IsRole b occupant → a ≡ b
role_same None a b h g = absurd h
role_same (Some piece) a b h g = sym h ∙ g

mark_same : (p : Position) (a b : CheckMark) → IsMarked p a → IsMarked p b → a ≡ b
mark_same p Quiet Quiet h g = refl
mark_same p Quiet Check h (check, some) = absurd (h check)
mark_same p Quiet Mate h (check, none) = absurd (h check)
mark_same p Check Quiet (check, some) g = absurd (g check)
mark_same p Check Check h g = refl
mark_same p Check Mate (check, (m, legal)) (again, none) = absurd (none m legal)
mark_same p Mate Quiet (check, none) g = absurd (g check)
mark_same p Mate Check (check, none) (again, (m, legal)) = absurd (none m legal)
mark_same p Mate Mate h g = refl

move_text_same : (p : Position) (m : Move) (a b : List ℕ) → MoveText p m a → MoveText p m b → a ≡ b
move_text_same p m a b (inl (is, e)) (inl (again, g)) = e ∙ sym g
move_text_same p m a b (inl (is, e)) (inr (not, named)) = cc
move_text_same p m a b (inr (not, named)) (inl (is, e)) = cc
move_text_same p m a b (inr (not, (role, start, is, starts, e))) (inr (again, (role', start', is', starts', e'))) =
    let roles = role_same (piece_at p.squares m.from.index) role role' is is' in
    e ∙ named_same role role' start start' roles starts starts' ∙ sym e'
  where
    named_same : (role role' : Role) (start start' : Start) → role ≡ role' → StartOf p m role start → StartOf p m role' start'
        → named_text p m role start ≡ named_text p m role' start'
    named_same role role' start start' roles starts starts' =
        let starts_here = subst (λ (r : Role). StartOf p m r start') (sym roles) starts' in
        ap (named_text p m role) (start_of_same p m role start start' starts starts_here) ∙ ap (λ (r : Role). named_text p m r start') roles

pub one_text : (p : Position) (m : Move) (a b : List ℕ) → SanText p m a → SanText p m b → a ≡ b
one_text p m a b (move, mark, moves, marked, e) (move', mark', moves', marked', e') =
    e ∙ ap (λ (text : List ℕ). text ++ mark_text mark) (move_text_same p m move move' moves moves')
    ∙ ap (λ (sign : CheckMark). move' ++ mark_text sign) (mark_same (after p m) mark mark' marked marked') ∙ sym e'
