-- What is written is read as the same move.
use Rattle.std.proofs.Common.{◌≡◌, ℕ, ◌++◌, List, Ok, IsTrue, true, false, refl, sym, subst, ap, ◌∙◌, append_assoc, inl, inr}
use Rattle.std.specs.List.{list_all}
use Rattle.explorer_model.specs.declared.chess.Position.{Position}
use Rattle.explorer_model.specs.declared.chess.Move.{Move}
use Rattle.explorer_model.specs.declared.chess.Role.{Role}
use Rattle.explorer_model.specs.declared.notation.Start.{Start}
use Rattle.explorer_model.specs.declared.notation.Start.TheVariants.{Unnamed, File, Rank, Square}
use Rattle.explorer_model.specs.declared.notation.NamedMove.{NamedMove}
use Rattle.explorer_model.specs.declared.notation.SanForm.TheVariants.{Castling, Named}
use Rattle.explorer_model.specs.declared.notation.CheckMark.{CheckMark}
use Rattle.explorer_model.specs.declared.notation.CheckMark.TheVariants.{Quiet, Check, Mate}
use Rattle.explorer_model.specs.Board.{file_of, rank_of, piece_at}
use Rattle.explorer_model.specs.Chess.{is_castling, castling_side, IsValid, Legal}
use Rattle.explorer_model.specs.San.{is_mark, captures, IsRole, IsAsNamed, StartOf, MoveText, SanText, SanReads, mark_text, named_text, castling_text}
use Rattle.san_codec.proofs.Reading.{reads}
use Rattle.san_codec.proofs.Single.{move_eq, named_from, castling_only, promotes_well}
use Rattle.san_codec.proofs.Spelling.{file_in, rank_in, named_form, castling_form}

-- the form of a move that is not castling
abbrev form_of_move : Position → Move → Role → Start → NamedMove
form_of_move p m role start = record {
  role = role;
  file = file_in start m.from.index;
  rank = rank_in start m.from.index;
  captures = captures p m;
  target = m.to.index;
  promotion = m.promotion;
}

own_file : (start : Start) (s : ℕ) → IsAsNamed (file_in start s) (file_of s)
own_file Unnamed s = tt
own_file File s = refl
own_file Rank s = tt
own_file Square s = refl

own_rank : (start : Start) (s : ℕ) → IsAsNamed (rank_in start s) (rank_of s)
own_rank Unnamed s = tt
own_rank File s = tt
own_rank Rank s = refl
own_rank Square s = refl

named_reads : (p : Position) (m : Move) (role : Role) (start : Start) (marks : List ℕ) → IsValid p → Legal p m → is_castling p m ≡ false
    → IsRole role (piece_at p.squares m.from.index) → StartOf p m role start → IsTrue (list_all is_mark marks) → SanReads p (named_text p m role start ++ marks) (Ok m)
named_reads p m role start marks valid legal not is starts all =
    reads p (named_text p m role start ++ marks) (Named (form_of_move p m role start)) (Ok m)
    (sym (named_form role start m.from.index (captures p m) m.to.index m.promotion marks m.from.on_board m.to.on_board (promotes_well p m role legal is) all)) (
      legal,
      (not, (is, own_file start m.from.index, own_rank start m.from.index), (refl, refl, refl)),
      λ o legal_o (not_o, (is_o, file, rank), (takes, to, promotion)).
          move_eq o m (named_from p m o role start valid legal legal_o is is_o to takes starts file rank) to promotion,
    )

castling_reads : (p : Position) (m : Move) (marks : List ℕ) → Legal p m → is_castling p m ≡ true → IsTrue (list_all is_mark marks)
    → SanReads p (castling_text (castling_side m) ++ marks) (Ok m)
castling_reads p m marks legal is all =
    reads p (castling_text (castling_side m) ++ marks) (Castling (castling_side m)) (Ok m) (sym (castling_form (castling_side m) marks all))
    (legal, (is, refl), λ o legal_o (is_o, side). castling_only p m o legal is legal_o is_o side)

pub move_reads : (p : Position) (m : Move) (text marks : List ℕ) → IsValid p → Legal p m → MoveText p m text → IsTrue (list_all is_mark marks)
    → SanReads p (text ++ marks) (Ok m)
move_reads p m text marks valid legal (inl (is, e)) all =
    subst (λ (bytes : List ℕ). SanReads p (bytes ++ marks) (Ok m)) (sym e) (castling_reads p m marks legal is all)
move_reads p m text marks valid legal (inr (not, (role, start, is, starts, e))) all =
    subst (λ (bytes : List ℕ). SanReads p (bytes ++ marks) (Ok m)) (sym e) (named_reads p m role start marks valid legal not is starts all)

all_marks : (mark : CheckMark) (marks : List ℕ) → IsTrue (list_all is_mark marks) → IsTrue (list_all is_mark (mark_text mark ++ marks))
all_marks Quiet marks all = all
all_marks Check marks all = all
all_marks Mate marks all = all

pub text_reads : (p : Position) (m : Move) (text marks : List ℕ) → IsValid p → Legal p m → SanText p m text → IsTrue (list_all is_mark marks)
    → SanReads p (text ++ marks) (Ok m)
text_reads p m text marks valid legal (move, mark, moves, marked, e) all =
    let joined : text ++ marks ≡ move ++ (mark_text mark ++ marks) = ap (λ (bytes : List ℕ). bytes ++ marks) e ∙ append_assoc move (mark_text mark) marks in
    subst (λ (bytes : List ℕ). SanReads p bytes (Ok m)) (sym joined) (move_reads p m move (mark_text mark ++ marks) valid legal moves (all_marks mark marks all))
