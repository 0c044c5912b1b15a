-- Words of a move text, one after another.
use Rattle.std.proofs.Common.{◌≡◌, ℕ, suc, eqb, true, false, not, if◌then◌else◌, List, [], ◌∷◌, length, map, filter, Option, Some, None, Ok, Err, refl, sym, ap, subst, ◌∙◌, inl, inr, arith}
use Rattle.std.specs.List.{slice_split}
use Rattle.std.proofs.lemmas.Bool.Decides.{nat_tests}
use Rattle.explorer_model.specs.declared.chess.Move.{Move}
use Rattle.explorer_model.specs.declared.chess.Position.{Position}
use Rattle.explorer_model.specs.declared.fault.SanFault.{SanFault}
use Rattle.explorer_model.specs.Chess.{after, start}
use Rattle.explorer_model.specs.San.{SanReads}
use Rattle.explorer_model.specs.Openings.{Leads, is_empty, is_space, without_number, words_of}
use Rattle.opening_names.specs.Reading.{pieces_left, words_left}

pub empty-is : (bytes : List ℕ) → is_empty bytes ≡ eqb (length bytes) 0
empty-is [] = refl
empty-is (b ∷ bytes) = (let some : eqb (suc (length bytes)) 0 ≡ false = grind (arith, nat_tests) in sym some)

-- one word before those that are left, unless it is empty
pub words-next : (now piece : List ℕ) (left : Option (List ℕ)) → slice_split is_space now ≡ piece ∷ pieces_left is_space left
    → words_of now ≡ (if not (is_empty (without_number piece)) then without_number piece ∷ words_left left else words_left left)
unfolding words_of
words-next now piece None is = ap (λ l. filter (λ word. not (is_empty word)) (map without_number l)) is
words-next now piece (Some text) is = ap (λ l. filter (λ word. not (is_empty word)) (map without_number l)) is

module _ (now piece : List ℕ) (left : Option (List ℕ)) (cut : slice_split is_space now ≡ piece ∷ pieces_left is_space left) where
  pub words-skipped : is_empty (without_number piece) ≡ true → words_of now ≡ words_left left
  words-skipped none = words-next now piece left cut ∙ ap (λ b. if not b then without_number piece ∷ words_left left else words_left left) none

  pub words-taken : is_empty (without_number piece) ≡ false → words_of now ≡ without_number piece ∷ words_left left
  words-taken some = words-next now piece left cut ∙ ap (λ b. if not b then without_number piece ∷ words_left left else words_left left) some

-- where the words that are left lead from the board, all words lead from the start
abbrev pub LeadsOn : List ℕ → Position → Option (List ℕ) → Type 0
LeadsOn text board left = (end : Option Position) → Leads board (words_left left) end → Leads start (words_of text) end

module _ (text : List ℕ) (board : Position) (now piece : List ℕ) (left : Option (List ℕ)) (cut : slice_split is_space now ≡ piece ∷ pieces_left is_space left)
    (on : LeadsOn text board (Some now)) where
  pub leads-skipped : is_empty (without_number piece) ≡ true → LeadsOn text board left
  leads-skipped none end leads = on end (subst (λ l. Leads board l end) (sym (words-skipped now piece left cut none)) leads)

  pub leads-played : (next : Position) (m : Move) → next ≡ after board m → is_empty (without_number piece) ≡ false
      → SanReads board (without_number piece) (Ok m) → LeadsOn text next left
  leads-played next m played some is end leads =
      let P : Position → Type 0 = λ p. Leads p (words_left left) end in
      let all : Leads board (without_number piece ∷ words_left left) end = inl (m, is, subst P played leads) in
      on end (subst (λ l. Leads board l end) (sym (words-taken now piece left cut some)) all)

  pub leads-nowhere : (fault : SanFault) → is_empty (without_number piece) ≡ false → SanReads board (without_number piece) (Err fault) → Leads start (words_of text) None
  leads-nowhere fault some is =
      on None (subst (λ l. Leads board l None) (sym (words-taken now piece left cut some)) (inr (fault, is, refl)))
