-- Bridge: the grammar of SAN (PGN 8.2.3), from the left: how a form is spelled.
use Rattle.std.specs.Prelude.{◌≡◌, ◌⊎◌, ℕ, ◌+◌, ◌<◌, ◌==◌, if◌then◌else◌, IfSome, IsTrue, Option, Some, None, List, [], ◌∷◌, ◌++◌, map}
use Rattle.std.specs.List.{list_all}
use Rattle.explorer_model.specs.declared.chess.Role.{Role}
use Rattle.explorer_model.specs.declared.notation.NamedMove.{NamedMove}
use Rattle.explorer_model.specs.declared.notation.SanForm.{SanForm}
use Rattle.explorer_model.specs.declared.notation.SanForm.TheVariants.{Castling, Named}
use Rattle.explorer_model.specs.Chess.{IsPromotion}
use Rattle.explorer_model.specs.Letters.{byte, letter_of, square_text}
use Rattle.explorer_model.specs.San.{is_mark, role_text, capture_text, castling_text}

abbrev pub file_text : Option ℕ → List ℕ
file_text None = []
file_text (Some file) = (byte "a" + file) ∷ []

abbrev pub rank_text : Option ℕ → List ℕ
rank_text None = []
rank_text (Some rank) = (byte "1" + rank) ∷ []

-- the letter of what a pawn becomes, with `=` before it or without
abbrev pub SpellsPromotion : Option Role → List ℕ → Type 0
SpellsPromotion None text = text ≡ []
SpellsPromotion (Some role) text = IsPromotion (Some role)
    × ((text ≡ byte "=" ∷ letter_of role ∷ []) ⊎ (text ≡ letter_of role ∷ []))

-- the piece's letter, its file, its rank, `x`, the target and the promotion, each where it is named
pub record SpellsMove (form : NamedMove) (text : List ℕ) : Type 0 where
  pub file : IfSome form.file (λ file. file < 8)
  pub rank : IfSome form.rank (λ rank. rank < 8)
  pub target : form.target < 64
  pub promotion : List ℕ
  pub promotes : SpellsPromotion form.promotion promotion
  pub text_is : text ≡ role_text form.role ++ file_text form.file ++ rank_text form.rank
      ++ capture_text form.captures ++ square_text form.target ++ promotion

-- zeros may stand for the letters O
abbrev pub with_letter : ℕ → ℕ
with_letter b = if b == byte "0" then byte "O" else b

abbrev pub SpellsForm : SanForm → List ℕ → Type 0
SpellsForm (Castling side) text = map with_letter text ≡ castling_text side
SpellsForm (Named form) text = SpellsMove form text

-- the form's text, and any run of `+` and `#` behind it
pub record IsSpelled (form : SanForm) (text : List ℕ) : Type 0 where
  pub body : List ℕ
  pub marks : List ℕ
  pub text_is : text ≡ body ++ marks
  pub are_marks : IsTrue (list_all is_mark marks)
  pub spells : SpellsForm form body
