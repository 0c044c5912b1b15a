-- What is written of moves is read as their words, and these as the moves.
use Rattle.std.proofs.Common.{◌≡◌, ℕ, ◌+◌, ◌/◌, ◌%◌, ◌^◌, ◌<◌, ◌≤◌, ◌==◌, Bool, true, false, cond, List, [], ◌∷◌, ◌++◌, length, map, Ok, codes, decimal, refl, sym, ap, ◌∙◌, subst, arith, inl}
use Rattle.std.specs.Bool.{⊤}
use Rattle.std.proofs.lemmas.List.{append_assoc, append-nil}
use Rattle.std.specs.List.{list_all}
use Rattle.explorer_model.specs.declared.archive.Ending.{Ending}
use Rattle.explorer_model.specs.declared.archive.Tag.{Tag}
use Rattle.explorer_model.specs.declared.archive.Token.{Token}
use Rattle.explorer_model.specs.declared.chess.Move.{Move}
use Rattle.explorer_model.specs.declared.chess.Position.{Position}
use Rattle.explorer_model.specs.Chess.{IsValid, Legal, after}
use Rattle.explorer_model.specs.Games.{Plays}
use Rattle.explorer_model.specs.Parts.{Section, Moves}
use Rattle.explorer_model.specs.San.{is_mark, SanText, SanReads}
use Rattle.explorer_model.specs.Visits.{AreLegalFrom}
use Rattle.sample_games.specs.Samples.{WritesMoves, number_text}
use Rattle.sample_games.proofs.Symbols.{Reads, IsOpen, moves-open, reads-word, reads-number, reads-space, reads-period}
use Rattle.sample_games.proofs.Words.{Begins, BeginsNumber, san-begins, decimal-begins}

-- the texts of the moves in SAN
abbrev pub AreSan : Position → List Move → List (List ℕ) → Type 0
AreSan p [] [] = ⊤
AreSan p (m ∷ moves) (text ∷ texts) = SanText p m text × AreSan (after p m) moves texts
AreSan p _ _ = ⊥

-- ---- words

module _ (tags : List Tag) (texts : List (List ℕ)) (ending : Ending) (rest : List ℕ) where
  reads-san : (section : Section) → IsOpen section → (san : List ℕ) → Begins san → Reads Moves rest tags texts ending
      → Reads section (san ++ codes " " ++ rest) tags (san ∷ texts) ending
  reads-san section is_open san begins behind =
      subst (λ (word : List ℕ). Reads section (word ++ codes " " ++ rest) tags (word ∷ texts) ending) (sym begins.is)
      (subst (λ (bytes : List ℕ). Reads section bytes tags ((begins.first ∷ begins.more) ∷ texts) ending) (sym (append_assoc (begins.first ∷ begins.more) (codes " ") rest))
      (reads-word section is_open begins.first begins.more 32 rest begins.symbol refl tags texts ending begins.kind (reads-space rest tags texts ending behind)))

  reads-move_number : (section : Section) → IsOpen section → (number : List ℕ) → BeginsNumber number → Reads Moves rest tags texts ending
      → Reads section (number ++ codes ". " ++ rest) tags texts ending
  reads-move_number section is_open number begins behind =
      subst (λ (word : List ℕ). Reads section (word ++ codes ". " ++ rest) tags texts ending) (sym begins.is)
      (subst (λ (bytes : List ℕ). Reads section bytes tags texts ending) (sym (append_assoc (begins.first ∷ begins.more) (codes ". ") rest))
      (reads-number section is_open begins.first begins.more 46 (32 ∷ rest) begins.symbol refl tags texts ending begins.kind (reads-period (32 ∷ rest) tags texts ending (reads-space rest tags texts ending behind))))

-- a move with the number that may stand before it
reads-numbered : (tags : List Tag) (texts : List (List ℕ)) (ending : Ending) (rest : List ℕ) (section : Section) → IsOpen section → (white : Bool) (n : ℕ) → n < 2 ^ 64 → (san : List ℕ) → Begins san → Reads Moves rest tags texts ending
    → Reads section (cond white (decimal n ++ codes ". ") [] ++ (san ++ codes " " ++ rest)) tags (san ∷ texts) ending
reads-numbered tags texts ending rest section is_open false n lt san begins behind = reads-san tags texts ending rest section is_open san begins behind
reads-numbered tags texts ending rest section is_open true n lt san begins behind =
    reads-move_number tags (san ∷ texts) ending (san ++ codes " " ++ rest) section is_open (decimal n) (decimal-begins n lt)
    (reads-san tags texts ending rest Moves moves-open san begins behind)

-- ---- the movetext

pub record ReadsAs (p : Position) (moves : List Move) (section : Section) (bytes : List ℕ) (ending : Ending) : Type 0 where
  pub texts : List (List ℕ)
  pub are : AreSan p moves texts
  pub reads : Reads section bytes [] texts ending

pub reads-moves : (p : Position) (ply : ℕ) (moves : List Move) (movetext rest : List ℕ) (ending : Ending) → WritesMoves p ply moves movetext → ply + length moves ≤ 1024
    → ((section : Section) → IsOpen section → Reads section rest [] [] ending) → (section : Section) → IsOpen section → ReadsAs p moves section (movetext ++ rest) ending
reads-moves p ply [] movetext rest ending none few last section is_open = record {
  texts = [];
  are = tt;
  reads = subst (λ (t : List ℕ). Reads section (t ++ rest) [] [] ending) (sym none) (last section is_open);
}
reads-moves p ply (m ∷ moves) movetext rest ending writes few last section is_open =
    let san : List ℕ = writes.0 in
    let later : ReadsAs (after p m) moves Moves (writes.1 ++ rest) ending =
    reads-moves (after p m) (ply + 1) moves writes.1 rest ending writes.3 (omega (arith, few)) last Moves moves-open in
    let here : Reads section (number_text ply ++ (san ++ codes " " ++ (writes.1 ++ rest))) [] (san ∷ later.texts) ending =
    reads-numbered [] later.texts ending (writes.1 ++ rest) section is_open (ply % 2 == 0) (ply / 2 + 1) (omega (arith, few)) san
    (san-begins p m san m.from.on_board m.to.on_board writes.2) later.reads in
    let grouped : number_text ply ++ (san ++ codes " " ++ (writes.1 ++ rest)) ≡ (number_text ply ++ san ++ codes " " ++ writes.1) ++ rest =
    ap (λ (t : List ℕ). number_text ply ++ t) (sym (append_assoc (san ++ codes " ") writes.1 rest))
    ∙ (sym (append_assoc (number_text ply) (san ++ codes " " ++ writes.1) rest)
    ∙ ap (λ (t : List ℕ). t ++ rest) (sym (append_assoc (number_text ply) (san ++ codes " ") writes.1) ∙ ap (λ (t : List ℕ). t ++ writes.1) (sym (append_assoc (number_text ply) san (codes " "))))) in
    record {
      texts = san ∷ later.texts;
      are = (writes.2, later.are);
      reads = subst (λ (t : List ℕ). Reads section t [] (san ∷ later.texts) ending) (grouped ∙ ap (λ (t : List ℕ). t ++ rest) (sym writes.4)) here;
    }

-- ---- the moves

abbrev pub WrittenIsRead : Type 0
WrittenIsRead = (p : Position) (m : Move) (text marks : List ℕ) → IsValid p → Legal p m → SanText p m text → list_all is_mark marks ≡ true → SanReads p (text ++ marks) (Ok m)

pub plays-san : WrittenIsRead → ((p : Position) (m : Move) → IsValid p → Legal p m → IsValid (after p m)) → (p : Position) (k : ℕ) (moves : List Move) (tokens : List Token)
    → IsValid p → AreLegalFrom p moves → AreSan p moves (map (λ (token : Token). token.text) tokens) → Plays p k tokens (Ok moves)
plays-san reads stays p k [] [] valid legal are = refl
plays-san reads stays p k [] (token ∷ tokens) valid legal are = absurd are
plays-san reads stays p k (m ∷ moves) [] valid legal are = absurd are
plays-san reads stays p k (m ∷ moves) (token ∷ tokens) valid legal are =
    inl (
      m,
      Ok moves,
      subst (λ (t : List ℕ). SanReads p t (Ok m)) (append-nil token.text) (reads p m token.text [] valid legal.0 are.0 refl),
      plays-san reads stays (after p m) (k + 1) moves tokens (stays p m valid legal.0) legal.1 are.1,
      refl,
    )
