-- A walk along moves, and the opening of the last position on it that has one.
use Rattle.std.proofs.Common.{◌≡◌, ℕ, zero, suc, ◌<◌, List, [], ◌∷◌, map, length, get_or, Bor, Option, Some, None, refl, sym, subst, ◌∙◌, arith}
use Rattle.std.specs.List.{AllByRecursion, last_or}
use Rattle.std.specs.Option.{option_copied, option_or}
use Rattle.plain_laws.specs.Options.{option_or-assoc}
use Rattle.explorer_model.specs.declared.answer.MoveLine.{MoveLine}
use Rattle.explorer_model.specs.declared.chess.Move.{Move}
use Rattle.explorer_model.specs.declared.chess.Position.{Position}
use Rattle.explorer_model.specs.declared.opening.Opening.{Opening}
use Rattle.explorer_model.specs.declared.player.PlayerLine.{PlayerLine}
use Rattle.explorer_model.specs.Chess.{Legal, after}
use Rattle.explorer_model.specs.Openings.{LastOpening, NamedPosition, OpeningOf, positions_on}
use Rattle.explorer_model.specs.Visits.{AreLegalFrom}
use Rattle.opening_names.specs.Reading.{positions_behind}

on-behind : (p : Position) (moves : List Move) → positions_on p moves ≡ p ∷ positions_behind p moves
on-behind p [] = refl
on-behind p (m ∷ moves) = refl

last-of : (o : Option Position) (p : Position) (moves : List Move) → last_or o (positions_on p moves) ≡ last_or None (positions_on p moves)
last-of o p [] = refl
last-of o p (m ∷ moves) = refl

pub copied-or : (a b : Option (Bor Opening)) → option_copied (option_or a b) ≡ option_or (option_copied a) (option_copied b)
copied-or None b = refl
copied-or (Some x) b = refl

-- The walk has come from the root to the board, with this opening: what the moves that are left name completes what
-- all of them name.
pub record Walks (book : List NamedPosition) (root : Position) (plays : List Move) (board : Position) (left : List Move)
    (opening : Option Opening) : Type 0 where
  pub legal : AreLegalFrom board left
  pub ends : last_or None (positions_on board left) ≡ last_or None (positions_on root plays)
  pub completes : (later : Option Opening) → LastOpening book (positions_behind board left) later
      → LastOpening book (positions_on root plays) (option_or later opening)

module _ (book : List NamedPosition) (root : Position) (plays : List Move) where
  pub begins : (opening : Option Opening) → AreLegalFrom root plays → OpeningOf book root opening → Walks book root plays root plays opening
  begins opening legal own = record {
    legal = legal;
    ends = refl;
    completes = λ later last.
        (let L : List Position → Type 0 = λ ps. LastOpening book ps (option_or later opening) in
        subst L (sym (on-behind root plays)) (opening, later, own, last, refl));
  }

  steps : (board : Position) (m : Move) (rest : List Move) (opening own : Option Opening) → Walks book root plays board (m ∷ rest) opening
      → OpeningOf book (after board m) own → Walks book root plays (after board m) rest (option_or own opening)
  steps board m rest opening own walks is = record {
    legal = walks.legal.1;
    ends = sym (last-of (Some board) (after board m) rest) ∙ walks.ends;
    completes = λ later last.
        (let L : List Position → Type 0 = λ ps. LastOpening book ps (option_or later own) in
        let W : Option Opening → Type 0 = λ o. LastOpening book (positions_on root plays) o in
        subst W (option_or-assoc later own opening)
        (walks.completes (option_or later own) (subst L (sym (on-behind (after board m) rest)) (own, later, is, last, refl))));
  }

  pub goes_on : (board next : Position) (m : Move) (left rest : List Move) (opening own : Option Opening) → Walks book root plays board left opening
      → left ≡ m ∷ rest → next ≡ after board m → OpeningOf book next own → Walks book root plays next rest (option_or own opening)
  goes_on board next m left rest opening own walks here played is =
      let W : List Move → Type 0 = λ ms. Walks book root plays board ms opening in
      let O : Position → Type 0 = λ p. OpeningOf book p own in
      let N : Position → Type 0 = λ p. Walks book root plays p rest (option_or own opening) in
      subst N (sym played) (steps board m rest opening own (subst W here walks) (subst O played is))

  pub first-legal : (board : Position) (m : Move) (left rest : List Move) (opening : Option Opening) → Walks book root plays board left opening
      → left ≡ m ∷ rest → Legal board m
  first-legal board m left rest opening walks here =
      let W : List Move → Type 0 = λ ms. Walks book root plays board ms opening in
      (subst W here walks).legal.0

  pub ends-named : (board : Position) (left : List Move) (opening : Option Opening) → Walks book root plays board left opening → left ≡ []
      → LastOpening book (positions_on root plays) opening
  ends-named board left opening walks none =
      let W : List Move → Type 0 = λ ms. Walks book root plays board ms opening in
      (subst W none walks).completes None refl

  pub ends-at : (board : Position) (left : List Move) (opening : Option Opening) → Walks book root plays board left opening → left ≡ []
      → last_or None (positions_on root plays) ≡ Some board
  ends-at board left opening walks none =
      let W : List Move → Type 0 = λ ms. Walks book root plays board ms opening in
      sym (subst W none walks).ends

-- ---- moves by themselves

pub each-at : {X : Type 0} (P : X → Type 0) (xs : List X) → AllByRecursion P xs → (i : ℕ) (d : X) → i < length xs → P (get_or xs i d)
each-at P [] each i d within = absurd (omega arith)
each-at P (x ∷ xs) each zero d within = each.0
each-at P (x ∷ xs) each (suc i) d within = each-at P xs each.1 i d (omega arith)

pub lines-legal : (at : Position) (lines : List MoveLine) → AllByRecursion (λ line. Legal at line.next) lines → AllByRecursion (λ m. Legal at m) (map (λ line. line.next) lines)
lines-legal at [] each = tt
lines-legal at (line ∷ lines) each = (each.0, lines-legal at lines each.1)

pub player-lines-legal : (at : Position) (lines : List PlayerLine) → AllByRecursion (λ line. Legal at line.next) lines → AllByRecursion (λ m. Legal at m) (map (λ line. line.next) lines)
player-lines-legal at [] each = tt
player-lines-legal at (line ∷ lines) each = (each.0, player-lines-legal at lines each.1)
