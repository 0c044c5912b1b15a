-- A game is looked through, one position after another.
use Rattle.std.proofs.Common.{◌≡◌, ◌+◌, ◌-◌, ◌<◌, ◌≤◌, ℕ, zero, suc, List, [], ◌∷◌, take, drop, inl, inr, Option, Some, None, sym, ap, ◌∙◌, subst, refl, arith}
use Rattle.std.specs.Prelude.{slice_get}
use Rattle.plain_laws.specs.Lists.{drop-get, drop-none}
use Rattle.explorer_model.specs.declared.chess.Move.{Move}
use Rattle.explorer_model.specs.declared.chess.Position.{Position}
use Rattle.explorer_model.specs.Chess.{after, Legal, Same}
use Rattle.explorer_model.specs.Tidy.{IsTidied}
use Rattle.explorer_model.specs.Visits.{AreLegalFrom, FirstVisit, Stage, stages, stage_limit}

-- ---- the same position, by one tidy form

same-by-tidy : (p q tidy : Position) → IsTidied p tidy → IsTidied q tidy → Same p q
same-by-tidy p q tidy first second = (
  sym first.squares ∙ second.squares,
  sym first.turn ∙ second.turn,
  sym first.rights ∙ second.rights,
  λ s. (λ h. (second.en_passant s).0 ((first.en_passant s).1 h), λ h. (first.en_passant s).0 ((second.en_passant s).1 h)),
)

tidied-same : (p q tidy : Position) → Same p q → IsTidied q tidy → IsTidied p tidy
tidied-same p q tidy same tidied = record {
  squares = tidied.squares ∙ sym same.0;
  turn = tidied.turn ∙ sym same.1;
  rights = tidied.rights ∙ sym same.2;
  en_passant = λ s. (λ h. (same.3 s).1 ((tidied.en_passant s).0 h), λ h. (tidied.en_passant s).1 ((same.3 s).0 h));
}

-- ---- places of moves

-- ---- the stages that are left at a board

abbrev pub left_at : ℕ → Position → List Move → List Stage
left_at n p moves = take n (stages p moves)

-- where a position with the tidy form first comes among the stages that are left, it first comes among all
pub record Looking (tidy root : Position) (moves : List Move) (board : Position) (ply : ℕ) : Type 0 where
  pub legal : AreLegalFrom board (drop ply moves)
  pub visits : (at : Position) → IsTidied at tidy → (visit : Option (Option Move))
      → FirstVisit at (left_at (stage_limit - ply) board (drop ply moves)) visit
      → FirstVisit at (left_at stage_limit root moves) visit

pub looking-first : (tidy root : Position) (moves : List Move) (board : Position) → board ≡ root → AreLegalFrom root moves → Looking tidy root moves board 0
looking-first tidy root moves board at_root legal =
    subst (λ p. Looking tidy root moves p 0) (sym at_root) (record { legal = legal; visits = λ at tidied visit first. first })

pub looking-legal : (p : Position) (moves : List Move) (ply : ℕ) (m : Move) → slice_get moves ply ≡ Some m → AreLegalFrom p (drop ply moves) → Legal p m
looking-legal p moves ply m is legal = let L : List Move → Type 0 = λ ms. AreLegalFrom p ms in (subst L (drop-get moves ply m is) legal).0

take-some : (n : ℕ) (p : Position) (m : Move) (moves : List Move) → 0 < n
    → left_at n p (m ∷ moves) ≡ record { position = p; next = Some m } ∷ left_at (n - 1) (after p m) moves
take-some zero p m moves some = absurd (omega (arith, some))
take-some (suc n) p m moves some =
    let fewer : n ≡ suc n - 1 = omega arith in
    ap (λ k. record { position = p; next = Some m } ∷ left_at k (after p m) moves) fewer

take-last : (n : ℕ) (p : Position) → 0 < n → left_at n p [] ≡ record { position = p; next = None } ∷ []
take-last zero p some = absurd (omega (arith, some))
take-last (suc zero) p some = refl
take-last (suc (suc n)) p some = refl

-- the stage at the board, where a move follows
stages-some : (moves : List Move) (board : Position) (ply : ℕ) (m : Move) → ply < stage_limit → slice_get moves ply ≡ Some m
    → left_at (stage_limit - ply) board (drop ply moves)
    ≡ record { position = board; next = Some m } ∷ left_at (stage_limit - (ply + 1)) (after board m) (drop (ply + 1) moves)
stages-some moves board ply m below is =
    let fewer : stage_limit - ply - 1 ≡ stage_limit - (ply + 1) = omega (arith, below) in
    ap (left_at (stage_limit - ply) board) (drop-get moves ply m is)
    ∙ take-some (stage_limit - ply) board m (drop (ply + 1) moves) (omega (arith, below))
    ∙ ap (λ k. record { position = board; next = Some m } ∷ left_at k (after board m) (drop (ply + 1) moves)) fewer

-- and where none does
stages-none : (moves : List Move) (board : Position) (ply : ℕ) → ply < stage_limit → slice_get moves ply ≡ None
    → left_at (stage_limit - ply) board (drop ply moves) ≡ record { position = board; next = None } ∷ []
stages-none moves board ply below is =
    ap (left_at (stage_limit - ply) board) (drop-none moves ply is) ∙ take-last (stage_limit - ply) board (omega (arith, below))

-- a position with the tidy form comes here
pub looking-found : (tidy root : Position) (moves : List Move) (board : Position) (ply : ℕ) (next : Option Move) → ply < stage_limit
    → slice_get moves ply ≡ next → IsTidied board tidy → Looking tidy root moves board ply
    → (at : Position) → IsTidied at tidy → FirstVisit at (left_at stage_limit root moves) (Some next)
looking-found tidy root moves board ply None below is here looking at tidied =
    looking.visits at tidied (Some None)
    (subst (λ l. FirstVisit at l (Some None)) (sym (stages-none moves board ply below is)) (inl (same-by-tidy board at tidy here tidied, refl)))
looking-found tidy root moves board ply (Some m) below is here looking at tidied =
    looking.visits at tidied (Some (Some m))
    (subst (λ l. FirstVisit at l (Some (Some m))) (sym (stages-some moves board ply m below is)) (inl (same-by-tidy board at tidy here tidied, refl)))

-- none does, and the moves are at their end
pub looking-ended : (tidy root : Position) (moves : List Move) (board : Position) (ply : ℕ) → ply < stage_limit
    → slice_get moves ply ≡ None → ¬ IsTidied board tidy → Looking tidy root moves board ply
    → (at : Position) → IsTidied at tidy → FirstVisit at (left_at stage_limit root moves) None
looking-ended tidy root moves board ply below is other looking at tidied =
    looking.visits at tidied None
    (subst (λ l. FirstVisit at l None) (sym (stages-none moves board ply below is)) (inr (λ same. other (tidied-same board at tidy same tidied), refl)))

-- none does, and they go on
pub looking-next : (tidy root : Position) (moves : List Move) (board next : Position) (ply : ℕ) (m : Move) → ply < stage_limit
    → slice_get moves ply ≡ Some m → next ≡ after board m → ¬ IsTidied board tidy → Looking tidy root moves board ply
    → Looking tidy root moves next (ply + 1)
looking-next tidy root moves board next ply m below is plays other looking =
    let L : List Move → Type 0 = λ ms. AreLegalFrom board ms in
    let going : Looking tidy root moves (after board m) (ply + 1) = record {
      legal = (subst L (drop-get moves ply m is) looking.legal).1;
      visits = λ at tidied visit later. looking.visits at tidied visit
          (subst (λ l. FirstVisit at l visit) (sym (stages-some moves board ply m below is)) (inr (λ same. other (tidied-same board at tidy same tidied), later)));
    } in
    subst (λ p. Looking tidy root moves p (ply + 1)) (sym plays) going

-- no position is left
pub looking-over : (tidy root : Position) (moves : List Move) (board : Position) (ply : ℕ) → stage_limit ≤ ply
    → Looking tidy root moves board ply → (at : Position) → IsTidied at tidy → FirstVisit at (left_at stage_limit root moves) None
looking-over tidy root moves board ply over looking at tidied =
    let none : stage_limit - ply ≡ 0 = omega (arith, over) in
    looking.visits at tidied None (subst (λ n. FirstVisit at (left_at n board (drop ply moves)) None) (sym none) refl)
