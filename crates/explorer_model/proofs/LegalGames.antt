-- The moves of a game are legal, each in its turn.
use Rattle.std.proofs.Common.{◌+◌, ℕ, List, [], ◌∷◌, Option, Some, None, Result, Ok, Err, sym, subst, inl, inr}
use Rattle.explorer_model.specs.declared.archive.Game.{Game}
use Rattle.explorer_model.specs.declared.archive.Token.{Token}
use Rattle.explorer_model.specs.declared.chess.Move.{Move}
use Rattle.explorer_model.specs.declared.chess.Position.{Position}
use Rattle.explorer_model.specs.declared.fault.GameFault.{GameFault}
use Rattle.explorer_model.specs.declared.notation.SanForm.{SanForm}
use Rattle.explorer_model.specs.Chess.{after, Legal}
use Rattle.explorer_model.specs.Games.{Score, Plays, GameOfScore}
use Rattle.explorer_model.specs.San.{AnswersAs, san_form}
use Rattle.explorer_model.specs.Visits.{IsTextOf, AreLegalFrom, AreLegal}
use Rattle.explorer_model.proofs.Readings.{Err-not-Ok, Ok-injective, map-ok}

named-legal : (p : Position) (form : Option SanForm) (m : Move) → AnswersAs p form (Ok m) → Legal p m
named-legal p None m is = absurd (Err-not-Ok _ m (sym is))
named-legal p (Some form) m answer = answer.0

plays-legal : (p : Position) (ply : ℕ) (tokens : List Token) (moves : List Move) → Plays p ply tokens (Ok moves) → AreLegalFrom p moves
plays-legal p ply [] moves is = let P : List Move → Type 0 = λ ms. AreLegalFrom p ms in subst P (sym (Ok-injective moves [] is)) tt
plays-legal p ply (token ∷ tokens) moves (inl played) =
    let m : Move = played.0 in
    let rest = map-ok (λ ms. m ∷ ms) (λ fault. fault) played.1 moves (sym played.4) in
    let R : Result (List Move) GameFault → Type 0 = λ r. Plays (after p m) (ply + 1) tokens r in
    let P : List Move → Type 0 = λ ms. AreLegalFrom p ms in
    subst P rest.2 (named-legal p (san_form token.text) m played.2, plays-legal (after p m) (ply + 1) tokens rest.0 (subst R rest.1 played.3))
plays-legal p ply (token ∷ tokens) moves (inr failed) = absurd (Err-not-Ok _ moves (sym failed.2))

score-legal : (reading : Result Score GameFault) (game : Game) → GameOfScore reading (Ok game) → AreLegal game
score-legal (Err fault) game is = absurd (Err-not-Ok fault game (sym is))
score-legal (Ok found) game of =
    let moves = map-ok (λ ms. record { classes = found.classes; root = found.root; moves = ms }) (λ fault. fault) of.0 game (sym of.2) in
    let R : Result (List Move) GameFault → Type 0 = λ r. Plays found.root 1 found.tokens r in
    let G : Game → Type 0 = λ g. AreLegal g in
    subst G moves.2 (plays-legal found.root 1 found.tokens moves.0 (subst R moves.1 of.1))

pub game-legal : (text : List ℕ) (game : Game) → IsTextOf text game → AreLegal game
game-legal text game of = score-legal of.0 game of.2
