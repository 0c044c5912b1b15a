-- One text has one game.
use Rattle.std.proofs.Common.{◌≡◌, ◌+◌, ℕ, List, [], ◌∷◌, Option, Some, None, Result, Ok, Err, sym, ap, ◌∙◌, subst, inl, inr}
use Rattle.std.specs.Result.{result_map_both}
use Rattle.explorer_model.specs.declared.archive.Game.{Game}
use Rattle.explorer_model.specs.declared.archive.Token.{Token}
use Rattle.explorer_model.specs.declared.chess.Move.{Move}
use Rattle.explorer_model.specs.declared.chess.Position.{Position}
use Rattle.explorer_model.specs.declared.fault.GameFault.{GameFault}
use Rattle.explorer_model.specs.declared.fault.GameFault.TheVariants as faults
use Rattle.explorer_model.specs.declared.fault.SanFault.{SanFault}
use Rattle.explorer_model.specs.declared.notation.FenFault.{FenFault}
use Rattle.explorer_model.specs.Chess.{after}
use Rattle.explorer_model.specs.Fen.{FenReads}
use Rattle.explorer_model.specs.Games.{Tagged, tagged, Score, score, RootReads, ScoreOfTagged, ScoreOf, Plays, move_fault, onto_moves, GameOf, GameOfScore}
use Rattle.explorer_model.specs.San.{SanReads}
use Rattle.explorer_model.specs.Stop.{◌>>=◌}
use Rattle.explorer_model.proofs.Readings.{Err-not-Ok, Ok-injective}

-- one text of SAN is read in one way
abbrev pub OneReading : Type 0
OneReading = (p : Position) (text : List ℕ) (r s : Result Move SanFault) → SanReads p text r → SanReads p text s → r ≡ s

abbrev fault_or : {A F : Type 0} → Result A F → F → F
fault_or (Ok x) d = d
fault_or (Err e) d = e

one-play : OneReading → (p : Position) (ply : ℕ) (tokens : List Token) (r s : Result (List Move) GameFault)
    → Plays p ply tokens r → Plays p ply tokens s → r ≡ s
one-play one p ply [] r s first second = first ∙ sym second
one-play one p ply (token ∷ tokens) r s (inl first) (inl second) =
    let same : first.0 ≡ second.0 = Ok-injective first.0 second.0 (one p token.text (Ok first.0) (Ok second.0) first.2 second.2) in
    let P : Move → Type 0 = λ m. Plays (after p m) (ply + 1) tokens first.1 in
    let rest : first.1 ≡ second.1 = one-play one (after p second.0) (ply + 1) tokens first.1 second.1 (subst P same first.3) second.3 in
    first.4 ∙ ap (λ m. onto_moves m first.1) same ∙ ap (λ more. onto_moves second.0 more) rest ∙ sym second.4
one-play one p ply (token ∷ tokens) r s (inl first) (inr second) =
    absurd (Err-not-Ok second.0 first.0 (one p token.text (Err second.0) (Ok first.0) second.1 first.2))
one-play one p ply (token ∷ tokens) r s (inr first) (inl second) =
    absurd (Err-not-Ok first.0 second.0 (one p token.text (Err first.0) (Ok second.0) first.1 second.2))
one-play one p ply (token ∷ tokens) r s (inr first) (inr second) =
    let same : first.0 ≡ second.0 = ap (λ e. fault_or e first.0) (one p token.text (Err first.0) (Err second.0) first.1 second.1) in
    first.2 ∙ ap (λ fault. Err (move_fault fault ply token.place)) same ∙ sym second.2

one-of-score : OneReading → (reading : Result Score GameFault) (g h : Result Game GameFault) → GameOfScore reading g → GameOfScore reading h → g ≡ h
one-of-score one (Err fault) g h first second = first ∙ sym second
one-of-score one (Ok found) g h first second =
    first.2
    ∙ ap (λ played. result_map_both (λ moves. record { classes = found.classes; root = found.root; moves = moves }) (λ fault. fault) played)
    (one-play one found.root 1 found.tokens first.0 second.0 first.1 second.1)
    ∙ sym second.2

-- one text of FEN is read in one way
abbrev pub OneFen : Type 0
OneFen = (text : List ℕ) (r s : Result Position FenFault) → FenReads text r → FenReads text s → r ≡ s

one-root : OneFen → (text : Option (List ℕ)) (r s : Result Position GameFault) → RootReads text r → RootReads text s → r ≡ s
one-root one None r s first second = first ∙ sym second
one-root one (Some text) r s (inl first) (inl second) =
    let same = Ok-injective first.0 second.0 (one text (Ok first.0) (Ok second.0) first.1 second.1) in
    first.2 ∙ ap (λ p. Ok p) same ∙ sym second.2
one-root one (Some text) r s (inl first) (inr second) =
    absurd (Err-not-Ok second.0 first.0 (one text (Err second.0) (Ok first.0) second.1 first.1))
one-root one (Some text) r s (inr first) (inl second) =
    absurd (Err-not-Ok first.0 second.0 (one text (Err first.0) (Ok second.0) first.1 second.1))
one-root one (Some text) r s (inr first) (inr second) =
    let same : first.0 ≡ second.0 = ap (λ e. fault_or e first.0) (one text (Err first.0) (Err second.0) first.1 second.1) in
    first.2 ∙ ap (λ fault. Err (faults.BadSetUp fault.field)) same ∙ sym second.2

one-score : OneFen → (reading : Result Tagged GameFault) (r s : Result Score GameFault) → ScoreOfTagged reading r → ScoreOfTagged reading s → r ≡ s
one-score one (Err fault) r s first second = first ∙ sym second
one-score one (Ok found) r s first second =
    first.2 ∙ ap (λ root. root >>= (λ p. score found p)) (one-root one _ first.0 second.0 first.1 second.1) ∙ sym second.2

pub one-game : OneReading → OneFen → (text : List ℕ) (g h : Result Game GameFault) → GameOf text g → GameOf text h → g ≡ h
one-game one one_fen text g h first second =
    let scored = one-score one_fen (tagged text) first.0 second.0 first.1 second.1 in
    let P : Result Score GameFault → Type 0 = λ r. GameOfScore r g in
    one-of-score one second.0 g h (subst P scored first.2) second.2
