-- The position that a game begins in: a valid one, and the starting position where none is set up.
use Rattle.std.proofs.Common.{◌≡◌, ℕ, List, length, nat_le, ok_or, Option, Some, None, Result, Ok, Err, IfOk, refl, sym, ap, ◌∙◌, subst, inl, inr}
use Rattle.std.specs.Result.{result_map_both}
use Rattle.std.proofs.lemmas.Result.{IfOk-weaker}
use Rattle.explorer_model.specs.declared.archive.Game.{Game}
use Rattle.explorer_model.specs.declared.archive.Parts.{Parts}
use Rattle.explorer_model.specs.declared.chess.Position.{Position}
use Rattle.explorer_model.specs.declared.fault.GameFault.{GameFault}
use Rattle.explorer_model.specs.declared.fault.GameFault.TheVariants as faults
use Rattle.explorer_model.specs.declared.fault.LexFault.{LexFault}
use Rattle.explorer_model.specs.Chess.{start, IsValid}
use Rattle.explorer_model.specs.Classes.{classes, demand, start_text}
use Rattle.explorer_model.specs.Fen.{FenReads}
use Rattle.explorer_model.specs.Games.{Tagged, tagged, Score, score, RootReads, ScoreOfTagged, GameOfScore, ends_with, ply_limit}
use Rattle.explorer_model.specs.Parts.{parts}
use Rattle.explorer_model.specs.Stop.{◌>>=◌}
use Rattle.explorer_model.specs.Visits.{IsTextOf}
use Rattle.explorer_model.proofs.Readings.{Err-not-Ok, map-ok, bind-if, bind-if-given}

-- ---- what holds of each root that the tags allow holds of the game's

module _ (Holds : Position → Type 0) where
  abbrev OfRoot : Score → Type 0
  OfRoot found = Holds found.root

  abbrev OfRoots : Tagged → Type 0
  OfRoots found = (root : Result Position GameFault) → RootReads (start_text found.parts.tags) root → IfOk root Holds

  of-score : (found : Tagged) (root : Position) → Holds root → IfOk (score found root) OfRoot
  unfolding score
  of-score found root holds =
      bind-if OfRoot (ok_or found.parts.termination faults.NoTermination) _ (λ ending.
      bind-if OfRoot (demand (ends_with found.classes.outcome ending) faults.ResultDiffers) _ (λ _.
      bind-if OfRoot (demand (nat_le (length found.parts.tokens) ply_limit) faults.TooManyPlies) _ (λ _. holds)))

  of-scored : (reading : Result Tagged GameFault) (scored : Result Score GameFault) → IfOk reading OfRoots → ScoreOfTagged reading scored → IfOk scored OfRoot
  of-scored (Err fault) scored roots is = let P : Result Score GameFault → Type 0 = λ r. IfOk r OfRoot in subst P (sym is) tt
  of-scored (Ok found) scored roots of =
      let P : Result Score GameFault → Type 0 = λ r. IfOk r OfRoot in
      subst P (sym of.2) (bind-if-given Holds OfRoot of.0 (λ p. score found p) (roots of.0 of.1) (λ p holds. of-score found p holds))

  of-game : (scored : Result Score GameFault) (game : Game) → IfOk scored OfRoot → GameOfScore scored (Ok game) → Holds game.root
  of-game (Err fault) game holds of = absurd (Err-not-Ok fault game (sym of))
  of-game (Ok found) game holds of =
      let played = map-ok (λ moves. record { classes = found.classes; root = found.root; moves = moves }) (λ fault. fault) of.0 game (sym of.2) in
      let P : Game → Type 0 = λ g. Holds g.root in
      subst P played.2 holds

  of-text : (text : List ℕ) (game : Game) → IfOk (tagged text) OfRoots → IsTextOf text game → Holds game.root
  of-text text game roots of = of-game of.0 game (of-scored (tagged text) of.0 roots of.1) of.2

-- ---- a valid position

each-ok : {A F : Type 0} (P : A → Type 0) (r : Result A F) → ((x : A) → P x) → IfOk r P
each-ok P (Ok x) each = each x
each-ok P (Err e) each = tt

module _ (reads : (text : List ℕ) (p : Position) → FenReads text (Ok p) → IsValid p) (starts : IsValid start) where
  valid-root : (text : Option (List ℕ)) (root : Result Position GameFault) → RootReads text root → IfOk root IsValid
  valid-root None root is = let P : Result Position GameFault → Type 0 = λ r. IfOk r IsValid in subst P (sym is) starts
  valid-root (Some text) root (inl found) =
      let P : Result Position GameFault → Type 0 = λ r. IfOk r IsValid in subst P (sym found.2) (reads text found.0 found.1)
  valid-root (Some text) root (inr failed) =
      let P : Result Position GameFault → Type 0 = λ r. IfOk r IsValid in subst P (sym failed.2) tt

  pub begins-validly : (text : List ℕ) (game : Game) → IsTextOf text game → IsValid game.root
  begins-validly text game of =
      of-text IsValid text game (each-ok (OfRoots IsValid) (tagged text) (λ found. λ root is. valid-root (start_text found.parts.tags) root is)) of

-- ---- the starting position

abbrev IsStart : Position → Type 0
IsStart p = p ≡ start

abbrev HasParts : Parts → Tagged → Type 0
HasParts found tagged = tagged.parts ≡ found

has-parts : (text : List ℕ) (found : Parts) → parts text ≡ Ok found → IfOk (tagged text) (HasParts found)
unfolding tagged
has-parts text found is =
    let Same : Parts → Type 0 = λ p. p ≡ found in
    let P : Result Parts LexFault → Type 0 = λ r. IfOk (result_map_both (λ parts. parts) (λ fault. faults.Lex fault.place) r) Same in
    bind-if-given Same (HasParts found) (result_map_both (λ parts. parts) (λ fault. faults.Lex fault.place) (parts text)) _ (subst P (sym is) refl) (λ p same.
    bind-if (HasParts found) (result_map_both (λ classes. classes) faults.Tag (classes p.tags)) _ (λ _. same))

start-root : (found : Parts) (tagged : Tagged) → start_text found.tags ≡ None → HasParts found tagged → OfRoots IsStart tagged
start-root found tagged none same = λ root reads.
    let R : Option (List ℕ) → Type 0 = λ text. RootReads text root in
    let is : root ≡ Ok start = subst R (ap (λ (p : Parts). start_text p.tags) same ∙ none) reads in
    let P : Result Position GameFault → Type 0 = λ r. IfOk r IsStart in
    subst P (sym is) refl

pub begins-at-start : (text : List ℕ) (found : Parts) (game : Game) → parts text ≡ Ok found → start_text found.tags ≡ None → IsTextOf text game
    → game.root ≡ start
begins-at-start text found game is none of =
    of-text IsStart text game
    (IfOk-weaker (tagged text) (HasParts found) (OfRoots IsStart) (λ t same. start-root found t none same) (has-parts text found is)) of
