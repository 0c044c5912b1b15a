-- A game's first visit of a position is its track's first step with the position's key.
use Rattle.std.proofs.Common.{◌≡◌, ◌↔◌, ℕ, zero, suc, Bool, true, false, true≢false, if◌then◌else◌, List, [], ◌∷◌, take, length, find, bytes_eq, Option, Some, None, sym, ap, ◌∙◌, subst, refl, inl, inr}
use Rattle.std.specs.Prelude.{option_map}
use Rattle.std.specs.List.{AllByRecursion, AllZip}
use Rattle.std.proofs.lemmas.Slice.Eq.{bytes_eq-Decides}
use Rattle.std.proofs.lemmas.Option.{none-some, same_Some}
use Rattle.explorer_model.specs.declared.archive.Game.{Game}
use Rattle.explorer_model.specs.declared.chess.Move.{Move}
use Rattle.explorer_model.specs.declared.chess.Position.{Position}
use Rattle.explorer_model.specs.Chess.{after, IsValid, Legal, Same}
use Rattle.explorer_model.specs.Keys.{key}
use Rattle.explorer_model.specs.Tidy.{IsTidied, IsTidyKey}
use Rattle.explorer_model.specs.Visits.{AreLegalFrom, Stage, stages, stage_limit, FirstVisit, IsTextOf, IsGameAt}
use Rattle.explorer_model.proofs.LegalGames.{game-legal}
use Rattle.tally_rows.specs.Cover.{game_at}
use Rattle.tally_rows.specs.Tally.{IsStepOf, IsTrackOf}
use Rattle.tally_rows.specs.Track.{Step, Track, visit}

-- what the lower crates say
pub record Laws : Type 0 where
  pub keeps : (p : Position) (m : Move) → IsValid p → Legal p m → IsValid (after p m)
  pub decides : (p q p_tidied q_tidied : Position) → IsTidied p p_tidied → IsTidied q q_tidied → Same p q ↔ (p_tidied ≡ q_tidied)
  pub keys : (p q : Position) → length p.squares ≡ 64 → length q.squares ≡ 64 → (key p ≡ key q) ↔ (p ≡ q)
  pub begins : (text : List ℕ) (game : Game) → IsTextOf text game → IsValid game.root

-- ---- the positions of a game are valid

abbrev IsValidAt : Stage → Type 0
IsValidAt stage = IsValid stage.position

valid-stages : Laws → (n : ℕ) (p : Position) (moves : List Move) → IsValid p → AreLegalFrom p moves → AllByRecursion IsValidAt (take n (stages p moves))
valid-stages laws zero p moves valid played = tt
valid-stages laws (suc n) p [] valid played = (valid, take-none n)
  where
    take-none : (n : ℕ) → AllByRecursion IsValidAt (take n [])
    take-none zero = tt
    take-none (suc n) = tt
valid-stages laws (suc n) p (m ∷ moves) valid played = (valid, valid-stages laws n (after p m) moves (laws.keeps p m valid played.0) played.1)

-- ---- keys tell the positions that are the same

tidied-length : (p q : Position) → length p.squares ≡ 64 → IsTidied p q → length q.squares ≡ 64
tidied-length p q board tidied = ap (λ s. length s) tidied.squares ∙ board

same-key : Laws → (p q : Position) (p_bytes q_bytes : List ℕ) → length p.squares ≡ 64 → length q.squares ≡ 64
    → IsTidyKey p p_bytes → IsTidyKey q q_bytes → Same p q ↔ (p_bytes ≡ q_bytes)
same-key laws p q p_bytes q_bytes p_board q_board p_key q_key =
    let by_tidy = laws.decides p q p_key.0 q_key.0 p_key.1 q_key.1 in
    let by_key = laws.keys p_key.0 q_key.0 (tidied-length p p_key.0 p_board p_key.1) (tidied-length q q_key.0 q_board q_key.1) in (
      λ same. p_key.2 ∙ by_key.1 (by_tidy.0 same) ∙ sym q_key.2,
      λ equal. by_tidy.1 (by_key.0 (sym p_key.2 ∙ equal ∙ q_key.2)),
    )

-- ---- the first visit

abbrev found_next : List ℕ → List Step → Option (Option Move)
found_next bytes steps = option_map (λ step. step.next) (find (λ step. bytes_eq step.key bytes) steps)

step-by : (at : Position) (bytes : List ℕ) (stage : Stage) (stages : List Stage) (step : Step) (steps : List Step)
    → Same stage.position at ↔ (step.key ≡ bytes) → step.next ≡ stage.next → FirstVisit at stages (found_next bytes steps)
    → (b : Bool) → bytes_eq step.key bytes ≡ b
    → FirstVisit at (stage ∷ stages) (option_map (λ s. s.next) (if b then Some step else find (λ s. bytes_eq s.key bytes) steps))
step-by at bytes stage stages step steps same next later true is = inl (same.1 ((bytes_eq-Decides step.key bytes).0 is), ap Some next)
step-by at bytes stage stages step steps same next later false is =
    inr ((λ here. true≢false (sym ((bytes_eq-Decides step.key bytes).1 (same.0 here)) ∙ is)), later)

visits-by-key : Laws → (at : Position) (bytes : List ℕ) → length at.squares ≡ 64 → IsTidyKey at bytes → (stages : List Stage) (steps : List Step)
    → AllByRecursion IsValidAt stages → AllZip IsStepOf stages steps → FirstVisit at stages (found_next bytes steps)
visits-by-key laws at bytes board tidy [] [] each zip = refl
visits-by-key laws at bytes board tidy [] (step ∷ steps) each zip = absurd zip
visits-by-key laws at bytes board tidy (stage ∷ stages) [] each zip = absurd zip
visits-by-key laws at bytes board tidy (stage ∷ stages) (step ∷ steps) each zip =
    step-by at bytes stage stages step steps
    (same-key laws stage.position at step.key bytes each.0.board board zip.0.0 tidy)
    zip.0.1
    (visits-by-key laws at bytes board tidy stages steps each.1 zip.1)
    (bytes_eq step.key bytes) refl

pub sees : Laws → (at : Position) (bytes : List ℕ) (text : List ℕ) (game : Game) (track : Track)
    → length at.squares ≡ 64 → IsTidyKey at bytes → IsTextOf text game → IsTrackOf game track → IsGameAt at game (game_at bytes track)
unfolding visit
sees laws at bytes text game track board tidy of tracked = (
  tracked.classes,
  visits-by-key laws at bytes board tidy (take stage_limit (stages game.root game.moves)) track.steps
      (valid-stages laws stage_limit game.root game.moves (laws.begins text game of) (game-legal text game of))
      tracked.steps,
)

-- ---- the move that follows

-- what follows where a game first comes to a position is legal there
pub visit-legal : Laws → ((p q : Position) (m : Move) → IsValid p → IsValid q → Same p q → Legal p m → Legal q m)
    → (at : Position) → IsValid at → (next : Move) (n : ℕ) (p : Position) (moves : List Move) → IsValid p → AreLegalFrom p moves
    → FirstVisit at (take n (stages p moves)) (Some (Some next)) → Legal at next
visit-legal laws same at valid next zero p moves p_valid played is = absurd (none-some (Some next) (sym is))
visit-legal laws same at valid next (suc n) p [] p_valid played (inl here) = absurd (none-some next (sym (same_Some (Some next) None here.1)))
visit-legal laws same at valid next (suc n) p [] p_valid played (inr (elsewhere, later)) = absurd (nothing n later)
  where
    nothing : (n : ℕ) → FirstVisit at (take n []) (Some (Some next)) → ⊥
    nothing zero is = none-some (Some next) (sym is)
    nothing (suc n) is = none-some (Some next) (sym is)
visit-legal laws same at valid next (suc n) p (m ∷ moves) p_valid played (inl here) =
    let L : Move → Type 0 = λ m. Legal at m in
    subst L (sym (same_Some next m (same_Some (Some next) (Some m) here.1))) (same p at m p_valid valid here.0 played.0)
visit-legal laws same at valid next (suc n) p (m ∷ moves) p_valid played (inr (elsewhere, later)) =
    visit-legal laws same at valid next n (after p m) moves (laws.keeps p m p_valid played.0) played.1 later

pub follows-legally : Laws → ((p q : Position) (m : Move) → IsValid p → IsValid q → Same p q → Legal p m → Legal q m)
    → (at : Position) (bytes : List ℕ) (text : List ℕ) (game : Game) (track : Track) (next : Move)
    → IsValid at → IsTidyKey at bytes → IsTextOf text game → IsTrackOf game track → visit bytes track ≡ Some (Some next) → Legal at next
follows-legally laws same at bytes text game track next valid tidy of tracked is =
    let V : Option (Option Move) → Type 0 = λ v. FirstVisit at (take stage_limit (stages game.root game.moves)) v in
    visit-legal laws same at valid next stage_limit game.root game.moves (laws.begins text game of) (game-legal text game of)
    (subst V is (sees laws at bytes text game track valid.board tidy of tracked).1)
