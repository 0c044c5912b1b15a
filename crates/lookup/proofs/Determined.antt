-- A journal has one answer to a query.
use Rattle.std.proofs.Common.{◌≡◌, ℕ, List, Option, Result, Ok, sym, ◌∙◌, subst}
use Rattle.explorer_model.specs.declared.answer.Found.{Found}
use Rattle.explorer_model.specs.declared.answer.MoveLine.{MoveLine}
use Rattle.explorer_model.specs.declared.archive.Batch.{Batch}
use Rattle.explorer_model.specs.declared.archive.Game.{Game}
use Rattle.explorer_model.specs.declared.chess.Move.{Move}
use Rattle.explorer_model.specs.declared.chess.Position.{Position}
use Rattle.explorer_model.specs.declared.fault.GameFault.{GameFault}
use Rattle.explorer_model.specs.declared.query.Query.{Query}
use Rattle.explorer_model.specs.Counting.{passes, first_moves}
use Rattle.explorer_model.specs.Finds.{IsLineOf, IsRecount, IsFoundOf, IsFound}
use Rattle.explorer_model.specs.Games.{GameOf}
use Rattle.explorer_model.specs.San.{SanText}
use Rattle.explorer_model.specs.Visits.{Stage, GameAt, FirstVisit, IsTextOf, IsGameAt, texts_of, counted_stages}
use Rattle.explorer_model.proofs.Lists.{one-zip}
use Rattle.explorer_model.proofs.Readings.{Ok-injective}

-- what the lower crates say
pub record Single : Type 0 where
  pub game : (text : List ℕ) (game other : Result Game GameFault) → GameOf text game → GameOf text other → game ≡ other
  pub visit : (at : Position) (stages : List Stage) (v w : Option (Option Move)) → FirstVisit at stages v → FirstVisit at stages w → v ≡ w
  pub writing : (p : Position) (m : Move) (text other : List ℕ) → SanText p m text → SanText p m other → text ≡ other

one-game : Single → (text : List ℕ) (game other : Game) → IsTextOf text game → IsTextOf text other → game ≡ other
one-game single text game other first second = Ok-injective game other (single.game text (Ok game) (Ok other) first second)

one-games_at : Single → (at : Position) (game : Game) (games_at other : GameAt) → IsGameAt at game games_at → IsGameAt at game other → games_at ≡ other
one-games_at single at game games_at other first second =
    let classes = first.0 ∙ sym second.0 in
    let visit = single.visit at (counted_stages game) games_at.visit other.visit first.1 second.1 in
    λ i. record { classes = classes i; visit = visit i }

one-line : Single → (query : Query) (games_at : List GameAt) (m : Move) (line other : MoveLine) → IsLineOf query games_at m line → IsLineOf query games_at m other → line ≡ other
one-line single query games_at m line other first second =
    let next = first.next ∙ sym second.next in
    let san = single.writing query.at m line.san other.san first.san second.san in
    let average = first.average ∙ sym second.average in
    let totals = first.totals ∙ sym second.totals in
    let game = first.game ∙ sym second.game in
    λ i. record { next = next i; san = san i; average = average i; totals = totals i; game = game i }

one-recount : Single → (query : Query) (games_at : List GameAt) (found other : Found) → IsRecount query games_at found → IsRecount query games_at other → found ≡ other
one-recount single query games_at found other first second =
    let totals = first.totals ∙ sym second.totals in
    let moves = one-zip (IsLineOf query games_at) (one-line single query games_at) (first_moves query.moves (passes query.filter) games_at) found.moves other.moves first.moves second.moves in
    let top = first.top ∙ sym second.top in
    let recent = first.recent ∙ sym second.recent in
    let history = first.history ∙ sym second.history in
    λ i. record { totals = totals i; moves = moves i; top = top i; recent = recent i; history = history i }

one-answer : Single → (games : List Game) (query : Query) (found other : Found) → IsFoundOf games query found → IsFoundOf games query other → found ≡ other
one-answer single games query found other first second =
    let same = one-zip (IsGameAt query.at) (one-games_at single query.at) games first.games_at second.games_at first.are_games_at second.are_games_at in
    let R : List GameAt → Type 0 = λ games_at. IsRecount query games_at found in
    one-recount single query second.games_at found other (subst R same first.recount) second.recount

pub one-found : Single → (journal : List Batch) (query : Query) (found other : Found) → IsFound journal query found → IsFound journal query other → found ≡ other
one-found single journal query found other first second =
    let same = one-zip IsTextOf (one-game single) (texts_of journal) first.games second.games first.are_games second.are_games in
    let R : List Game → Type 0 = λ games. IsFoundOf games query found in
    one-answer single second.games query found other (subst R same first.answer) second.answer
