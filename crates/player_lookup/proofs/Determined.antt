-- A journal has one answer to a query for a player's games.
use Rattle.std.proofs.Common.{◌≡◌, ℕ, List, Option, Result, Ok, sym, ◌∙◌, subst}
use Rattle.std.specs.List.{AllZip}
use Rattle.explorer_model.specs.Counting.{first_moves}
use Rattle.explorer_model.specs.Games.{GameOf}
use Rattle.explorer_model.specs.Players.{IsPlayerFound, IsPlayerLineOf, IsPlayerRecount, is_wanted}
use Rattle.explorer_model.specs.San.{SanText}
use Rattle.explorer_model.specs.Visits.{Stage, GameAt, FirstVisit, IsTextOf, IsGameAt, texts_of, counted_stages}
use Rattle.explorer_model.specs.declared.archive.Batch.{Batch}
use Rattle.explorer_model.specs.declared.archive.Game.{Game}
use Rattle.explorer_model.specs.declared.chess.Move.{Move}
use Rattle.explorer_model.specs.declared.chess.Position.{Position}
use Rattle.explorer_model.specs.declared.fault.GameFault.{GameFault}
use Rattle.explorer_model.specs.declared.player.PlayerFound.{PlayerFound}
use Rattle.explorer_model.specs.declared.player.PlayerLine.{PlayerLine}
use Rattle.explorer_model.specs.declared.player.PlayerQuery.{PlayerQuery}
use Rattle.explorer_model.proofs.Lists.{one-zip}
use Rattle.explorer_model.proofs.Readings.{Ok-injective}

-- what the lower crates say
pub record Single : Type 0 where
  pub game : (text : List ℕ) (game other : Result Game GameFault) → GameOf text game → GameOf text other → game ≡ other
  pub visit : (at : Position) (stages : List Stage) (v w : Option (Option Move)) → FirstVisit at stages v → FirstVisit at stages w → v ≡ w
  pub writing : (p : Position) (m : Move) (text other : List ℕ) → SanText p m text → SanText p m other → text ≡ other

one-game : Single → (text : List ℕ) (game other : Game) → IsTextOf text game → IsTextOf text other → game ≡ other
one-game single text game other first second = Ok-injective game other (single.game text (Ok game) (Ok other) first second)

one-game_at : Single → (at : Position) (game : Game) (seen other : GameAt) → IsGameAt at game seen → IsGameAt at game other → seen ≡ other
one-game_at single at game seen other first second =
    let classes = first.0 ∙ sym second.0 in
    let visit = single.visit at (counted_stages game) seen.visit other.visit first.1 second.1 in
    λ i. record { classes = classes i; visit = visit i }

one-line : Single → (q : PlayerQuery) (seen : List GameAt) (m : Move) (line other : PlayerLine) → IsPlayerLineOf q seen m line → IsPlayerLineOf q seen m other → line ≡ other
one-line single q seen m line other first second =
    let next = first.next ∙ sym second.next in
    let san = single.writing q.query.at m line.san other.san first.san second.san in
    let average = first.average ∙ sym second.average in
    let totals = first.totals ∙ sym second.totals in
    let game = first.game ∙ sym second.game in
    λ i. record { next = next i; san = san i; average = average i; totals = totals i; game = game i }

one-recount : Single → (q : PlayerQuery) (seen : List GameAt) (found other : PlayerFound) → IsPlayerRecount q seen found → IsPlayerRecount q seen other → found ≡ other
one-recount single q seen found other first second =
    let totals = first.totals ∙ sym second.totals in
    let moves = one-zip (IsPlayerLineOf q seen) (one-line single q seen) (first_moves q.query.moves (is_wanted q) seen) found.moves other.moves first.moves second.moves in
    let recent = first.recent ∙ sym second.recent in
    λ i. record { totals = totals i; moves = moves i; recent = recent i }

pub one-found : Single → (journal : List Batch) (q : PlayerQuery) (found other : PlayerFound) → IsPlayerFound journal q found → IsPlayerFound journal q other → found ≡ other
one-found single journal q found other first second =
    let games = one-zip IsTextOf (one-game single) (texts_of journal) first.games second.games first.are_games second.are_games in
    let Z : List Game → Type 0 = λ l. AllZip (IsGameAt q.query.at) l first.games_at in
    let seen = one-zip (IsGameAt q.query.at) (one-game_at single q.query.at) second.games first.games_at second.games_at (subst Z games first.are_games_at) second.are_games_at in
    let R : List GameAt → Type 0 = λ l. IsPlayerRecount q l found in
    one-recount single q second.games_at found other (subst R seen first.recount) second.recount
