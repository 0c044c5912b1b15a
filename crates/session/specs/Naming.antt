-- Statement: answers with the openings that a book names.
use Rattle.std.specs.Prelude.{◌≡◌, ℕ, List, map, Some, None}
use Rattle.std.specs.List.{last_or}
use Rattle.explorer_model.specs.declared.answer.Found.{Found}
use Rattle.explorer_model.specs.declared.archive.Batch.{Batch}
use Rattle.explorer_model.specs.declared.opening.Naming.{Naming}
use Rattle.explorer_model.specs.declared.player.PlayerFound.{PlayerFound}
use Rattle.explorer_model.specs.declared.player.PlayerQuery.{PlayerQuery}
use Rattle.explorer_model.specs.declared.query.Query.{Query}
use Rattle.explorer_model.specs.Answer.{named_body}
use Rattle.explorer_model.specs.Chess.{IsValid}
use Rattle.explorer_model.specs.Finds.{IsFound}
use Rattle.explorer_model.specs.Openings.{IsNaming, NamedPosition, positions_on}
use Rattle.explorer_model.specs.Players.{IsPlayerFound, player_body}
use Rattle.explorer_model.specs.Visits.{AreLegalFrom}

-- the plays of the query are legal, each in its turn, and lead from its root to the position asked
-- for
pub record IsPlayed (query : Query) : Type 0 where
  pub root : IsValid query.root
  pub plays : AreLegalFrom query.root query.plays
  pub at : last_or None (positions_on query.root query.plays) ≡ Some query.at

-- the body is that of what is found for the query in the journal, with the openings that the book
-- names for it
pub record IsNamedBody (book : List NamedPosition) (query : Query) (journal : List Batch)
    (body : List ℕ) : Type 0 where
  pub found : Found
  pub is_found : IsFound journal query found
  pub naming : Naming
  pub is_naming : IsNaming book query (map (λ line. line.next) found.moves) naming
  pub is_body : body ≡ named_body found naming

-- the same of what is found of a player's games
pub record IsPlayerBody (book : List NamedPosition) (asked : PlayerQuery) (journal : List Batch)
    (body : List ℕ) : Type 0 where
  pub found : PlayerFound
  pub is_found : IsPlayerFound journal asked found
  pub naming : Naming
  pub is_naming : IsNaming book asked.query (map (λ line. line.next) found.moves) naming
  pub is_body : body ≡ player_body found naming
