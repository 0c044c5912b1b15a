-- Bridge: the games of segments as they stand to a position, and what is known where one of them is
-- read.
use Rattle.std.specs.Prelude.{◌≡◌, ℕ, ◌<◌, List, length, map}
use Rattle.std.specs.List.{AllZip, slice_get}
use Rattle.explorer_model.specs.Chess.{IsValid}
use Rattle.explorer_model.specs.Players.{is_wanted}
use Rattle.explorer_model.specs.Tidy.{IsTidied, IsTidyKey}
use Rattle.explorer_model.specs.Visits.{AreGamesOf, GameAt, IsGameAt, IsTextOf, texts_of}
use Rattle.explorer_model.specs.declared.archive.Game.{Game}
use Rattle.explorer_model.specs.declared.chess.Position.{Position}
use Rattle.explorer_model.specs.declared.player.PlayerQuery.{PlayerQuery}
use Rattle.player_lookup.specs.declared.asked.Asked.{Asked}
use Rattle.player_lookup.specs.Kept.{opponent_rating, rows_kept}
use Rattle.published_index.specs.Cover.{journal_of}
use Rattle.row_sums.specs.Hits.{NumberedRow}
use Rattle.row_sums.specs.Listing.{classes_in}
use Rattle.segment_blocks.specs.Segment.{CountedSpan, IsSegment}

-- the games of the journal that segments cover, as they stand to a position
pub record AreSeen (segments : List CountedSpan) (at : Position) (seen : List GameAt)
    : Type 0 where
  pub games : List Game
  pub are_games : AreGamesOf (journal_of segments) games
  pub are_games_at : AllZip (IsGameAt at) games seen
  pub classes : classes_in segments ≡ map (λ game. game.classes) seen

-- the rows are those of the games that the query wants
pub record AreKept (q : PlayerQuery) (segments : List CountedSpan) (hits : List NumberedRow)
    : Type 0 where
  pub key : List ℕ
  pub seen : List GameAt
  pub are_seen : AreSeen segments q.query.at seen
  pub rows : hits ≡ rows_kept (opponent_rating q) key (is_wanted q) 0 seen

-- the tidy form and the key are those of the position that is asked for
pub record IsAsked (asked : Asked) : Type 0 where
  pub valid : IsValid asked.query.now.query.at
  pub tidied : IsTidied asked.query.now.query.at asked.tidy.now
  pub key : IsTidyKey asked.query.now.query.at asked.key

-- a text that has a game
pub record HasGame (text : List ℕ) : Type 0 where
  pub game : Game
  pub is : IsTextOf text game

-- the game of a number among the games of segments has this place in this one of them
pub record IsGameIn (segments : List CountedSpan) (number : ℕ) (segment : CountedSpan) (place : ℕ)
    : Type 0 where
  pub within : place < length segment.classes
  pub known : IsSegment segment
  pub classes : slice_get segment.classes place ≡ slice_get (classes_in segments) number
  pub text : slice_get (texts_of segment.span.batches) place
      ≡ slice_get (texts_of (journal_of segments)) number
