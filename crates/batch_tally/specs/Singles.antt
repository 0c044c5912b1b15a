-- Bridge: the singles of the games of a batch.
use Rattle.std.specs.Prelude.{◌≡◌, ℕ, ◌+◌, ◌≤◌, Bool, List, [], ◌∷◌, ◌++◌, length, map, take, drop}
use Rattle.std.specs.Arc.{arc_value}
use Rattle.std.specs.List.{AllZip, filter}
use Rattle.explorer_model.specs.declared.archive.Game.{Game}
use Rattle.explorer_model.specs.Visits.{stage_limit}
use Rattle.tally_rows.specs.declared.key_range.KeyRange.{KeyRange}
use Rattle.tally_rows.specs.declared.row.Row.{Row}
use Rattle.tally_rows.specs.declared.single.Single.{Single}
use Rattle.tally_rows.specs.Games.{game_singles}
use Rattle.tally_rows.specs.Tallied.{Tallied}
use Rattle.tally_rows.specs.Tally.{IsTrackOf}
use Rattle.tally_rows.specs.Track.{Track}
use Rattle.tally_rows.specs.Within.{TalliedWithin, first_word, is_in_range}
use Rattle.batch_tally.specs.declared.accepting.Accepted.{Accepted}
use Rattle.batch_tally.specs.declared.singles.Count.{Count}

-- the track is that of the game, and the singles are those of the track, under the number 0
pub record CountsBy (track : Track) (game : Game) (singles : List Single) : Type 0 where
  pub is_track : IsTrackOf game track
  pub singles_are : singles ≡ game_singles 0 track

-- the first word of the key of a single
abbrev pub word_of : Single → ℕ
word_of single = first_word single.row_key.key

-- the singles are those of the game, under the number 0
pub record AreSinglesOf (game : Game) (singles : List Single) : Type 0 where
  pub track : Track
  pub counts : CountsBy track game singles
  pub few : length singles ≤ stage_limit

-- the singles of the game stand behind the others
pub record ArePushed (game : Game) (before after : List Single) : Type 0 where
  pub own : List Single
  pub are_own : AreSinglesOf game own
  pub pushed : after ≡ before ++ own

-- so many items from a place on
abbrev pub part_of : {A : Type 0} → List A → ℕ → ℕ → List A
part_of items from number = take number (drop from items)

-- the singles of a game, of those of its run
abbrev pub singles_of : Count → List Single
singles_of count = part_of (arc_value count.of_run).singles.items count.from count.number

-- and their words
abbrev pub words_of : Count → List ℕ
words_of count = part_of (arc_value count.of_run).words.items count.from count.number

-- the count has the singles of the game, and their words
pub record IsCountOf (game : Game) (count : Count) : Type 0 where
  pub singles : AreSinglesOf game (singles_of count)
  pub words : words_of count ≡ map word_of (singles_of count)

-- the tracks are those of the games, by which they are counted
abbrev pub AreTracksOf : List Accepted → List Track → Type 0
AreTracksOf games tracks =
    AllZip (λ a track. CountsBy track a.game (singles_of a.count)) games tracks

-- the single of the game of another number
abbrev pub numbered : ℕ → Single → Single
numbered number single = record single { number = number }

-- whether a single is of the range
abbrev pub is_kept : KeyRange → Single → Bool
is_kept range single = is_in_range range single.row_key.key

-- the singles of games in a range of keys, where the first game has this number
abbrev pub singles_in : KeyRange → ℕ → List Accepted → List Single
singles_in range first [] = []
singles_in range first (a ∷ games) =
    filter (is_kept range) (map (numbered first) (singles_of a.count))
    ++ singles_in range (first + 1) games

-- the rows are those of the games in the range of keys
abbrev pub AreRowsIn : List Accepted → KeyRange → List Row → Type 0
AreRowsIn games range rows =
    (tracks : List Track) → AreTracksOf games tracks
    → TalliedWithin (is_in_range range) tracks rows

-- the rows count the games, whose numbers are their places
pub record AreRowsOf (games : List Accepted) (rows : List Row) : Type 0 where
  pub tracks : List Track
  pub are_tracks : AllZip IsTrackOf (map (λ a. a.game) games) tracks
  pub tallied : Tallied tracks rows
