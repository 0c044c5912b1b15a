-- Statement: the singles of games: one for each position that a game visits, at its first visit.
use Rattle.std.specs.Prelude.{ℕ, ◌+◌, Bool, List, [], ◌∷◌, ◌++◌, map, bytes_eq, if◌then◌else◌}
use Rattle.std.specs.List.{list_any}
use Rattle.explorer_model.specs.declared.archive.Classes.{Classes}
use Rattle.tally_rows.specs.declared.row_key.RowKey.{RowKey}
use Rattle.tally_rows.specs.declared.single.Single.{Single}
use Rattle.tally_rows.specs.Tallied.{mover_rating}
use Rattle.tally_rows.specs.Track.{Step, Track}

abbrev pub has_key : List ℕ → Step → Bool
has_key key step = bytes_eq step.key key

-- the steps whose position no step before them has, behind earlier ones
abbrev pub first_steps : List Step → List Step → List Step
first_steps earlier [] = []
first_steps earlier (step ∷ steps) =
    if list_any (has_key step.key) earlier
    then first_steps (earlier ++ step ∷ []) steps
    else step ∷ first_steps (earlier ++ step ∷ []) steps

abbrev pub row_key_in : Classes → Step → RowKey
row_key_in classes step =
    record {
      key = step.key;
      next = step.next;
      month = classes.month;
      speed = classes.speed;
      group = classes.group;
    }

-- the single of a game, of this number, at one of its steps
abbrev pub single_at : Classes → ℕ → Step → Single
single_at classes number step = record {
  row_key = row_key_in classes step;
  number = number;
  outcome = classes.outcome;
  rating = mover_rating step.key classes;
  sum = classes.white.rating + classes.black.rating;
}

abbrev pub game_singles : ℕ → Track → List Single
game_singles number track = map (single_at track.classes number) (first_steps [] track.steps)

-- the singles of games that are numbered from the first on
abbrev pub singles_from : ℕ → List Track → List Single
singles_from first [] = []
singles_from first (track ∷ tracks) = game_singles first track ++ singles_from (first + 1) tracks
