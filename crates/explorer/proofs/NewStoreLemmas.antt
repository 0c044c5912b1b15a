-- A store without a batch.
use Rattle.std.proofs.Common.{◌≡◌, ℕ, List, [], ◌∷◌, Option, None, Some, refl}
use Rattle.explorer_model.specs.declared.archive.Batch.{Batch}
use Rattle.explorer_model.specs.declared.archive.Game.{Game}
use Rattle.explorer_model.specs.Visits.{AreGamesOf}
use Rattle.import_run.specs.Committing.{Known}
use Rattle.explorer.specs.Imported.{new_store}

-- what is known of a store without a batch, that is open, is what is known of a new one
pub known_is_new : (known : Known) → known.journal ≡ [] → known.fault ≡ None → known.failed ≡ None → known ≡ new_store
known_is_new known none open_is unfailed = by_parts known.journal known.fault known.failed known.games known.are_games none open_is unfailed
  where
    by_parts : (journal : List Batch) (fault : Option (ℕ × ℕ)) (failed : Option Batch) (games : List Game) (are : AreGamesOf journal games) → journal ≡ [] → fault ≡ None → failed ≡ None
        → (let k : Known = record { journal = journal; fault = fault; failed = failed; games = games; are_games = are } in k) ≡ new_store
    by_parts [] None None [] are none open_is unfailed = refl
    by_parts [] None None (game ∷ games) are none open_is unfailed = absurd are
    by_parts [] None (Some batch) games are none open_is unfailed = cc
    by_parts [] (Some counts) failed games are none open_is unfailed = cc
    by_parts (batch ∷ journal) fault failed games are none open_is unfailed = cc
