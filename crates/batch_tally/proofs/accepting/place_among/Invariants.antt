use Rattle.std.proofs.Common.{◌≡◌, map, find, drop}
use Rattle.explorer_model.specs.Imports.{has_id_of}
use Rattle.batch_tally.specs.Accepting.{candidate_as}
use Rattle.batch_tally.proofs.accepting.place_among.Given as goal

abbrev pub invariant-loop-place : goal.invariant-loop-place
invariant-loop-place l =
    find (has_id_of l.game) (map candidate_as l.accepted) ≡ find (has_id_of l.game) (map candidate_as (drop l.place l.accepted))
