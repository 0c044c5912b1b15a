-- Statement: which texts of a group are accepted.
use Rattle.std.specs.Prelude.{◌≤◌, ℕ, List, length, map}
use Rattle.std.specs.List.{All}
use Rattle.explorer_model.specs.Cuts.{text_limit}
use Rattle.explorer_model.specs.Imports.{Candidate, group_limit}
use Rattle.explorer_model.specs.Journal.{HaveDifferentIds}
use Rattle.explorer_model.specs.Visits.{IsTextOf}
use Rattle.explorer_model.specs.Imports as imports
use Rattle.tally_rows.specs.SortEntry.{spelled}
use Rattle.batch_tally.specs.declared.accepting.Accepted.{Accepted}
use Rattle.batch_tally.specs.declared.accepting.Verdict.{Verdict}
use Rattle.batch_tally.specs.declared.accepting.Verdict.TheVariants as verdicts
use Rattle.batch_tally.specs.Singles.{IsCountOf}

abbrev pub candidate_as : Accepted → Candidate
candidate_as accepted =
    record { place = accepted.place; text = accepted.text; game = accepted.game }

abbrev pub verdict_as : Verdict → imports.Verdict
verdict_as (verdicts.Accepted accepted) = imports.Accepted (candidate_as accepted)
verdict_as (verdicts.Refused refusal) = imports.Refused refusal

-- the count of an accepted text is that of its game
abbrev pub IsCounted : Accepted → Type 0
IsCounted accepted = IsCountOf accepted.game accepted.count

-- the number that the bytes of its game's id spell
abbrev pub id_word_of : Accepted → ℕ
id_word_of accepted = spelled accepted.game.classes.id.bytes 0 8

abbrev pub HasCountIfAccepted : Verdict → Type 0
HasCountIfAccepted (verdicts.Accepted accepted) = IsCounted accepted
HasCountIfAccepted (verdicts.Refused refusal) = Unit {0}

-- what is known of accepted texts
pub record AreCandidates (accepted : List Accepted) : Type 0 where
  pub few : length accepted ≤ group_limit
  pub games : All (λ a. IsTextOf a.text a.game) accepted
  pub short : All (λ a. length a.text ≤ text_limit) accepted
  pub different : HaveDifferentIds (map (λ a. a.game.classes) accepted)
