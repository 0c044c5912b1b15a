-- Bridge: what becomes of a group's candidates as more and more of their ids are found to be stored.
use Rattle.std.specs.Prelude.{◌≡◌, ℕ, List, [], ◌∷◌, ◌++◌, map, filter, filter_map, find, is_none, ◌==◌, if◌then◌else◌, Ok, Option, None, Some}
use Rattle.std.specs.Option.{option_map}
use Rattle.std.specs.List.{AllByRecursion}
use Rattle.explorer_model.specs.declared.archive.Placed.{Placed}
use Rattle.explorer_model.specs.declared.fault.Refusal.{Refusal}
use Rattle.explorer_model.specs.declared.fault.Why.TheVariants as causes
use Rattle.explorer_model.specs.Games.{GameOf}
use Rattle.explorer_model.specs.Imports.{Candidate, Numbering, Verdict, candidates, refusals, has_id_of, verdict_behind}
use Rattle.ingest_desk.specs.declared.clashing.Clashing.{Clashing}

abbrev pub id_of : Candidate → List ℕ
id_of candidate = candidate.game.classes.id.bytes

-- the candidates whose ids have no number, and all that is refused
abbrev pub kept : Numbering → List Verdict → List Candidate
kept stored verdicts = candidates (map (verdict_behind stored) verdicts)

abbrev pub lost : Numbering → List Verdict → List Refusal
lost stored verdicts = refusals (map (verdict_behind stored) verdicts)

-- ---- candidates that are named

abbrev pub repeated : ℕ → ℕ → Refusal
repeated place number = record { place = place; why = causes.Repeated number }

-- the refusals of the candidates whose ids have a number
abbrev pub named_by : Numbering → List Candidate → List Refusal
named_by number candidates =
    filter_map (λ c. option_map (repeated c.place) (number (id_of c))) candidates

-- the others
abbrev pub left_by : Numbering → List Candidate → List Candidate
left_by number candidates = filter (λ c. is_none (number (id_of c))) candidates

abbrev pub placed : Candidate → Placed
placed candidate = record { place = candidate.place; bytes = candidate.text }

-- the number of the first pair, where it is that of the text at this place
abbrev pub named_first : ℕ → List Clashing → Option ℕ
named_first at [] = None
named_first at (pair ∷ pairs) = if pair.place == at then Some pair.number else None

-- ---- candidates that are tallied again

-- each candidate has the game of its text
abbrev pub AreRead : List Candidate → Type 0
AreRead candidates = AllByRecursion (λ c. GameOf c.text (Ok c.game)) candidates

-- no candidate has the id of one before it, nor of the earlier ones
abbrev pub Fresh : List Candidate → List Candidate → Type 0
Fresh earlier [] = Unit {0}
Fresh earlier (c ∷ cs) =
    (find (has_id_of c.game) earlier ≡ None) × Fresh (earlier ++ c ∷ []) cs
