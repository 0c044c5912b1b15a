-- Groups of which no game is a repeat are accounted each by itself.
use Rattle.std.proofs.Common.{◌≡◌, ℕ, List, [], ◌∷◌, ◌++◌, map, Option, None, Some, refl, ap, ap₂, subst}
use Rattle.std.specs.List.{AllByRecursion, flat_map}
use Rattle.explorer_model.specs.declared.archive.Batch.{Batch}
use Rattle.explorer_model.specs.declared.archive.Game.{Game}
use Rattle.explorer_model.specs.declared.fault.Refusal.{Refusal}
use Rattle.explorer_model.specs.Cuts.{Cut}
use Rattle.explorer_model.specs.Imports.{Accepted, Accounted, AccountedApart, Examination, Numbering, Refused, Verdict, numbers_of, refusals, verdict_behind, verdict_if_stored, verdicts, verdicts_behind, verdicts_in_turn, Yields}
use Rattle.import_run.specs.Progress.{and_games}
use Rattle.explorer.specs.Laws.{IsNoRepeat}

abbrev NoRepeats : List Refusal → Type 0
NoRepeats refused = AllByRecursion IsNoRepeat refused

none_behind : (number : Numbering) (vs : List Verdict) → NoRepeats (refusals (map (verdict_behind number) vs)) → map (verdict_behind number) vs ≡ vs
none_behind number [] none = refl
none_behind number (Refused refusal ∷ vs) none = ap (λ (l : List Verdict). Refused refusal ∷ l) (none_behind number vs none.1)
none_behind number (Accepted candidate ∷ vs) none = by_number (number candidate.game.classes.id.bytes) (λ later. none_behind number vs later) none
  where
    by_number : (found : Option ℕ) → (NoRepeats (refusals (map (verdict_behind number) vs)) → map (verdict_behind number) vs ≡ vs) → NoRepeats (refusals (verdict_if_stored found candidate ∷ map (verdict_behind number) vs))
        → verdict_if_stored found candidate ∷ map (verdict_behind number) vs ≡ Accepted candidate ∷ vs
    by_number None rest none = ap (λ (l : List Verdict). Accepted candidate ∷ l) (rest none)
    by_number (Some n) rest none = absurd none.0

front : (first rest : List Refusal) → NoRepeats (first ++ rest) → NoRepeats first × NoRepeats rest
front [] rest none = (tt, none)
front (refusal ∷ first) rest none =
    let later = front first rest none.1 in
    ((none.0, later.0), later.1)

none_in_turn : (stored : List Game) (groups : List (List Examination)) → NoRepeats (flat_map refusals (verdicts_in_turn stored groups)) → verdicts_in_turn stored groups ≡ map verdicts groups
unfolding verdicts_in_turn
none_in_turn stored [] none = refl
none_in_turn stored (group ∷ groups) none =
    let done = verdicts_behind (numbers_of stored) group in
    let parts = front (refusals done) (flat_map refusals (verdicts_in_turn (and_games stored group) groups)) none in
    ap₂ (λ (v : List Verdict) (l : List (List Verdict)). v ∷ l) (none_behind (numbers_of stored) (verdicts group) parts.0) (none_in_turn (and_games stored group) groups parts.1)

pub stand_apart : (label : List ℕ) (stored : List Game) (groups : List (List Cut)) (batches : List Batch) (refused : List Refusal) → Accounted label stored groups batches refused → NoRepeats refused → AccountedApart label groups batches refused
stand_apart label stored groups batches refused done none =
    let P : List Refusal → Type 0 = λ l. NoRepeats l in
    let same = none_in_turn stored done.examinations (subst P done.yields.refused_are none) in
    let Y : List (List Verdict) → Type 0 = λ l. Yields label l batches refused in
    record { examinations = done.examinations; are_examinations = done.are_examinations; yields = subst Y same done.yields }
