-- Statement: what becomes of the texts of a stream: in groups of 512 they are stored together or
-- refused, each with its cause.
use Rattle.std.specs.Prelude.{◌≡◌, ℕ, ◌+◌, ◌-◌, ◌/◌, Bool, true, false, ◌==◌, min, List, [], ◌∷◌, ◌++◌, map, filter, filter_map, find, length, count_by, bytes_eq, if◌then◌else◌, Option, Some, None, Result, Ok, Err}
use Rattle.std.specs.List.{AllZip, flat_map, range_with_len}
use Rattle.explorer_model.specs.declared.archive.Batch.{Batch}
use Rattle.explorer_model.specs.declared.archive.Game.{Game}
use Rattle.explorer_model.specs.declared.fault.GameFault.{GameFault}
use Rattle.explorer_model.specs.declared.fault.Refusal.{Refusal}
use Rattle.explorer_model.specs.declared.fault.Why.{Why}
use Rattle.explorer_model.specs.declared.fault.Why.TheVariants as causes
use Rattle.explorer_model.specs.Cuts.{Cut, Text, TooLong, Preamble}
use Rattle.explorer_model.specs.Games.{GameOf}

-- ---- groups

-- the most texts of a group
abbrev pub group_limit : ℕ
group_limit = 512

abbrev pub is_text : Cut → Bool
is_text (Text text) = true
is_text _ = false

-- each cut after the number of the texts before it
abbrev pub numbered : ℕ → List Cut → List (ℕ × Cut)
numbered before [] = []
numbered before (cut ∷ cuts) =
    (before, cut) ∷ numbered (if is_text cut then before + 1 else before) cuts

-- The group of a cut that has so many of all texts before it. A cut that is no text belongs to the
-- group of the next text, or to the last group where none follows.
abbrev pub group_number : ℕ → ℕ → ℕ
group_number texts before = min before (texts - 1) / group_limit

abbrev pub group_at : List Cut → ℕ → List Cut
group_at cuts number =
    let texts = count_by is_text cuts in
    map (λ n. n.1) (filter (λ n. group_number texts n.0 == number) (numbered 0 cuts))

abbrev pub group_count : List Cut → ℕ
group_count [] = 0
group_count (cut ∷ cuts) = (count_by is_text (cut ∷ cuts) - 1) / group_limit + 1

-- the groups of a stream's cuts, in order
unfoldable pub groups : List Cut → List (List Cut)
groups cuts = map (group_at cuts) (range_with_len 0 (group_count cuts))

-- ---- replays

-- a text with its game, or the first of its faults
pub record Replayed : Type 0 where
  pub place : ℕ
  pub text : List ℕ
  pub game : Result Game GameFault

-- a cut, replayed if it is a text, and else refused as it stands
pub data Examination : Type 0 where
  Read : Replayed → Examination
  Unread : Refusal → Examination

abbrev pub IsExaminationOf : Cut → Examination → Type 0
IsExaminationOf (Text text) examination =
    (game : Result Game GameFault) × GameOf text.bytes game
    × (examination ≡ Read (record { place = text.place; text = text.bytes; game = game }))
IsExaminationOf (TooLong place length) examination =
    examination ≡ Unread (record { place = place; why = causes.TooLong length })
IsExaminationOf (Preamble place) examination =
    examination ≡ Unread (record { place = place; why = causes.Preamble })

-- ---- what becomes of a group

-- a text that has a game, whose id no earlier candidate of the group has
pub record Candidate : Type 0 where
  pub place : ℕ
  pub text : List ℕ
  pub game : Game

pub data Verdict : Type 0 where
  Accepted : Candidate → Verdict
  Refused : Refusal → Verdict

abbrev pub refused : ℕ → Why → Verdict
refused place cause = Refused (record { place = place; why = cause })

abbrev pub has_id_of : Game → Candidate → Bool
has_id_of game candidate = bytes_eq candidate.game.classes.id.bytes game.classes.id.bytes

-- the verdict on a text with a game, by the first candidate that has its id
abbrev pub verdict_by : Option Candidate → ℕ → List ℕ → Game → Verdict
verdict_by None place text game = Accepted (record { place = place; text = text; game = game })
verdict_by (Some first) place text game = refused place (causes.Twice first.place)

abbrev pub verdict_of_game : List Candidate → ℕ → List ℕ → Result Game GameFault → Verdict
verdict_of_game earlier place text (Err fault) = refused place (causes.Game fault)
verdict_of_game earlier place text (Ok game) =
    verdict_by (find (has_id_of game) earlier) place text game

abbrev pub verdict_of : List Candidate → Examination → Verdict
verdict_of earlier (Unread refusal) = Refused refusal
verdict_of earlier (Read replayed) =
    verdict_of_game earlier replayed.place replayed.text replayed.game

abbrev pub candidate_of : Verdict → Option Candidate
candidate_of (Accepted candidate) = Some candidate
candidate_of (Refused refusal) = None

abbrev pub refusal_of : Verdict → Option Refusal
refusal_of (Accepted candidate) = None
refusal_of (Refused refusal) = Some refusal

abbrev pub and_candidate : List Candidate → Verdict → List Candidate
and_candidate earlier (Accepted candidate) = earlier ++ (candidate ∷ [])
and_candidate earlier (Refused refusal) = earlier

-- the verdicts on a group, behind its earlier candidates
unfoldable pub verdicts_from : List Candidate → List Examination → List Verdict
verdicts_from earlier [] = []
verdicts_from earlier (examination ∷ examinations) =
    let verdict = verdict_of earlier examination in
    verdict ∷ verdicts_from (and_candidate earlier verdict) examinations

abbrev pub verdicts : List Examination → List Verdict
verdicts examinations = verdicts_from [] examinations

abbrev pub candidates : List Verdict → List Candidate
candidates verdicts = filter_map candidate_of verdicts

abbrev pub refusals : List Verdict → List Refusal
refusals verdicts = filter_map refusal_of verdicts

-- ---- what becomes of a group behind stored games

-- the number of the first game that has the id, where the first game of all has the number `first`
abbrev pub number_from : ℕ → List ℕ → List Game → Option ℕ
number_from first id [] = None
number_from first id (game ∷ games) =
    if bytes_eq game.classes.id.bytes id then Some first else number_from (first + 1) id games

-- what tells of an id the number of the stored game that has it
abbrev pub Numbering : Type 0
Numbering = List ℕ → Option ℕ

-- the numbers of these games; a game's number is its place among them
abbrev pub numbers_of : List Game → Numbering
numbers_of games id = number_from 0 id games

abbrev pub verdict_if_stored : Option ℕ → Candidate → Verdict
verdict_if_stored None candidate = Accepted candidate
verdict_if_stored (Some number) candidate = refused candidate.place (causes.Repeated number)

-- a candidate is refused where a stored game has its id
abbrev pub verdict_behind : Numbering → Verdict → Verdict
verdict_behind number (Accepted candidate) =
    verdict_if_stored (number candidate.game.classes.id.bytes) candidate
verdict_behind number (Refused refusal) = Refused refusal

abbrev pub verdicts_behind : Numbering → List Examination → List Verdict
verdicts_behind number group = map (verdict_behind number) (verdicts group)

-- ---- what becomes of a stream

-- the batch of the candidates under a label; no batch where there is none
abbrev pub batch_of : List ℕ → List Candidate → Option Batch
batch_of label [] = None
batch_of label (first ∷ rest) = Some (record {
  label = label;
  texts = map (λ candidate. candidate.text) (first ∷ rest);
})

-- The accepted texts of each group are one batch under the label, and the batches stand in the order
-- of the groups; all else is refused, in the order of the stream.
pub record Yields (label : List ℕ) (groups : List (List Verdict)) (batches : List Batch)
    (refused : List Refusal) : Type 0 where
  pub batches_are : batches ≡ filter_map (λ group. batch_of label (candidates group)) groups
  pub refused_are : refused ≡ flat_map refusals groups

abbrev pub AreExaminations : List (List Cut) → List (List Examination) → Type 0
AreExaminations groups examinations = AllZip (AllZip IsExaminationOf) groups examinations

-- the verdicts on groups, each behind the games that are stored when its turn comes
unfoldable pub verdicts_in_turn : List Game → List (List Examination) → List (List Verdict)
verdicts_in_turn stored [] = []
verdicts_in_turn stored (group ∷ groups) =
    let done = verdicts_behind (numbers_of stored) group in
    done ∷ verdicts_in_turn (stored ++ map (λ candidate. candidate.game) (candidates done)) groups

-- An import of groups of cuts behind stored games, by which nobody else stores: these batches are
-- stored, and these texts refused. A candidate is refused as Repeated exactly where a game that is
-- stored when its group's turn comes has its id.
pub record Accounted (label : List ℕ) (stored : List Game) (groups : List (List Cut))
    (batches : List Batch) (refused : List Refusal) : Type 0 where
  pub examinations : List (List Examination)
  pub are_examinations : AreExaminations groups examinations
  pub yields : Yields label (verdicts_in_turn stored examinations) batches refused

-- the verdicts on groups, each behind what is stored when its turn comes, where others may store beside
abbrev pub verdicts_by : List Numbering → List (List Examination) → List (List Verdict)
verdicts_by (number ∷ numbers) (group ∷ groups) =
    verdicts_behind number group ∷ verdicts_by numbers groups
verdicts_by _ _ = []

-- An import beside others: what is stored when a group's turn comes is not said, but one numbering
-- of ids decides for the whole group.
pub record AccountedBeside (label : List ℕ) (groups : List (List Cut)) (batches : List Batch)
    (refused : List Refusal) : Type 0 where
  pub examinations : List (List Examination)
  pub are_examinations : AreExaminations groups examinations
  pub numbers : List Numbering
  pub one_each : length numbers ≡ length groups
  pub yields : Yields label (verdicts_by numbers examinations) batches refused

-- Groups that are accounted each by itself: ids are compared within a group alone, so that none is Repeated.
pub record AccountedApart (label : List ℕ) (groups : List (List Cut)) (batches : List Batch)
    (refused : List Refusal) : Type 0 where
  pub examinations : List (List Examination)
  pub are_examinations : AreExaminations groups examinations
  pub yields : Yields label (map verdicts examinations) batches refused
