-- Bridge: how the code holds cuts until their group is whole, and what becomes of the group.
use Rattle.std.specs.Prelude.{◌≡◌, ℕ, ◌+◌, ◌≤◌, List, [], ◌∷◌, length, map, filter_map, nat_lt, if◌then◌else◌, Option, Some, None}
use Rattle.std.specs.List.{AllZip}
use Rattle.explorer_model.specs.declared.archive.Placed.{Placed}
use Rattle.explorer_model.specs.declared.fault.Refusal.{Refusal}
use Rattle.explorer_model.specs.declared.fault.Why.TheVariants as causes
use Rattle.explorer_model.specs.Cuts.{Cut, Text, TooLong, Preamble, text_limit}
use Rattle.explorer_model.specs.Imports.{Examination, IsExaminationOf, verdicts, candidates, refusals}
use Rattle.import_run.specs.declared.text_group.TextGroup.{TextGroup}
use Rattle.import_run.specs.declared.text_group.TalliedGroup.{TalliedGroup}
use Rattle.import_run.specs.Labelling.{IsTallyUnder}

-- ---- cuts

-- a text can be read
abbrev pub IsShort : Cut → Type 0
IsShort (Text text) = length text.bytes ≤ text_limit
IsShort (TooLong place length) = Unit {0}
IsShort (Preamble place) = Unit {0}

abbrev pub text_of : Cut → Option Placed
text_of (Text text) = Some text
text_of (TooLong place length) = None
text_of (Preamble place) = None

-- the refusal of a cut that is no text
abbrev pub unread_of : Cut → Option Refusal
unread_of (Text text) = None
unread_of (TooLong place length) = Some (record { place = place; why = causes.TooLong length })
unread_of (Preamble place) = Some (record { place = place; why = causes.Preamble })

abbrev pub place_of : Cut → ℕ
place_of (Text text) = text.place
place_of (TooLong place length) = place
place_of (Preamble place) = place

-- each cut stands behind those before it, and none before the first place
abbrev pub AscendFrom : ℕ → List Cut → Type 0
AscendFrom first [] = Unit {0}
AscendFrom first (cut ∷ cuts) = (first ≤ place_of cut) × AscendFrom (place_of cut + 1) cuts

abbrev pub Ascend : List Cut → Type 0
Ascend cuts = AscendFrom 0 cuts

-- ---- a group

-- the group holds the cuts: the texts among them, and the refusals of the others
pub record IsGroupOf (cuts : List Cut) (group : TextGroup) : Type 0 where
  pub texts : group.texts.items ≡ filter_map text_of cuts
  pub unread : group.unread.items ≡ filter_map unread_of cuts

-- the first list's head, unless the head of the second is at or before its place
abbrev pub put_by_place : Refusal → (List Refusal → List Refusal) → List Refusal → List Refusal
put_by_place refusal rest [] = refusal ∷ rest []
put_by_place refusal rest (other ∷ others) =
    if nat_lt refusal.place other.place then refusal ∷ rest (other ∷ others)
    else other ∷ put_by_place refusal rest others

-- two lists of refusals in one, by their places
abbrev pub merged : List Refusal → List Refusal → List Refusal
merged [] others = others
merged (refusal ∷ refused) others = put_by_place refusal (merged refused) others

-- the cuts of a group were examined: its candidates are tallied under the label, and each other cut
-- is refused, in the order of the cuts
pub record IsTallied (label : List ℕ) (cuts : List Cut) (tallied : TalliedGroup) : Type 0 where
  pub examinations : List Examination
  pub are_examinations : AllZip IsExaminationOf cuts examinations
  pub places : tallied.places.items ≡ map (λ c. c.place) (candidates (verdicts examinations))
  pub refused : tallied.refused.items ≡ refusals (verdicts examinations)
  pub tally : IsTallyUnder label (candidates (verdicts examinations)) tallied.tally
