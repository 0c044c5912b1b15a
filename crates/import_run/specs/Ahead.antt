-- Bridge: a stream that is read ahead of what is settled, as the code holds it.
use Rattle.std.specs.Prelude.{◌≡◌, ◌⊎◌, ◌+◌, ◌-◌, ◌<◌, ◌≤◌, ℕ, List, ◌++◌, length, Option, None, Some}
use Rattle.std.specs.List.{All, AllByRecursion, AllZip, flat_map}
use Rattle.std.specs.Io.KnownBytes.{IsAtEnd}
use Rattle.outside.specs.Stream.{Reads, Rises, Stream}
use Rattle.explorer_model.specs.Cuts.{Cut, cuts, text_limit}
use Rattle.explorer_model.specs.Imports.{group_limit}
use Rattle.explorer_model.specs.Journal.{input_limit}
use Rattle.pgn_cut.specs.Cutter.{came, cuts_of_rest}
use Rattle.import_run.specs.declared.ahead.Ahead.{Ahead}
use Rattle.import_run.specs.declared.ahead.ReadEnd.{ReadEnd}
use Rattle.import_run.specs.declared.ahead.ReadEnd.TheVariants.{Ended, Failed}
use Rattle.import_run.specs.declared.text_group.TextGroup.{TextGroup}
use Rattle.import_run.specs.Apart.{CanTally}
use Rattle.import_run.specs.Ending.{MayRise}
use Rattle.import_run.specs.Grouping.{Ascend, IsGroupOf}
use Rattle.import_run.specs.SoFar.{AreAllGroups, IsWhole}

-- ---- groups that can be taken on

-- the group is not whole, and can be read
pub record CanTake (group : TextGroup) : Type 0 where
  pub few : length group.texts.items < group_limit
  pub short : All (λ text. length text.bytes ≤ text_limit) group.texts.items

-- the group can be tallied, under this label
pub record IsUnder (label : List ℕ) (group : TextGroup) : Type 0 where
  pub tallies : CanTally group
  pub label_is : group.label ≡ label

-- how many more bytes may be read, and some more for the end of the stream
abbrev pub left_by : Option ReadEnd → ℕ → ℕ
left_by None taken = (input_limit - taken) + 4
left_by (Some end) taken = 0

abbrev pub left_of : Ahead → ℕ
left_of ahead = left_by ahead.end ahead.taken

-- more can be read, and each group can be tallied under the label
pub record CanGoOn (label : List ℕ) (ahead : Ahead) : Type 0 where
  pub below : ahead.taken < input_limit
  pub came : ahead.end ≡ None → came ahead.cutter ≡ ahead.taken
  pub takes : CanTake ahead.group
  pub label_is : ahead.group.label ≡ label
  pub under : All (IsUnder label) ahead.whole.items

-- ---- what was read

-- cuts were taken: the groups that were given on, those that are whole and held, and the cuts in hand
pub record HasTaken (taken : List Cut) (given : List (List Cut)) (groups : List TextGroup)
    (group : TextGroup) : Type 0 where
  pub whole : List (List Cut)
  pub held : AllZip IsGroupOf whole groups
  pub hand : List Cut
  pub holds : IsGroupOf hand group
  pub all : taken ≡ flat_map (λ group. group) (given ++ whole) ++ hand
  pub each : AllByRecursion IsWhole (given ++ whole)
  pub ascend : AllByRecursion Ascend (given ++ whole)

-- the bytes were cut, and the cuts that ended in them were taken
pub record CutAhead (given : List (List Cut)) (stream : List ℕ) (rest_cuts : List ℕ → List Cut)
    (groups : List TextGroup) (group : TextGroup) : Type 0 where
  pub taken : List Cut
  pub cut : (rest : List ℕ) → taken ++ rest_cuts rest ≡ cuts (stream ++ rest)
  pub begun : 0 < length taken → (rest : List ℕ) → 0 < length (rest_cuts rest)
  pub has : HasTaken taken given groups group

-- all groups of the stream are given on or held, the last one too
pub record EndsAhead (given : List (List Cut)) (stream : List ℕ) (groups : List TextGroup)
    : Type 0 where
  pub whole : List (List Cut)
  pub held : AllZip IsGroupOf whole groups
  pub all : AreAllGroups (cuts stream) (given ++ whole)
  pub ascend : AllByRecursion Ascend (given ++ whole)

-- what was read, by how reading ended
abbrev pub HoldsBy : Option ReadEnd → Stream → Stream → List (List Cut) → List ℕ → Ahead → Type 0
HoldsBy None before now given stream ahead =
    (now.read_faults ≡ before.read_faults)
    × CutAhead given stream (cuts_of_rest ahead.cutter) ahead.whole.items ahead.group
HoldsBy (Some Ended) before now given stream ahead =
    (now.read_faults ≡ before.read_faults) × IsAtEnd now.left
    × EndsAhead given stream ahead.whole.items
HoldsBy (Some (Failed first last)) before now given stream ahead =
    (first ≡ before.read_faults) × (last ≡ now.read_faults) × Rises first last
    × CutAhead given stream (cuts_of_rest ahead.cutter) ahead.whole.items ahead.group

-- Bytes of a source were read, from one moment to another, of which these groups were given on.
pub record HoldsAhead (before now : Stream) (given : List (List Cut)) (ahead : Ahead)
    : Type 0 where
  pub stream : List ℕ
  pub reads : Reads stream before now
  pub long : length stream ≡ ahead.taken
  pub holds : HoldsBy ahead.end before now given stream ahead

-- ---- where an import ends

-- these groups are whole, and other cuts follow
pub record AreFollowed (stream : List ℕ) (groups : List (List Cut)) : Type 0 where
  pub hand : List Cut
  pub more : List Cut
  pub all : (flat_map (λ group. group) groups ++ hand) ++ more ≡ cuts stream
  pub begun : 0 < length (flat_map (λ group. group) groups ++ hand) → 0 < length more
  pub each : AllByRecursion IsWhole groups

-- Bytes of a source were read, whether or not the last read failed, and these groups are the first
-- of them.
pub record StandsFor (before now : Stream) (given : List (List Cut)) : Type 0 where
  pub stream : List ℕ
  pub reads : Reads stream before now
  pub faults : MayRise before.read_faults now.read_faults
  pub below : length stream < input_limit
  pub behind : List (List Cut)
  pub stands : AreFollowed stream (given ++ behind)
      ⊎ (IsAtEnd now.left × AreAllGroups (cuts stream) (given ++ behind))
