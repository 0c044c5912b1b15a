-- Bridge: groups that are tallied apart, each by itself.
use Rattle.std.specs.Prelude.{◌≤◌, List, length, IfSome}
use Rattle.std.specs.List.{All}
use Rattle.explorer_model.specs.Cuts.{Cut, text_limit}
use Rattle.explorer_model.specs.Imports.{group_limit}
use Rattle.import_run.specs.declared.text_group.TalliedGroup.{TalliedGroup}
use Rattle.import_run.specs.declared.text_group.TextGroup.{TextGroup}
use Rattle.import_run.specs.Grouping.{Ascend, IsGroupOf, IsTallied}
use Rattle.import_run.specs.Hand.{InHand}

-- its texts are no more than a group may have, and can be read
pub record CanTally (group : TextGroup) : Type 0 where
  pub few : length group.texts.items ≤ group_limit
  pub short : All (λ text. length text.bytes ≤ text_limit) group.texts.items

-- its batch, if there is one, counts candidates with these places
abbrev pub IsInHand : TalliedGroup → Type 0
IsInHand tallied = IfSome tallied.tally (λ counted. InHand counted tallied.places.items)

-- what was tallied of the group, whatever cuts it holds
pub record IsTalliedGroup (group : TextGroup) (tallied : TalliedGroup) : Type 0 where
  pub hand : IsInHand tallied
  pub counts : (cuts : List Cut) → Ascend cuts → IsGroupOf cuts group
      → IsTallied group.label cuts tallied
