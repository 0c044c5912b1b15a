-- What the indexes of readers cover.
use Rattle.std.proofs.Common.{List, Option, Some, None}
use Rattle.explorer_model.specs.declared.archive.Batch.{Batch}
use Rattle.explorer_model.specs.Timeline.{IsPrefix}
use Rattle.explorer_model.proofs.Timelines.{prefix-trans}
use Rattle.player_index.specs.Index.{Indexed}
use Rattle.session.specs.Readers.{IsCovered}

pub covered-grows : (players : Option Indexed) (old new : List Batch) → IsCovered players old → IsPrefix old new → IsCovered players new
covered-grows None old new covered grew = tt
covered-grows (Some index) old new covered grew = prefix-trans index.batches old new covered grew
