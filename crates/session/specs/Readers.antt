-- Bridge: what a reader of connections has beside its pass.
use Rattle.std.specs.Prelude.{⊤, List, Option, None, Some}
use Rattle.std.specs.Option.{is_some}
use Rattle.explorer_model.specs.declared.archive.Batch.{Batch}
use Rattle.explorer_model.specs.Timeline.{IsPrefix}
use Rattle.player_index.specs.Index.{Indexed}
use Rattle.session.specs.declared.reader.Reader.{Reader}
use Rattle.session.specs.Replies.{Offer}

-- what a reader offers: a player's games where it has an index of them
abbrev pub offer_of : {J : Type 0} → Reader J → Offer
offer_of reader = record { book = reader.kept; players = is_some reader.players }

-- an index covers a front of what is seen
abbrev pub IsCovered : Option Indexed → List Batch → Type 0
IsCovered None seen = ⊤
IsCovered (Some index) seen = IsPrefix index.batches seen
