use Rattle.ingest_desk.proofs.ListingLemmas.{one_room}
use Rattle.ingest_desk.proofs.PickingLemmas.{one_picked, picked_or_none}
use Rattle.ingest_desk.proofs.laws.picking_is_determined.Goals as goal

pub returns-clause-picked : goal.returns-clause-picked
returns-clause-picked c = one_picked

pub returns-clause-either : goal.returns-clause-either
returns-clause-either c = picked_or_none

pub returns-clause-room : goal.returns-clause-room
returns-clause-room c = one_room
