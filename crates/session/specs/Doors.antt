-- Statement: what the connections of a door come to.
use Rattle.std.specs.Prelude.{◌≡◌, ◌<◌, List, [], ◌∷◌}
use Rattle.outside.specs.Doors.{Connections, Serves}
use Rattle.outside.specs.Stream.{Rises, Stream}
use Rattle.session.specs.declared.doors.DoorEnd.{DoorEnd}
use Rattle.session.specs.declared.doors.DoorEnd.TheVariants as ends
use Rattle.session.specs.declared.serving.Ended.{Ended}
use Rattle.session.specs.Exchanges.{Backend}
use Rattle.session.specs.Replies.{Offer}
use Rattle.session.specs.Serving.{Served}

-- Connections were served one after another, the pass and the importer running on from each to the
-- next: the links as they came, and as they went.
abbrev pub AreServed : Offer → Backend → List Stream → List Stream → Backend → Type 0
AreServed offer before [] [] after = after ≡ before
AreServed offer before (came ∷ others) (went ∷ gone) after =
    (ended : Ended) × (middle : Backend) × Served offer came before ended went middle
    × AreServed offer middle others gone after
AreServed offer before [] (went ∷ gone) after = ⊥
AreServed offer before (came ∷ others) [] after = ⊥

-- links were accepted, served and taken back, each before the next was accepted
pub record DoorServed (offer : Offer) (door : Connections) (before : Backend)
    (door' : Connections) (after : Backend) : Type 0 where
  pub came : List Stream
  pub went : List Stream
  pub passed : Serves came went door door'
  pub served : AreServed offer before came went after

-- no connection is left, or the next one could not be accepted
abbrev pub EndsDoor : DoorEnd → Connections → Connections → Type 0
EndsDoor ends.Whole before after = (after.left ≡ 0) × (after.faults ≡ before.faults)
EndsDoor ends.AcceptFault before after = (0 < after.left) × Rises before.faults after.faults
