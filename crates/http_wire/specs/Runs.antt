-- Laws: calls of `next`, one after another.
use Rattle.std.specs.Prelude.{◌≡◌, ◌<◌, List, [], ◌∷◌}
use Rattle.outside.specs.Stream.{Stream}
use Rattle.explorer_model.specs.declared.wire.Asked.{Asked}
use Rattle.explorer_model.specs.declared.wire.Asked.TheVariants.{Wanted, Refused, NoMemory, Done, Cut, ReadFault}
use Rattle.http_wire.specs.Asking.{Buffer, Asks, StaysClosed}

-- what one call promises
pub record IsCall (asked : Asked) (old new : Buffer) (before after : Stream) : Type 0 where
  pub asks : 0 < old.more → Asks asked old new before after
  pub closed : old.more ≡ 0 → StaysClosed asked old new before after

-- calls that answer these; between two of them nothing is read, and anything may be written
abbrev pub AreCalls : List Asked → Buffer → Buffer → Stream → Stream → Type 0
AreCalls [] old new before after = (new ≡ old) × (after.left ≡ before.left)
AreCalls (asked ∷ others) old new before after =
    (buffer : Buffer) × (behind next : Stream) × IsCall asked old buffer before behind
    × (next.left ≡ behind.left) × AreCalls others buffer new next after

-- the last answer, and only that, is Done or Cut; no read failed, and memory was there
abbrev pub ComesToEnd : List Asked → Type 0
ComesToEnd [] = ⊥
ComesToEnd (Wanted request ∷ others) = ComesToEnd others
ComesToEnd (Refused fault ∷ others) = ComesToEnd others
ComesToEnd (Done ∷ others) = others ≡ []
ComesToEnd (Cut ∷ others) = others ≡ []
ComesToEnd (NoMemory ∷ others) = ⊥
ComesToEnd (ReadFault ∷ others) = ⊥
