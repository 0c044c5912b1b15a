-- Bridge: what the steps of reading one request come to.
use Rattle.std.specs.Prelude.{◌≡◌, ◌⊎◌, ◌<◌, ◌≤◌, ⊤, ℕ, ◌+◌, List, ◌++◌, length, take, drop, min}
use Rattle.std.specs.Io.KnownBytes.{IsAtEnd}
use Rattle.std.specs.List.{prefix_len}
use Rattle.outside.specs.Stream.{Stream, Reads}
use Rattle.explorer_model.specs.Items.{ends_line}
use Rattle.explorer_model.specs.Wire.{First, head_limit, Opening, Head, TooLong, Begun, Blank}
use Rattle.explorer_model.specs.declared.wire.Asked.{Asked}
use Rattle.explorer_model.specs.declared.wire.Asked.TheVariants.{Refused, NoMemory, Done, Cut, ReadFault}
use Rattle.explorer_model.specs.declared.wire.RequestFault.TheVariants.{HeadTooLarge}
use Rattle.http_wire.specs.Asking.{EndsAt, FaultsBy}

-- ---- one read

-- a read put so many bytes behind those that were read before, none only at the end
pub record Fills (count : ℕ) (old new : List ℕ) (before after : Stream) : Type 0 where
  pub got : List ℕ
  pub counted : count ≡ length got
  pub behind : new ≡ old ++ got
  pub reads : Reads got before after
  pub ended : count ≡ 0 → IsAtEnd after.left
  pub faults : after.read_faults ≡ before.read_faults

-- ---- a head

-- reads gave bytes; those and the old ones begin with so many line ends and then the new ones
pub record Skips (skipped : ℕ) (old new : List ℕ) (before after : Stream) : Type 0 where
  pub got : List ℕ
  pub reads : Reads got before after
  pub faults : after.read_faults ≡ before.read_faults
  pub blank : skipped ≡ prefix_len ends_line (old ++ got)
  pub behind : new ≡ drop skipped (old ++ got)
  pub begun : 0 < length new
  pub few : skipped < head_limit

-- reads gave bytes; those and the old ones open with a head, the first so many of the new ones
pub record Finds (opening_of : List ℕ → Opening) (count : ℕ) (old new : List ℕ)
    (before after : Stream) : Type 0 where
  pub got : List ℕ
  pub reads : Reads got before after
  pub faults : after.read_faults ≡ before.read_faults
  pub within : count ≤ length new
  pub head : opening_of (old ++ got) ≡ Head (take count new) (drop count new)

-- what is asked where no head stands in the bytes
abbrev pub IsAskedAt : Asked → Opening → Type 0
IsAskedAt (Refused fault) opening = (fault ≡ HeadTooLarge) × (opening ≡ TooLong)
IsAskedAt Done opening = opening ≡ Blank
IsAskedAt Cut opening = opening ≡ Begun
IsAskedAt ReadFault opening = (opening ≡ Blank) ⊎ (opening ≡ Begun)
IsAskedAt _ opening = ⊥

-- reads gave bytes; those and the old ones open with no head
pub record Misses (opening_of : List ℕ → Opening) (asked : Asked) (old : List ℕ)
    (before after : Stream) : Type 0 where
  pub got : List ℕ
  pub reads : Reads got before after
  pub faults : FaultsBy asked before.read_faults after.read_faults
  pub ended : EndsAt asked after.left
  pub opening : IsAskedAt asked (opening_of (old ++ got))

-- ---- a body

-- reads gave bytes; those and the old ones begin with the body, and the new ones follow
pub record TakesBody (bytes : List ℕ) (count : ℕ) (old new : List ℕ) (before after : Stream)
    : Type 0 where
  pub got : List ℕ
  pub reads : Reads got before after
  pub faults : after.read_faults ≡ before.read_faults
  pub within : count ≤ length (old ++ got)
  pub body : bytes ≡ take count (old ++ got)
  pub behind : new ≡ drop count (old ++ got)

-- what is asked where the body does not stand in the bytes
abbrev pub IsAskedShort : Asked → ℕ → ℕ → Type 0
IsAskedShort NoMemory count there = ⊤
IsAskedShort Cut count there = there < count
IsAskedShort ReadFault count there = there < count
IsAskedShort _ count there = ⊥

-- reads gave bytes; those and the old ones are too few for the body, or memory is
pub record LacksBody (asked : Asked) (count : ℕ) (old : List ℕ) (before after : Stream)
    : Type 0 where
  pub got : List ℕ
  pub reads : Reads got before after
  pub faults : FaultsBy asked before.read_faults after.read_faults
  pub ended : EndsAt asked after.left
  pub short : IsAskedShort asked count (length (old ++ got))

-- the body begins with those of the old bytes that it takes, and the new ones follow
pub record TakesAhead (bytes : List ℕ) (count : ℕ) (old new : List ℕ) : Type 0 where
  pub body : bytes ≡ take (min (length old) count) old
  pub behind : new ≡ drop (min (length old) count) old

-- reads gave the bytes that stand behind the old ones
pub record Grows (old new : List ℕ) (before after : Stream) : Type 0 where
  pub got : List ℕ
  pub reads : Reads got before after
  pub faults : after.read_faults ≡ before.read_faults
  pub grown : new ≡ old ++ got

-- reads filled the bytes from start on
pub record Completes (start : ℕ) (old new : List ℕ) (before after : Stream) : Type 0 where
  pub got : List ℕ
  pub reads : Reads got before after
  pub faults : after.read_faults ≡ before.read_faults
  pub filled : new ≡ take start old ++ got
  pub full : start + length got ≡ length old

-- reads did not come to the end of so many bytes
pub record Breaks (asked : Asked) (start size : ℕ) (before after : Stream) : Type 0 where
  pub got : List ℕ
  pub reads : Reads got before after
  pub faults : FaultsBy asked before.read_faults after.read_faults
  pub ended : EndsAt asked after.left
  pub short : IsAskedShort asked size (start + length got)

-- ---- one request

-- reads gave bytes; this stands first in the old ones and those
pub record IsNext (more : ℕ) (asked : Asked) (old new : List ℕ) (before after : Stream)
    : Type 0 where
  pub got : List ℕ
  pub reads : Reads got before after
  pub first : First more (old ++ got) asked new
  pub ended : EndsAt asked after.left
  pub faults : FaultsBy asked before.read_faults after.read_faults
