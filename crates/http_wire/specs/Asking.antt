-- Statement: what a connection asks next.
use Rattle.std.specs.Prelude.{◌≡◌, ℕ, ◌-◌, ⊤, List, [], ◌++◌, if◌then◌else◌, Option}
use Rattle.std.specs.Io.KnownBytes.{IsAtEnd}
use Rattle.outside.specs.Stream.{Stream, Rises, Reads}
use Rattle.explorer_model.specs.Wire.{First, request_limit}
use Rattle.explorer_model.specs.declared.wire.Asked.{Asked}
use Rattle.explorer_model.specs.declared.wire.Asked.TheVariants.{Wanted, Done, Cut, ReadFault}
use Rattle.explorer_model.specs.declared.wire.Request.{Request}

-- the bytes that were read and not asked yet, and how many requests may still come: none behind
-- what closes the connection
pub record Buffer : Type 0 where
  pub pending : List ℕ
  pub more : ℕ

abbrev pub fresh : Buffer
fresh = record { pending = []; more = request_limit }

-- how many may come behind it
abbrev pub more_behind : ℕ → Asked → ℕ
more_behind more (Wanted request) = if request.last then 0 else more - 1
more_behind more _ = 0

-- Done and Cut come at the stream's end alone
abbrev pub EndsAt : Asked → Option (List ℕ) → Type 0
EndsAt Done left = IsAtEnd left
EndsAt Cut left = IsAtEnd left
EndsAt _ left = ⊤

-- a read failed where that is what is said, and else none did
abbrev pub FaultsBy : Asked → ℕ → ℕ → Type 0
FaultsBy ReadFault before after = Rises before after
FaultsBy _ before after = after ≡ before

-- on an open connection: this stands first in what is pending and what reads gave behind it
pub record Asks (asked : Asked) (old new : Buffer) (before after : Stream) : Type 0 where
  pub got : List ℕ
  pub reads : Reads got before after
  pub first : First old.more (old.pending ++ got) asked new.pending
  pub ended : EndsAt asked after.left
  pub faults : FaultsBy asked before.read_faults after.read_faults
  pub more : new.more ≡ more_behind old.more asked

-- on a closed connection: nothing is asked, and nothing is read
pub record StaysClosed (asked : Asked) (old new : Buffer) (before after : Stream) : Type 0 where
  pub none : asked ≡ Done
  pub stays : new ≡ old
  pub unread : after ≡ before

abbrev pub IfWanted : Asked → (Request → Type 0) → Type 0
IfWanted (Wanted request) P = P request
IfWanted _ P = ⊤
