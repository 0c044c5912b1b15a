-- Statement: the file of openings by which answers are named.
use Rattle.std.specs.Prelude.{◌≡◌, ◌⊎◌, ⊤, ◌≤◌, ◌+◌, ℕ, List, [], length, Option, None, Some, Result, Ok, Err, Vec, string_bytes}
use Rattle.std.specs.Global.{Global}
use Rattle.std.specs.Io.KnownBytes.{IsAtEnd}
use Rattle.outside.specs.Stream.{Reads, Rises, Stream}
use Rattle.explorer_model.specs.Openings.{BookReads, NamedPosition}
use Rattle.host.specs.Hosts.{HandsFile, HostState, RefusesFile, TakesFile}
use Rattle.explorer.specs.declared.fault.Fault.{Fault}
use Rattle.explorer.specs.declared.fault.Fault.TheVariants.{BadOpenings, CannotOpen, OpeningsTooLong, OutOfMemory, ReadFault}
use Rattle.explorer.specs.Lines.{Ending, Stopped}
use Rattle.explorer.specs.Stores.{OnlyHost}
use Rattle.explorer.specs.World.{World}

-- ---- what is asked of the host

-- A file was handed out, these bytes of it were read, and it came back. Nothing else was asked of the
-- host.
pub record ReadsFile (name stream : List ℕ) (before after : HostState) : Type 0 where
  pub handed : Stream
  pub given : HostState
  pub hands : HandsFile name handed before given
  pub returned : Stream
  pub reads : Reads stream handed returned
  pub takes : TakesFile name returned given after

-- no file came back with faults
abbrev pub FilesCame : HostState → HostState → Type 0
FilesCame before after = after.file_faults ≡ before.file_faults

-- the most bytes of a file of openings
abbrev pub openings_limit : ℕ
openings_limit = 4194304

-- the file was read to its end, which is no farther than a book may be, and no read failed
pub record ReadsWhole (name stream : List ℕ) (before after : HostState) : Type 0 where
  pub file : ReadsFile name stream before after
  pub at_end : IsAtEnd file.returned.left
  pub few : length stream ≤ openings_limit
  pub came : FilesCame before after

-- the file was read to the first byte that is one too many, and no read failed
pub record ReadsPast (name stream : List ℕ) (before after : HostState) : Type 0 where
  pub file : ReadsFile name stream before after
  pub many : length stream ≡ openings_limit + 1
  pub came : FilesCame before after

-- some of the file was read, and a read failed
pub record ReadsBadly (name stream : List ℕ) (before after : HostState) : Type 0 where
  pub file : ReadsFile name stream before after
  pub rises : Rises before.file_faults after.file_faults

-- some of the file was read, and no read failed
pub record ReadsSome (name stream : List ℕ) (before after : HostState) : Type 0 where
  pub file : ReadsFile name stream before after
  pub came : FilesCame before after

-- ---- the book

-- The book by which answers are named: that of a file of this name, or one without a line where none
-- is given, for which nothing is asked of the host.
abbrev pub HasBook : Option (List ℕ) → List NamedPosition → HostState → HostState → Type 0
HasBook None book before after = (book ≡ []) × (after ≡ before)
HasBook (Some name) book before after =
    (stream : List ℕ) × ReadsWhole name stream before after × BookReads stream (Ok book)

-- why the file of a name gives no book, by the fault that tells it; no other can be
abbrev pub LacksBook : List ℕ → Fault → HostState → HostState → Type 0
LacksBook name (CannotOpen refused) before after =
    (string_bytes refused ≡ name) × RefusesFile name before after
LacksBook name ReadFault before after = (stream : List ℕ) × ReadsBadly name stream before after
LacksBook name OpeningsTooLong before after =
    (stream : List ℕ) × ReadsPast name stream before after
LacksBook name (BadOpenings line cause) before after =
    (stream : List ℕ) × ReadsWhole name stream before after
    × BookReads stream (Err (record { line = line; cause = cause }))
LacksBook name OutOfMemory before after = (stream : List ℕ) × ReadsSome name stream before after
LacksBook name _ before after = ⊥

-- the run ends by the fault of the file, and nothing else is done
abbrev pub StopsAtBook : Option (List ℕ) → World → World → Ending → Type 0
StopsAtBook None before after ending = ⊥
StopsAtBook (Some name) before after ending =
    (fault : Fault) × (ending ≡ Stopped fault) × LacksBook name fault before.host after.host
    × OnlyHost before after

-- The file of openings is read, where one is given, and then the run does this by its book; or it
-- ends by a fault of the file.
abbrev pub NamedBy : Option (List ℕ) → (List NamedPosition → World → World → Ending → Type 0)
    → World → World → Ending → Type 0
NamedBy openings Does before after ending =
    ((book : List NamedPosition) × (read : HostState) × HasBook openings book before.host read
    × Does book (record before { host = read }) after ending)
    ⊎ StopsAtBook openings before after ending

-- ---- bridge: what the code comes to on the way

-- the book of a file, or why there is none
abbrev pub GivesBook : Option (List ℕ) → Result (List NamedPosition) Fault → HostState → HostState
    → Type 0
GivesBook openings (Ok book) before after = HasBook openings book before after
GivesBook None (Err fault) before after = ⊥
GivesBook (Some name) (Err fault) before after = LacksBook name fault before after

-- the book that bytes are, or their first faulty line; want of memory is free
abbrev pub ReadsAs : List ℕ → Result (List NamedPosition) Fault → Type 0
ReadsAs bytes (Ok book) = BookReads bytes (Ok book)
ReadsAs bytes (Err (BadOpenings line cause)) =
    BookReads bytes (Err (record { line = line; cause = cause }))
ReadsAs bytes (Err OutOfMemory) = ⊤
ReadsAs bytes (Err _) = ⊥

-- What reads of a file came to: its bytes where it was read to its end, with no more of them than a
-- book may have; else why they are not there.
abbrev pub HasBytes : Result (Vec ℕ Global) Fault → List ℕ → Stream → Stream → Type 0
HasBytes (Ok bytes) stream before after =
    (bytes.items ≡ stream) × IsAtEnd after.left × (length stream ≤ openings_limit)
    × (after.read_faults ≡ before.read_faults)
HasBytes (Err ReadFault) stream before after = Rises before.read_faults after.read_faults
HasBytes (Err OpeningsTooLong) stream before after =
    (length stream ≡ openings_limit + 1) × (after.read_faults ≡ before.read_faults)
HasBytes (Err OutOfMemory) stream before after = after.read_faults ≡ before.read_faults
HasBytes (Err _) stream before after = ⊥

abbrev pub ReadsBytes : Result (Vec ℕ Global) Fault → Stream → Stream → Type 0
ReadsBytes bytes before after =
    (stream : List ℕ) × Reads stream before after × HasBytes bytes stream before after
