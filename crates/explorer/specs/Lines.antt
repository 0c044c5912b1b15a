-- Statement: how a run may end, and what its status and its last line tell of that.
use Rattle.std.specs.Prelude.{◌≡◌, ⊤, ℕ, List, [], ◌∷◌, ◌++◌, Result, Ok, Err, codes, string_bytes}
use Rattle.std.specs.Fmt.{decimal}
use Rattle.outside.specs.Stream.{Stream, Writes}
use Rattle.command_line.specs.Words.{EndsLine}
use Rattle.explorer_model.specs.declared.opening.BookCause.{BookCause}
use Rattle.explorer_model.specs.Query.{parameter_text}
use Rattle.explorer_model.specs.Refusals.{book_cause_text}
use Rattle.explorer.specs.World.{World}
use Rattle.explorer.specs.declared.fault.Fault.{Fault}
use Rattle.explorer.specs.declared.fault.Fault.TheVariants.{BadLabel, BadOpenings, BadParameter, CannotAccept, CannotOpen, Damaged, DiskFault, Full, NotAStore, NotEmpty, OpeningsTooLong, OtherFormat, OutOfMemory, ReadFault, SpillDamaged, SpillFault, TooMuchInput, Usage, WriteFault}

-- all that the words ask for was done, or a fault stopped it
pub data Ending : Type 0 where
  Done : Ending
  Stopped : Fault → Ending

abbrev pub status_of : Ending → ℕ
status_of Done = 0
status_of (Stopped Usage) = 2
status_of (Stopped (BadParameter parameter)) = 3
status_of (Stopped BadLabel) = 3
status_of (Stopped ReadFault) = 4
status_of (Stopped WriteFault) = 5
status_of (Stopped DiskFault) = 6
status_of (Stopped (NotEmpty size)) = 7
status_of (Stopped NotAStore) = 7
status_of (Stopped (OtherFormat number)) = 7
status_of (Stopped (Damaged gate)) = 7
status_of (Stopped (Full games bytes)) = 8
status_of (Stopped OutOfMemory) = 9
status_of (Stopped (CannotOpen name)) = 10
status_of (Stopped CannotAccept) = 10
status_of (Stopped TooMuchInput) = 11
status_of (Stopped OpeningsTooLong) = 12
status_of (Stopped (BadOpenings line cause)) = 12
status_of (Stopped SpillFault) = 13
status_of (Stopped (SpillDamaged part)) = 14

-- games and bytes that are stored, without the group that finds no room
abbrev pub full_line : ℕ → ℕ → List ℕ
full_line games bytes =
    codes "full " ++ decimal games ++ codes " games " ++ decimal bytes ++ codes " bytes\n"

-- the first faulty line of a file of openings, and what is wrong with it
abbrev pub openings_line : ℕ → BookCause → List ℕ
openings_line line cause =
    codes "openings line " ++ decimal line ++ codes " " ++ book_cause_text cause ++ codes "\n"

-- What is written of a fault. What is told of words that are refused is left to the command line's
-- parser.
abbrev pub AreLinesOf : Fault → List (List ℕ) → Type 0
AreLinesOf Usage lines = (line : List ℕ) × EndsLine line × (lines ≡ line ∷ [])
AreLinesOf (BadParameter parameter) lines =
    lines ≡ (codes "bad parameter " ++ parameter_text parameter ++ codes "\n") ∷ []
AreLinesOf BadLabel lines = lines ≡ codes "bad parameter label\n" ∷ []
AreLinesOf ReadFault lines = lines ≡ codes "read fault\n" ∷ []
AreLinesOf WriteFault lines = lines ≡ codes "write fault\n" ∷ []
AreLinesOf DiskFault lines = lines ≡ codes "disk fault\n" ∷ []
AreLinesOf (NotEmpty size) lines =
    lines ≡ (codes "not empty " ++ decimal size ++ codes "\n") ∷ []
AreLinesOf NotAStore lines = lines ≡ codes "not a store\n" ∷ []
AreLinesOf (OtherFormat number) lines =
    lines ≡ (codes "format " ++ decimal number ++ codes "\n") ∷ []
AreLinesOf (Damaged gate) lines =
    lines ≡ (codes "damaged at " ++ decimal gate ++ codes "\n") ∷ []
AreLinesOf (Full games bytes) lines = lines ≡ full_line games bytes ∷ []
AreLinesOf OutOfMemory lines = lines ≡ codes "out of memory\n" ∷ []
AreLinesOf (CannotOpen name) lines =
    lines ≡ codes "cannot open " ∷ string_bytes name ∷ codes "\n" ∷ []
AreLinesOf CannotAccept lines = lines ≡ codes "cannot accept\n" ∷ []
AreLinesOf TooMuchInput lines = lines ≡ codes "too much input\n" ∷ []
AreLinesOf OpeningsTooLong lines = lines ≡ codes "openings too long\n" ∷ []
AreLinesOf (BadOpenings line cause) lines = lines ≡ openings_line line cause ∷ []
AreLinesOf SpillFault lines = lines ≡ codes "spill fault\n" ∷ []
AreLinesOf (SpillDamaged part) lines =
    lines ≡ (codes "spill damaged " ++ decimal part ++ codes "\n") ∷ []

-- what is written of it is one piece, since no name is in it
abbrev pub HasOneLine : Fault → Type 0
HasOneLine (CannotOpen name) = ⊥
HasOneLine _ = ⊤

-- a fault is told on a sink
abbrev pub TellsOf : Fault → Stream → Stream → Type 0
TellsOf fault before after =
    (lines : List (List ℕ)) × AreLinesOf fault lines × Writes lines before after

-- a fault is told on a sink, and success by nothing
abbrev pub IsTold : Ending → Stream → Stream → Type 0
IsTold Done before after = after ≡ before
IsTold (Stopped fault) before after = TellsOf fault before after

-- an ending is told on the errors, and nothing else is done
abbrev pub Tells : Ending → World → World → Type 0
Tells Done before after = after ≡ before
Tells (Stopped fault) before after =
    TellsOf fault before.errors after.errors × (after ≡ record before { errors = after.errors })

-- how a call ended that is the whole of a run
abbrev pub ending_of : {A : Type 0} → Result A Fault → Ending
ending_of (Ok value) = Done
ending_of (Err fault) = Stopped fault
