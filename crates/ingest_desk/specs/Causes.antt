-- Statement: why a batch is not stored behind a journal.
use Rattle.std.specs.Prelude.{◌≡◌, ℕ, ◌||◌, nat_lt, Bool, if◌then◌else◌, List, [], ◌∷◌, ◌++◌, Option, None, Some}
use Rattle.explorer_model.specs.declared.archive.Batch.{Batch}
use Rattle.explorer_model.specs.declared.archive.Game.{Game}
use Rattle.explorer_model.specs.Imports.{numbers_of}
use Rattle.explorer_model.specs.Journal.{game_limit, byte_limit, game_count, byte_count}
use Rattle.tally_rows.specs.Tally.{Counted}
use Rattle.ingest_desk.specs.Clashes.{clashes_of}
use Rattle.ingest_desk.specs.declared.clashing.Clashing.{Clashing}
use Rattle.ingest_desk.specs.declared.register.Verdict.{Verdict}
use Rattle.ingest_desk.specs.declared.register.Verdict.TheVariants as verdicts

pub data Cause : Type 0 where
  -- an earlier commit met a disk fault, with these counts
  IsClosed : (before after : ℕ) → Cause
  -- ids of the batch are stored
  HasIds : List Clashing → Cause
  -- a limit would be passed; so many games and bytes are stored
  HasNoRoom : (games bytes : ℕ) → Cause

-- so many games or bytes pass a limit
abbrev pub is_over : ℕ → ℕ → Bool
is_over games bytes = nat_lt game_limit games || nat_lt byte_limit bytes

-- the batch would pass a limit behind the journal
abbrev pub has_no_room : List Batch → Batch → Bool
has_no_room journal batch =
    let more = journal ++ batch ∷ [] in is_over (game_count more) (byte_count more)

-- the cause where these texts of the batch have stored ids
abbrev pub cause_by : List Clashing → List Batch → Batch → Option Cause
cause_by (pair ∷ pairs) journal batch = Some (HasIds (pair ∷ pairs))
cause_by [] journal batch =
    if has_no_room journal batch then Some (HasNoRoom (game_count journal) (byte_count journal))
    else None

-- The first cause not to store a batch behind a journal that has these games: stored ids come before
-- a limit.
abbrev pub cause_of_new : List Game → List Batch → Counted → Option Cause
cause_of_new games journal tally =
    cause_by (clashes_of (numbers_of games) tally.classes) journal tally.batch

-- the first cause not to store a batch, where an earlier commit may have met a disk fault
abbrev pub cause : Option (ℕ × ℕ) → List Game → List Batch → Counted → Option Cause
cause (Some counts) games journal tally = Some (IsClosed counts.0 counts.1)
cause None games journal tally = cause_of_new games journal tally

-- the verdict has this cause
abbrev pub Judges : Verdict → Option Cause → Type 0
Judges (verdicts.Clash pairs) cause = cause ≡ Some (HasIds pairs.items)
Judges (verdicts.Full games bytes) cause = cause ≡ Some (HasNoRoom games bytes)
Judges verdicts.Fits cause = cause ≡ None
