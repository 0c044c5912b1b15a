-- What a query over a store comes to whose rows stand in a scratch file.
use Rattle.std.proofs.Common.{◌≡◌, ◌⊎◌, inl, inr, ◌<◌, ℕ, List, [], ◌∷◌, length, length-append, append-nil, Option, None, Some, Ok, Err, Result, refl, sym, ap, subst, ◌∙◌, arith}
use Rattle.std.specs.Prelude.{IfSome, Vec}
use Rattle.std.specs.Global.{Global}
use Rattle.std.specs.List.{AllByRecursion}
use Rattle.std.specs.Option.{option_map}
use Rattle.disk_model.specs.Disk.{DiskState, IsQuiet}
use Rattle.outside.specs.Ports.{Scratch}
use Rattle.outside.specs.Stream.{Rises, Stream}
use Rattle.explorer_model.specs.declared.answer.MoveLine.{MoveLine}
use Rattle.explorer_model.specs.declared.chess.Position.{Position}
use Rattle.explorer_model.specs.declared.query.Query.{Query}
use Rattle.explorer_model.specs.declared.store.LogFault.TheVariants as log
use Rattle.explorer_model.specs.Finds.{IsFound}
use Rattle.explorer_model.specs.Openings.{NamedPosition}
use Rattle.explorer_model.specs.San.{SanText}
use Rattle.explorer_model.specs.SoundClasses.{AreSoundClasses}
use Rattle.segment_blocks.specs.Segment.{CountedSpan}
use Rattle.spill_blobs.specs.Sets.{HasJust, HoldsIn, journal_of, set_bytes}
use Rattle.spill_blobs.specs.declared.port_fault.PortFault.TheVariants as ports
use Rattle.record_log.specs.declared.fault.OpenFault.{OpenFault}
use Rattle.record_log.specs.declared.fault.OpenFault.TheVariants as opening
use Rattle.ingest_desk.specs.Spilling.{AreLone, IsNotSpilled}
use Rattle.ingest_desk.specs.declared.spill_fault.SpillOpenFault.{SpillOpenFault}
use Rattle.ingest_desk.specs.declared.spill_fault.SpillOpenFault.TheVariants.{Port, Store}
use Rattle.lookup.specs.Sound.{IsSoundLine}
use Rattle.host.specs.Hosts.{ADisk, HandsDisk, HandsPort, HostState, IsOut, PortBack, PortOut, PortRefused, RefusesPort, TakesDisk, TakesPort, noted}
use Rattle.explorer.specs.Faults.{fault_of_spilling}
use Rattle.explorer.specs.Lines.{Stopped}
use Rattle.explorer.specs.Opened.{FailsUnread, IsRefusedBy, IsUnchanged, NotOpened, OpensTo}
use Rattle.explorer.specs.Query.Spilled.{AnswersSpilled, FailsToSpill, FindsIn, FirstSpillCause, IsDamagedIn, OnDisk, ReadsThrough, Spills, SpillsBy, SpillsTo, UsesSpill}
use Rattle.explorer.specs.Stores.{IsSized}
use Rattle.explorer.specs.World.{world}
use Rattle.explorer.proofs.ImportEndLemmas.{by_calls, refused_by, stays_out}
use Rattle.explorer.proofs.StoreLemmas.{above}

-- ---- the scratch file as it is handed out

none_yet : (stood : Option (List ℕ)) → IfSome (option_map (λ (bytes : List ℕ). []) stood) (λ (told : List ℕ). told ≡ [])
none_yet None = tt
none_yet (Some bytes) = refl

pub just_none : (name : List ℕ) (port : Scratch) (before after : HostState) → HandsPort name port before after → HasJust port []
just_none name port before after hands = record {
  told = subst (λ (o : Option (List ℕ)). IfSome o (λ (told : List ℕ). told ≡ [])) (sym hands.told) (none_yet (before.ports name));
  size = hands.empty;
}

-- ---- a disk stays out while a scratch file is asked for

pub out_over_port : (store name : List ℕ) (port : Scratch) (before after : HostState) → HandsPort name port before after → IsOut (ADisk store) before → IsOut (ADisk store) after
out_over_port store name port before after hands h =
    by_calls store before after (noted (PortOut name) before.calls) (ap (λ (s : HostState). s.calls) hands.rest) (stays_out store (PortOut name) refl refl before.calls h)

pub out_over_port_back : (store name : List ℕ) (port : Scratch) (before after : HostState) → TakesPort name port before after → IsOut (ADisk store) before → IsOut (ADisk store) after
out_over_port_back store name port before after takes h =
    by_calls store before after (noted (PortBack name) before.calls) (ap (λ (s : HostState). s.calls) takes.rest) (stays_out store (PortBack name) refl refl before.calls h)

pub out_over_no_port : (store name : List ℕ) (before after : HostState) → RefusesPort name before after → IsOut (ADisk store) before → IsOut (ADisk store) after
out_over_no_port store name before after refuses h = by_note refuses.calls
  where
    by_note : (after.calls ≡ noted (PortRefused name) before.calls) ⊎ (after.calls ≡ before.calls) → IsOut (ADisk store) after
    by_note (inl is) = by_calls store before after (noted (PortRefused name) before.calls) is (stays_out store (PortRefused name) refl refl before.calls h)
    by_note (inr is) = by_calls store before after before.calls is h

-- ---- an answer that is sound is plain

pub sans : (at : Position) (lines : List MoveLine) → AllByRecursion (IsSoundLine at) lines → AllByRecursion (λ line. SanText at line.next line.san) lines
sans at [] sound = tt
sans at (line ∷ lines) sound = (sound.0.san, sans at lines sound.1)

pub line_games : (at : Position) (lines : List MoveLine) → AllByRecursion (IsSoundLine at) lines → AllByRecursion (λ line. IfSome line.game (λ game. AreSoundClasses game.classes)) lines
line_games at [] sound = tt
line_games at (line ∷ lines) sound = (sound.0.game, line_games at lines sound.1)

-- ---- what is read of a set

-- a set of parts of one batch has as many
lone_length : (set : List CountedSpan) → AreLone set → length (journal_of set) ≡ length set
lone_length [] lone = refl
lone_length (segment ∷ set) lone =
    let rest = lone_length set lone.1 in
    length-append segment.span.batches (journal_of set) ∙ omega (arith, lone.0, rest)

-- a file that has just the set's bytes holds them, where it tells them
holds_just : (set : List CountedSpan) (told : List ℕ) → told ≡ set_bytes set → HoldsIn set (Some told)
holds_just set told is = record { rest = []; is = is ∙ sym (append-nil (set_bytes set)) }

found_if : {X : Type 0} (set : List CountedSpan) (appended : Option (List ℕ)) → IfSome appended (λ told. told ≡ set_bytes set) → (HoldsIn set appended → X) → IfSome appended (λ _. X)
found_if set None just found = tt
found_if set (Some told) just found = found (holds_just set told just)

untold_if : (set : List CountedSpan) (appended : Option (List ℕ)) → IfSome appended (λ told. told ≡ set_bytes set) → (HoldsIn set appended → ⊥) → appended ≡ None
untold_if set None just not = refl
untold_if set (Some told) just not = absurd (not (holds_just set told just))

module _ (book : List NamedPosition) (query : Query) (handed returned : DiskState) (before middle after : Scratch) (set : List CountedSpan) (opens : OpensTo (journal_of set) handed returned)
    (lone : AreLone set) (just : HasJust middle (set_bytes set)) (calm : middle.faults ≡ before.faults) where
  has_spilled : Spills (journal_of set) handed returned before middle
  has_spilled = record { opens = opens; set = set; whole = refl; lone = lone; holds = just; calm = calm }

  still_spilled : after ≡ middle → Spills (journal_of set) handed returned before after
  still_spilled same = subst (λ (s : Scratch). Spills (journal_of set) handed returned before s) (sym same) has_spilled

  as_before : IsUnchanged handed returned
  as_before = record { kept = opens.kept; no_fault = opens.no_fault }

  -- the line was made, or was not
  pub spilled_to : (line : Result (Vec ℕ Global) SpillOpenFault) → ReadsThrough book query set middle after line → SpillsTo book query handed returned before after line
  spilled_to (Ok line) (found, sound, finds, is_line, same) =
      let there : IfSome middle.appended (λ _. IsFound (journal_of set) query found) = found_if set middle.appended just.told finds in (
        journal_of set,
        found,
        record {
          spills = still_spilled same;
          sound = sound;
          is_found = subst (λ (s : Scratch). IfSome s.appended (λ _. IsFound (journal_of set) query found)) (sym same) there;
        },
        is_line,
      )
  spilled_to (Err (Store fault)) (is, same) =
      (subst (λ (f : OpenFault). NotOpened f handed returned) (sym is) as_before, ap (λ (s : Scratch). s.faults) same ∙ calm)
  spilled_to (Err (Port (ports.Damaged part))) (among, not, same) = record {
    journal = journal_of set;
    spills = still_spilled same;
    among = subst (λ (n : ℕ). part < n) (sym (lone_length set lone)) among;
    untold = ap (λ (s : Scratch). s.appended) same ∙ untold_if set middle.appended just.told not;
  }
  spilled_to (Err (Port (ports.ReadFault first last))) rises =
      record { unchanged = as_before; rises = subst (λ (n : ℕ). Rises n after.faults) calm rises }
  spilled_to (Err (Port (ports.WriteFault first last))) none = absurd none

-- ---- what is not opened

module _ {D : Type 0} (disk : D → DiskState) (left_since : D → ℕ → List ℕ → Type 0) (old new : D) (quiet : IsQuiet disk left_since old new) (book : List NamedPosition) (query : Query)
    (before after : Scratch) where
  pub not_spilled : (found told : SpillOpenFault) → IsNotSpilled disk found old new before after → FirstSpillCause (disk old).faults (disk new).faults found told
      → SpillsTo book query (disk old) (disk new) before after (Err told)
  not_spilled (Store found) (Store told) is cause = (refused_by disk left_since old new quiet found told is.0 cause, is.1)
  not_spilled (Store found) (Port told) is cause = absurd cause
  not_spilled (Port (ports.WriteFault first last)) told is cause =
      let fails : FailsToSpill (disk old) (disk new) before after = record {
        unchanged = record { kept = ap (λ (s : DiskState). s.content) quiet.rest; no_fault = is.1 };
        rises = is.0.2;
      } in
      subst (λ (f : SpillOpenFault). SpillsTo book query (disk old) (disk new) before after (Err f)) (sym cause) fails
  not_spilled (Port (ports.ReadFault first last)) told is cause = absurd is.0
  not_spilled (Port (ports.Damaged part)) told is cause = absurd is.0

-- ---- a run

module _ (store name : List ℕ) (query : Query) (book : List NamedPosition) (input output errors : Stream) (before opened given taken after : HostState) (disk disk_after : DiskState) (port port_after : Scratch)
    (sized : IsSized disk) (hands_disk : HandsDisk store disk before opened) (hands_port : HandsPort name port opened given) (takes_port : TakesPort name port_after given taken)
    (takes_disk : TakesDisk store disk_after taken after) where
  uses_spill : (Does : DiskState → DiskState → Scratch → Scratch → Type 0) → Does disk disk_after port port_after → UsesSpill store name Does before after
  uses_spill Does does = record {
    disk = disk;
    sized = sized;
    opened = opened;
    hands_disk = hands_disk;
    port = port;
    given = given;
    hands_port = hands_port;
    disk_after = disk_after;
    port_after = port_after;
    does = does;
    taken = taken;
    takes_port = takes_port;
    takes_disk = takes_disk;
  }

  disk_rose : Rises disk.faults disk_after.faults → Rises before.disk_faults after.disk_faults
  disk_rose rises =
      let same : taken.disk_faults ≡ before.disk_faults =
      ap (λ (h : HostState). h.disk_faults) takes_port.rest ∙ ap (λ (h : HostState). h.disk_faults) hands_port.rest ∙ ap (λ (h : HostState). h.disk_faults) hands_disk.rest in
      subst (λ (n : ℕ). Rises n after.disk_faults) same (takes_disk.counts.rises (above disk.faults disk_after.faults hands_disk.faultless rises))

  port_rose : Rises port.faults port_after.faults → Rises before.port_faults after.port_faults
  port_rose rises =
      let same : given.port_faults ≡ before.port_faults = ap (λ (h : HostState). h.port_faults) hands_port.rest ∙ ap (λ (h : HostState). h.port_faults) hands_disk.rest in
      let then : after.port_faults ≡ taken.port_faults = ap (λ (h : HostState). h.port_faults) takes_disk.rest in
      let rose : Rises given.port_faults taken.port_faults = takes_port.counts.rises (above port.faults port_after.faults hands_port.faultless rises) in
      subst (λ (n : ℕ). Rises n after.port_faults) same (subst (λ (n : ℕ). Rises given.port_faults n) (sym then) rose)

  -- the line was made, and its writing came to this
  pub answered_spilled : (Wrote : List ℕ → Type 0) (written : Stream) (line : Vec ℕ Global) → SpillsTo book query disk disk_after port port_after (Ok line) → Wrote line.items
      → AnswersSpilled Wrote store name query book (world input output errors before) (world input written errors after)
  answered_spilled Wrote written line spills wrote = record {
    journal = spills.0;
    found = spills.1;
    finds = uses_spill (FindsIn spills.0 query spills.1) spills.2;
    naming = spills.3.0;
    is_naming = spills.3.1;
    wrote = subst Wrote spills.3.2 wrote;
    rest = refl;
  }

  -- there is no line
  pub unanswered_spilled : (fault : SpillOpenFault) → SpillsTo book query disk disk_after port port_after (Err fault)
      → SpillsBy store name query book (world input output errors before) (world input output errors after) (Stopped (fault_of_spilling fault))
  unanswered_spilled (Store (opening.Log log.NotALog)) spills = (uses_spill (OnDisk (IsRefusedBy log.NotALog)) spills, refl)
  unanswered_spilled (Store (opening.Log (log.OtherFormat number))) spills = (uses_spill (OnDisk (IsRefusedBy (log.OtherFormat number))) spills, refl)
  unanswered_spilled (Store (opening.Log (log.Damaged gate))) spills = (uses_spill (OnDisk (IsRefusedBy (log.Damaged gate))) spills, refl)
  unanswered_spilled (Store (opening.DiskFault first last)) spills = (uses_spill (OnDisk FailsUnread) spills, disk_rose spills.0.rises, refl)
  unanswered_spilled (Store opening.OutOfMemory) spills = (uses_spill (OnDisk IsUnchanged) spills, refl)
  unanswered_spilled (Port (ports.ReadFault first last)) spills = (uses_spill FailsToSpill spills, port_rose spills.rises, refl)
  unanswered_spilled (Port (ports.Damaged part)) spills = (uses_spill (IsDamagedIn part) spills, refl)
  unanswered_spilled (Port (ports.WriteFault first last)) spills = (uses_spill FailsToSpill spills, port_rose spills.rises, refl)
