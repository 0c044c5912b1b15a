-- An import of a told file into a told store comes to one thing, where no call fails and memory is
-- there.
use Rattle.std.proofs.Common.{◌≡◌, ◌⊎◌, inl, inr, ℕ, ◌+◌, ◌-◌, List, [], ◌∷◌, ◌++◌, length, Option, None, Some, refl, sym, ap, ap₂, subst, ◌∙◌, length-append, arith}
use Rattle.std.specs.Prelude.{◌≢◌, IfSome, IsSome}
use Rattle.std.specs.Io.KnownBytes.{append_known}
use Rattle.std.proofs.lemmas.List.{append-nil}
use Rattle.std.proofs.lemmas.Bool.{both_ways}
use Rattle.plain_laws.specs.Options.{IfSome-at}
use Rattle.outside.specs.Stream.{Rises, Stream, source_alone}
use Rattle.explorer_model.specs.declared.archive.Batch.{Batch}
use Rattle.explorer_model.specs.declared.archive.Game.{Game}
use Rattle.explorer_model.specs.declared.fault.Refusal.{Refusal}
use Rattle.explorer_model.specs.declared.store.LogFault.{LogFault}
use Rattle.explorer_model.specs.declared.store.LogFault.TheVariants as log
use Rattle.explorer_model.specs.Cuts.{Cut, cuts}
use Rattle.explorer_model.specs.Labels.{is_label}
use Rattle.explorer_model.specs.Imports.{Accounted, groups}
use Rattle.explorer_model.specs.Journal.{IsSound, game_count}
use Rattle.explorer_model.specs.Visits.{AreGamesOf, texts_of}
use Rattle.record_log.specs.declared.fault.OpenFault.TheVariants as opening
use Rattle.manifest.specs.Manifest.{HasJournal}
use Rattle.host.specs.Hosts.{HostState}
use Rattle.ingest_desk.specs.Openings.{IsWrong}
use Rattle.ingest_desk.specs.Reporting.{FindsNoRoom}
use Rattle.ingest_desk.specs.declared.report.ImportEnding.{ImportEnding}
use Rattle.ingest_desk.specs.declared.report.ImportEnding.TheVariants as endings
use Rattle.ingest_desk.proofs.SoundLemmas.{sound_front}
use Rattle.import_run.specs.Committing.{Known}
use Rattle.import_run.specs.Ending.{AreSettled}
use Rattle.import_run.specs.SoFar.{AreAllGroups}
use Rattle.import_run.proofs.AloneLemmas.{same_games}
use Rattle.import_run.proofs.SoFarLemmas.{in_groups}
use Rattle.import_run.proofs.VerdictLemmas.{OneGame}
use Rattle.import_run.proofs.LawLemmas.{no_rise}
use Rattle.explorer.specs.declared.fault.Fault.TheVariants as faults
use Rattle.explorer.specs.Faults.{fault_of_opening}
use Rattle.explorer.specs.ImportStore.{ImportsBy, ImportsInto, ImportsLabelled, ImportsSo, ImportsTo, SomeWriteFails, totals}
use Rattle.explorer.specs.Laws.{GoesWell, HasMemory, ImportAlike, IsToldErrors, IsToldFile, IsToldStore, ReadsWell, ReportsWell}
use Rattle.explorer.specs.Lines.{Ending, Done, Stopped, status_of}
use Rattle.explorer.specs.Opened.{FailsUnread, IsRefusedBy, RefusesStore}
use Rattle.explorer.specs.Report.{report}
use Rattle.explorer.specs.Stores.{UsesDisk}
use Rattle.explorer.specs.World.{World}
use Rattle.explorer.proofs.LawLemmas.ImportHost.{OnlyDisk, calls_behind, content_is, left_only, no_call_fails, no_file_refused, no_read_fails, only_disk, put_same, rest_alike, source_is, used_both, with_disk}
use Rattle.explorer.proofs.LawLemmas.{IsFullBehind, one_full_behind}
use Rattle.explorer.proofs.LawLemmas.NoRoom.{OneAccount}
use Rattle.explorer.proofs.LawLemmas.OneEnding.{done_or_full, end_is, full_in_all, told_rest, wrote_stream}
use Rattle.explorer.proofs.LawLemmas.Question.{OneOpening}
use Rattle.explorer.proofs.StoreLemmas.{rose}
use Rattle.explorer.proofs.LawLemmas.ToldStore.{left_by, refused_in, used}

-- ---- what an import comes to

-- these bytes were written behind those before
abbrev wrote_behind : Stream → List ℕ → Stream
wrote_behind sink bytes = record sink { written = append_known sink.written bytes }

abbrev totals_of : List Batch → List Batch → List ℕ
totals_of batches stored = totals (game_count batches) (length batches) (length stored)

-- An import that was not broken off: these batches stand behind the journal of the store, and what
-- was refused and stored was told.
record Goes (store image : List ℕ) (start : Known) (batches : List Batch) (refused : List Refusal) (before after : World) : Type 0 where
  is_open : start.fault ≡ None
  read : HasJournal start.journal image
  sound : IsSound (start.journal ++ batches)
  holds : IfSome (after.host.disks store) (HasJournal (start.journal ++ batches))
  errors : after.errors ≡ wrote_behind before.errors (report refused)
  output : after.output ≡ wrote_behind before.output (totals_of batches (start.journal ++ batches))
  input : after.input ≡ before.input
  host : OnlyDisk store before.host after.host

-- a source that was read to the end of this stream
abbrev read_through : List ℕ → Stream
read_through stream = source_alone (Some []) (0 + length stream) 0

-- all of the stream is settled
record IsDone (store image file stream label : List ℕ) (before after : World) : Type 0 where
  start : Known
  batches : List Batch
  refused : List Refusal
  goes : Goes store image start batches refused before after
  accounted : Accounted label start.games (groups (cuts stream)) batches refused
  calls : after.host.calls ≡ calls_behind store file (read_through stream) before.host

-- a group of the stream finds no room
record IsFull (games bytes : ℕ) (store image label : List ℕ) (all : List (List Cut)) (before after : World) : Type 0 where
  start : Known
  batches : List Batch
  refused : List Refusal
  goes : Goes store image start batches refused before after
  full : IsFullBehind label start games bytes all batches refused

abbrev refusal : LogFault → Ending
refusal fault = Stopped (fault_of_opening (opening.Log fault))

-- the store is refused
record IsRefused (fault : LogFault) (store image : List ℕ) (before after : World) : Type 0 where
  wrong : IsWrong fault image
  after_is : after ≡ refused_in store image before

abbrev Comes : (store image file stream label : List ℕ) → List (List Cut) → World → World → Ending → Type 0
Comes store image file stream label all before after ending =
    ((ending ≡ Done) × IsDone store image file stream label before after)
    ⊎ ((games : ℕ) × (bytes : ℕ) × (ending ≡ Stopped (faults.Full games bytes)) × IsFull games bytes store image label all before after)
    ⊎ ((fault : LogFault) × (ending ≡ refusal fault) × IsRefused fault store image before after)

module _ (store image file stream label : List ℕ) (all : List (List Cut)) (groups_are : AreAllGroups (cuts stream) all) (before after : World) (told : IsToldStore store image before) (told_file : IsToldFile file stream before)
    (told_errors : IsToldErrors before) (well : GoesWell before after) (reads : ReadsWell before after) (reports : ReportsWell before after) where
  no_write_fails : SomeWriteFails before after → ⊥
  no_write_fails (inl rises) = no_rise before.output.write_faults after.output.write_faults well.writes told.writes rises
  no_write_fails (inr rises) = no_rise before.errors.write_faults after.errors.write_faults reports told_errors.reports rises

  no_fault_unread : UsesDisk store FailsUnread before.host after.host → ⊥
  no_fault_unread uses =
      no_rise before.host.disk_faults after.host.disk_faults well.faults told.faults
      (rose store uses.handed uses.returned before.host uses.middle after.host uses.hands uses.takes uses.does.rises)

  -- ---- an import

  module _ (end : ImportEnding) (into : ImportsInto end store file label before.host after.host) where
    host_is : after.host ≡ with_disk store (calls_behind store file into.source_after before.host) into.disk_after.content before.host
    host_is =
        used_both store file into.disk into.disk_after into.source into.source_after before.host after.host into.uses well.faults reads

    source : into.source ≡ source_alone (Some stream) 0 0
    source =
        source_is store file into.disk into.disk_after into.source into.source_after before.host after.host into.uses well.faults reads
        stream told_file.file

    rest : (rest : List ℕ) × (stream ≡ into.stream ++ rest) × (into.source_after.left ≡ Some rest)
    rest = told_rest into.source.left into.source_after.left stream into.stream (ap (λ (s : Stream). s.left) source) into.reads.next

    no_read : Rises into.source.read_faults into.source_after.read_faults → ⊥
    no_read =
        no_read_fails store file into.disk into.disk_after into.source into.source_after before.host after.host into.uses well.faults reads
        told_file.faults

    no_call : Rises into.disk.faults into.disk_after.faults → ⊥
    no_call =
        no_call_fails store file into.disk into.disk_after into.source into.source_after before.host after.host into.uses well.faults reads
        told.faults

  goes : (end : ImportEnding) (to : ImportsTo end store file label before after) → to.imports.stored ≡ to.imports.start.journal ++ to.imports.batches → IfSome to.imports.disk_after.content (HasJournal to.imports.stored)
      → Goes store image to.imports.start to.imports.batches to.imports.refused before after
  goes end to stored holds =
      let journal = to.imports.start.journal ++ to.imports.batches in
      let calls = calls_behind store file to.imports.source_after before.host in
      let content = content_is store calls to.imports.disk_after.content before.host after.host (host_is end to.imports) in
      let held : IfSome to.imports.disk_after.content (HasJournal journal) =
      subst (λ (j : List Batch). IfSome to.imports.disk_after.content (HasJournal j)) stored holds in
      record {
        is_open = to.imports.sound;
        read = IfSome-at (HasJournal to.imports.start.journal) to.imports.disk.content image (to.imports.uses.hands_disk.content ∙ told.disk) to.imports.read;
        sound = subst IsSound stored to.imports.is_sound;
        holds = subst (λ (o : Option (List ℕ)). IfSome o (HasJournal journal)) (sym content) held;
        errors = wrote_stream (report to.imports.refused) before.errors after.errors told_errors.errors told_errors.reports reports to.errors;
        output =
            wrote_stream (totals_of to.imports.batches to.imports.stored) before.output after.output told.output told.writes well.writes to.output
            ∙ ap (λ (j : List Batch). wrote_behind before.output (totals_of to.imports.batches j)) stored;
        input = ap (λ (w : World). w.input) to.rest;
        host = only_disk store calls to.imports.disk_after.content before.host after.host (host_is end to.imports);
      }

  done : ImportsTo endings.Whole store file label before after → IsDone store image file stream label before after
  done to =
      let more = rest endings.Whole to.imports in
      let from = source endings.Whole to.imports in
      let none = end_is to.imports.source_after.left more.0 more.2 to.imports.stands.at_end in
      let same : to.imports.stream ≡ stream = sym (more.1 ∙ ap (λ (l : List ℕ). to.imports.stream ++ l) none ∙ append-nil to.imports.stream) in
      let left : to.imports.source_after.left ≡ Some [] = more.2 ∙ ap Some none in
      let none_failed : to.imports.source_after.read_faults ≡ 0 = to.imports.faults.reads ∙ ap (λ (s : Stream). s.read_faults) from in
      let back : to.imports.source_after ≡ read_through stream =
      to.imports.reads.rest
      ∙ (λ i. let s : Stream = from i in record s { left = left i; given = s.given + length (same i); read_faults = none_failed i }) in
      record {
        start = to.imports.start;
        batches = to.imports.batches;
        refused = to.imports.refused;
        goes = goes endings.Whole to to.imports.stored_are to.imports.holds;
        accounted = subst (λ (l : List ℕ). Accounted label to.imports.start.games (groups (cuts l)) to.imports.batches to.imports.refused) same to.imports.stands.settled.accounted;
        calls = ap (λ (h : HostState). h.calls) (host_is endings.Whole to.imports) ∙ ap (λ (s : Stream). calls_behind store file s before.host) back;
      }

  full : (games bytes : ℕ) → ImportsTo (endings.Full games bytes) store file label before after → IsFull games bytes store image label all before after
  full games bytes to =
      let more = rest (endings.Full games bytes) to.imports in
      record {
        start = to.imports.start;
        batches = to.imports.batches;
        refused = to.imports.refused;
        goes = goes (endings.Full games bytes) to to.imports.stored_are to.imports.holds;
        full = full_in_all label to.imports.start games bytes stream to.imports.stream more.0 to.imports.source_after.left to.imports.batches to.imports.refused all more.1 more.2 to.imports.stands groups_are;
      }

  not_too_much : (bytes : ℕ) → ImportsInto (endings.TooMuch bytes) store file label before.host after.host → ⊥
  not_too_much bytes into =
      let more = rest (endings.TooMuch bytes) into in
      let long = ap (λ (l : List ℕ). length l) more.1 in
      omega (arith, told_file.below, into.stands.at, long, length-append into.stream more.0)

  so_into : (end : ImportEnding) → ImportsSo end store file label before after → ImportsInto end store file label before.host after.host
  so_into end (inl to) = to.imports
  so_into end (inr untold) = untold.imports

  refused_by : (fault : LogFault) → RefusesStore fault store before after → Comes store image file stream label all before after (refusal fault)
  refused_by fault by =
      let uses = by.0 in
      let handed = uses.hands.content ∙ told.disk in
      let host : after.host ≡ left_by store (Some image) before.host =
      used store (IsRefusedBy fault) before.host after.host uses well.faults
      ∙ ap (λ (o : Option (List ℕ)). left_by store o before.host) (uses.does.kept ∙ handed) in
      inr (inr (
        fault,
        refl,
        record {
          wrong = IfSome-at (IsWrong fault) uses.handed.content image handed uses.does.wrong;
          after_is = by.1 ∙ ap (λ (h : HostState). record before { host = h }) host;
        },
      ))

  comes : (ending : Ending) → HasMemory (status_of ending) before after → ImportsLabelled store file label before after ending → Comes store image file stream label all before after ending
  comes Done fed by = inl (refl, done by.0)
  comes (Stopped (faults.Full games bytes)) fed (inl to) = inr (inl (games, bytes, refl, full games bytes to))
  comes (Stopped (faults.Full games bytes)) fed (inr untold) = absurd (fed.1 refl (ap (λ (w : World). w.output) untold.only))
  comes (Stopped faults.NotAStore) fed by = refused_by log.NotALog by
  comes (Stopped (faults.OtherFormat number)) fed by = refused_by (log.OtherFormat number) by
  comes (Stopped (faults.Damaged gate)) fed by = refused_by (log.Damaged gate) by
  comes (Stopped faults.WriteFault) fed by = absurd (no_write_fails by.1)
  comes (Stopped faults.ReadFault) fed (first, last, so) =
      let into = so_into (endings.ReadFault first last) so in
      absurd (no_read (endings.ReadFault first last) into into.faults.1)
  comes (Stopped faults.TooMuchInput) fed (bytes, so) = absurd (not_too_much bytes (so_into (endings.TooMuch bytes) so))
  comes (Stopped faults.DiskFault) fed (inl by) = absurd (no_fault_unread by.0)
  comes (Stopped faults.DiskFault) fed (inr (first, last, so)) =
      let into = so_into (endings.DiskFault first last) so in
      absurd (no_call (endings.DiskFault first last) into into.faults.0)
  comes (Stopped (faults.CannotOpen name)) fed (inl by) = absurd (no_rise before.host.own_faults after.host.own_faults well.refusals told.refusals by.1.rises)
  comes (Stopped (faults.CannotOpen name)) fed (inr by) = absurd (no_file_refused store file before.host after.host by.1 well.refusals told.refusals)
  comes (Stopped faults.OutOfMemory) fed by = absurd (fed.0 refl)
  comes (Stopped faults.Usage) fed by = absurd by
  comes (Stopped (faults.BadParameter name)) fed by = absurd by
  comes (Stopped faults.BadLabel) fed by = absurd by
  comes (Stopped faults.SpillFault) fed by = absurd by
  comes (Stopped (faults.SpillDamaged part)) fed by = absurd by
  comes (Stopped faults.OpeningsTooLong) fed by = absurd by
  comes (Stopped (faults.BadOpenings row cause)) fed by = absurd by
  comes (Stopped (faults.NotEmpty size)) fed by = absurd by
  comes (Stopped faults.CannotAccept) fed by = absurd by

-- ---- two stores that are opened from one file

no_counts : (counts : Option (ℕ × ℕ)) → counts ≡ None → IsSome counts → ⊥
no_counts None is some = cc
no_counts (Some counts) is some = cc

module _ (label : List ℕ) (start other : Known) (is_open : start.fault ≡ None) (also_open : other.fault ≡ None) (journals : start.journal ≡ other.journal) (games_are : start.games ≡ other.games) where
  settled_in : (done : List (List Cut)) (batches : List Batch) (refused : List Refusal) → AreSettled label other done batches refused → AreSettled label start done batches refused
  settled_in done batches refused settled = record {
    accounted = subst (λ (g : List Game). Accounted label g done batches refused) (sym games_are) settled.accounted;
    closed = λ some. absurd (no_counts start.fault is_open some);
  }

  full_in : (games bytes : ℕ) (all : List (List Cut)) (batches : List Batch) (refused : List Refusal) → IsFullBehind label other games bytes all batches refused → IsFullBehind label start games bytes all batches refused
  full_in games bytes all batches refused (left, ends, full) = (
    left,
    record {
      done = ends.done;
      next = ends.next;
      rest = ends.rest;
      so_far_is = ends.so_far_is;
      earlier = ends.earlier;
      settled = settled_in ends.done batches ends.earlier ends.settled;
      known = ends.known;
      journal_is = ends.journal_is ∙ ap (λ (j : List Batch). j ++ batches) (sym journals);
      fault_is = ends.fault_is ∙ also_open ∙ sym is_open;
      examinations = ends.examinations;
      are_examinations = ends.are_examinations;
      left_are = ends.left_are;
      some_left = ends.some_left;
      refused_are = ends.refused_are;
    },
    subst (λ (j : List Batch). FindsNoRoom (j ++ batches) games bytes left) (sym journals) full,
  )

-- ---- two imports

abbrev Alike : List ℕ → World → World → Ending → Ending → Type 0
Alike store after other ending ending' = (ending ≡ ending') × ImportAlike store (status_of ending) after other

module _ (store image file stream label : List ℕ) (all : List (List Cut)) (groups_are : AreAllGroups (cuts stream) all) (before after other : World) (ending ending' : Ending) (one : OneGame) (accounts : OneAccount) (once : OneOpening) where
  module _ (start start' : Known) (batches batches' : List Batch) (refused refused' : List Refusal) (x : Goes store image start batches refused before after) (y : Goes store image start' batches' refused' before other) where
    journals : start.journal ≡ start'.journal
    journals = once.opened image start.journal start'.journal x.read y.read

    games_are : start.games ≡ start'.games
    games_are =
        let G : List Batch → Type 0 = λ j. AreGamesOf j start.games in
        same_games one (texts_of start'.journal) start.games start'.games (subst G journals start.are_games) start'.are_games

    alike : batches ≡ batches' → refused ≡ refused' → (status_of ending ≢ 8 → other.host.calls ≡ after.host.calls) → ImportAlike store (status_of ending) after other
    alike same also calls =
        let stored : start'.journal ++ batches' ≡ start.journal ++ batches = ap₂ (λ (j : List Batch) (b : List Batch). j ++ b) (sym journals) (sym same) in
        record {
          streams = record {
            input = y.input ∙ sym x.input;
            output = y.output ∙ ap₂ (λ (b : List Batch) (j : List Batch). wrote_behind before.output (totals_of b j)) (sym same) stored ∙ sym x.output;
            errors = y.errors ∙ ap (λ (r : List Refusal). wrote_behind before.errors (report r)) (sym also) ∙ sym x.errors;
          };
          disk = inr (
            start.journal ++ batches,
            x.holds,
            subst (λ (j : List Batch). IfSome (other.host.disks store) (HasJournal j)) stored y.holds,
          );
          calls = calls;
          rest = rest_alike store before.host after.host other.host x.host y.host;
        }

  not_refused : (start : Known) (batches : List Batch) (refused : List Refusal) (now : World) (fault : LogFault) → Goes store image start batches refused before now → IsWrong fault image → ⊥
  not_refused start batches refused now fault x wrong =
      once.either image start.journal fault x.read (sound_front start.journal batches x.sound) wrong

  refused_alike : after ≡ refused_in store image before → after ≡ other → ImportAlike store (status_of ending) after other
  refused_alike is same =
      let left = left_by store (Some image) before.host in
      let host : after.host ≡ with_disk store left.calls (Some image) before.host = ap (λ (w : World). w.host) is ∙ left_only store (Some image) before.host in
      let only = only_disk store left.calls (Some image) before.host after.host host in
      let only' = only_disk store left.calls (Some image) before.host other.host (ap (λ (w : World). w.host) (sym same) ∙ host) in
      record {
        streams = record {
          input = ap (λ (w : World). w.input) (sym same);
          output = ap (λ (w : World). w.output) (sym same);
          errors = ap (λ (w : World). w.errors) (sym same);
        };
        disk = inl (ap (λ (w : World). w.host.disks store) same);
        calls = λ differs. ap (λ (w : World). w.host.calls) (sym same);
        rest = rest_alike store before.host after.host other.host only only';
      }

  both_done : IsDone store image file stream label before after → IsDone store image file stream label before other → ImportAlike store (status_of ending) after other
  both_done x y =
      let same_start = games_are x.start y.start x.batches y.batches x.refused y.refused x.goes y.goes in
      let there = subst (λ (g : List Game). Accounted label g (groups (cuts stream)) y.batches y.refused) (sym same_start) y.accounted in
      alike x.start y.start x.batches y.batches x.refused y.refused x.goes y.goes
      (accounts.batches label x.start.games (groups (cuts stream)) x.batches y.batches x.refused y.refused x.accounted there)
      (accounts.refused label x.start.games (groups (cuts stream)) x.batches y.batches x.refused y.refused x.accounted there)
      (λ differs. y.calls ∙ sym x.calls)

  both_full : (games bytes games' bytes' : ℕ) → ending ≡ Stopped (faults.Full games bytes) → ending' ≡ Stopped (faults.Full games' bytes') → IsFull games bytes store image label all before after → IsFull games' bytes' store image label all before other
      → Alike store after other ending ending'
  both_full games bytes games' bytes' is is' x y =
      let journal = journals x.start y.start x.batches y.batches x.refused y.refused x.goes y.goes in
      let same_start = games_are x.start y.start x.batches y.batches x.refused y.refused x.goes y.goes in
      let there = full_in label x.start y.start x.goes.is_open y.goes.is_open journal same_start games' bytes' all y.batches y.refused y.full in
      let sound = subst (λ (j : List Batch). IsSound (j ++ y.batches)) (sym journal) y.goes.sound in
      let same = one_full_behind label x.start x.goes.is_open games bytes games' bytes' all x.batches y.batches x.refused y.refused one accounts x.full there x.goes.sound sound in (
        is ∙ ap₂ (λ (g : ℕ) (b : ℕ). Stopped (faults.Full g b)) same.0 same.1 ∙ sym is',
        alike x.start y.start x.batches y.batches x.refused y.refused x.goes y.goes same.2 same.3 (λ differs. absurd (differs (ap status_of is))),
      )

done_and_full : (store image file stream label : List ℕ) (all : List (List Cut)) (before after other : World) (games bytes : ℕ) → AreAllGroups (cuts stream) all → OneGame → OneAccount → OneOpening → IsDone store image file stream label before after
    → IsFull games bytes store image label all before other → ⊥
done_and_full store image file stream label all before after other games bytes groups_are one accounts once x y =
    let journal = once.opened image x.start.journal y.start.journal x.goes.read y.goes.read in
    let G : List Batch → Type 0 = λ j. AreGamesOf j x.start.games in
    let same_start = same_games one (texts_of y.start.journal) x.start.games y.start.games (subst G journal x.start.are_games) y.start.are_games in
    let there = full_in label x.start y.start x.goes.is_open y.goes.is_open journal same_start games bytes all y.batches y.refused y.full in
    done_or_full label x.start x.goes.is_open stream all games bytes y.batches x.batches y.refused x.refused one accounts x.accounted x.goes.sound.within groups_are there

module _ (store image file stream label : List ℕ) (all : List (List Cut)) (groups_are : AreAllGroups (cuts stream) all) (before after other : World) (ending ending' : Ending) (one : OneGame) (accounts : OneAccount) (once : OneOpening) where
  same_coming : Comes store image file stream label all before after ending → Comes store image file stream label all before other ending' → Alike store after other ending ending'
  same_coming (inl (is, x)) (inl (is', y)) =
      (is ∙ sym is', both_done store image file stream label all groups_are before after other ending ending' one accounts once x y)
  same_coming (inl (is, x)) (inr (inl (games, bytes, is', y))) =
      absurd (done_and_full store image file stream label all before after other games bytes groups_are one accounts once x y)
  same_coming (inl (is, x)) (inr (inr (fault, is', y))) =
      absurd (not_refused store image file stream label all groups_are before after other ending ending' one accounts once x.start x.batches x.refused after fault x.goes y.wrong)
  same_coming (inr (inl (games, bytes, is, x))) (inl (is', y)) =
      absurd (done_and_full store image file stream label all before other after games bytes groups_are one accounts once y x)
  same_coming (inr (inl (games, bytes, is, x))) (inr (inl (games', bytes', is', y))) =
      both_full store image file stream label all groups_are before after other ending ending' one accounts once games bytes games' bytes' is is' x y
  same_coming (inr (inl (games, bytes, is, x))) (inr (inr (fault, is', y))) =
      absurd (not_refused store image file stream label all groups_are before after other ending ending' one accounts once x.start x.batches x.refused after fault x.goes y.wrong)
  same_coming (inr (inr (fault, is, x))) (inl (is', y)) =
      absurd (not_refused store image file stream label all groups_are before after other ending ending' one accounts once y.start y.batches y.refused other fault y.goes x.wrong)
  same_coming (inr (inr (fault, is, x))) (inr (inl (games, bytes, is', y))) =
      absurd (not_refused store image file stream label all groups_are before after other ending ending' one accounts once y.start y.batches y.refused other fault y.goes x.wrong)
  same_coming (inr (inr (fault, is, x))) (inr (inr (fault', is', y))) = (
    is ∙ ap refusal (once.refused image fault fault' x.wrong y.wrong) ∙ sym is',
    refused_alike store image file stream label all groups_are before after other ending ending' one accounts once x.after_is (x.after_is ∙ sym y.after_is),
  )

-- both left all as it was
unchanged : (store : List ℕ) (status : ℕ) (after other : World) → after ≡ other → ImportAlike store status after other
unchanged store status after other is = subst (λ (w : World). ImportAlike store status after w) is (record {
  streams = record { input = refl; output = refl; errors = refl };
  disk = inl refl;
  calls = λ differs. refl;
  rest = λ i. record after.host { disks = sym (put_same store after.host.disks) i };
})

pub one_import : (store image file stream label : List ℕ) (before after other : World) (ending ending' : Ending) → OneGame → OneAccount → OneOpening → IsToldStore store image before → IsToldFile file stream before → IsToldErrors before
    → GoesWell before after → ReadsWell before after → ReportsWell before after → GoesWell before other → ReadsWell before other → ReportsWell before other → HasMemory (status_of ending) before after → HasMemory (status_of ending') before other
    → ImportsBy store file label before after ending → ImportsBy store file label before other ending' → Alike store after other ending ending'
one_import store image file stream label before after other ending ending' one accounts once told told_file told_errors well reads reports well' reads' reports' fed fed' = by_label
  where
    both : ImportsLabelled store file label before after ending → ImportsLabelled store file label before other ending' → Alike store after other ending ending'
    both by by' =
        let parts = in_groups (cuts stream) in
        let all = parts.whole ++ parts.hand ∷ [] in
        let groups_are : AreAllGroups (cuts stream) all = record { whole = parts.whole; hand = parts.hand; in_groups = parts.are; all_are = refl } in
        same_coming store image file stream label all groups_are before after other ending ending' one accounts once
        (comes store image file stream label all groups_are before after told told_file told_errors well reads reports ending fed by)
        (comes store image file stream label all groups_are before other told told_file told_errors well' reads' reports' ending' fed' by')

    by_label : ImportsBy store file label before after ending → ImportsBy store file label before other ending' → Alike store after other ending ending'
    by_label (inl (none, is, same)) (inl (none', is', same')) = (is ∙ sym is', unchanged store (status_of ending) after other (same ∙ sym same'))
    by_label (inl (none, is, same)) (inr (given, by)) = absurd (both_ways (is_label label) none given)
    by_label (inr (given, by)) (inl (none, is, same)) = absurd (both_ways (is_label label) none given)
    by_label (inr (given, by)) (inr (given', by')) = both by by'
