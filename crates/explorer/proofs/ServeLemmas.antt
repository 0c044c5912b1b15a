-- A run of the command `serve`, from the moments between its calls.
pub mod Brackets
pub mod Handed
pub mod HostCalls
pub mod Served
pub mod WorkerLists
pub mod Drawers
pub mod Send
use Rattle.std.proofs.Common.{◌≡◌, ◌⊎◌, Bool, true, false, ℕ, zero, suc, replicate, ◌+◌, ◌-◌, ◌<◌, ◌≤◌, List, [], ◌∷◌, ◌++◌, Option, None, Some, IfSome, length, map, slice_get, refl, sym, ap, subst, ◌∙◌, append_assoc, append-nil, inl, inr, arith, string_bytes}
use Rattle.std.proofs.lemmas.Bool.{cases_Bool}
use Rattle.std.specs.Prelude.{if◌then◌else◌, ◌≢◌, Result, Ok, Err, unwrap_or}
use Rattle.std.specs.List.{All, AllByRecursion, AllZip}
use Rattle.std.specs.Option.{option_map, option_or}
use Rattle.std.specs.Str.{bytes_eq}
use Rattle.std.proofs.lemmas.List.Elements.{All-weaker}
use Rattle.std.proofs.lemmas.List.Concat.{flat_map-append}
use Rattle.plain_laws.specs.Bytes.{bytes_eq-is, bytes_eq-self}
use Rattle.plain_laws.specs.Options.{IfSome-from}
use Rattle.disk_model.specs.Disk.{DiskState, MayLeave}
use Rattle.outside.specs.Doors.{Connections}
use Rattle.outside.specs.Stream.{Rises, Stream, Writes, Wrote, source_alone}
use Rattle.outside.proofs.StreamLemmas.{takes-faults, writes-fails, writes-takes}
use Rattle.host.specs.Hosts.{ADisk, ADoor, AFile, APort, AreFresh, DiskBack, DiskOut, DiskRefused, DoorBack, DoorsOut, GivesBack, HandsDisk, HostCall, HostState, IsOut, RefusesDisk, TakesDisk, Thing, added, handed, noted, one_if, out, returned}
use Rattle.explorer_model.specs.declared.archive.Batch.{Batch}
use Rattle.explorer_model.specs.declared.fault.Refusal.{Refusal}
use Rattle.explorer_model.specs.declared.fault.Why.{Why}
use Rattle.explorer_model.specs.declared.fault.Why.TheVariants.{Game, Preamble, Repeated, TooLong, Twice}
use Rattle.explorer_model.specs.Cuts.{Cut, cuts}
use Rattle.explorer_model.specs.Journal.{IsSound}
use Rattle.explorer_model.specs.Openings.{NamedPosition}
use Rattle.explorer_model.specs.Timeline.{IsPrefix}
use Rattle.explorer_model.specs.Visits.{texts_of}
use Rattle.explorer_model.proofs.Timelines.{prefix-self, prefix-trans}
use Rattle.explorer_model.specs.declared.store.LogFault.{LogFault}
use Rattle.explorer_model.specs.declared.store.LogFault.TheVariants as logs
use Rattle.record_log.specs.declared.fault.OpenFault.{OpenFault}
use Rattle.record_log.specs.declared.fault.OpenFault.TheVariants as openings
use Rattle.ingest_desk.specs.Openings.{IsNotOpened, IsWrong}
use Rattle.published_index.specs.Cover.{journal_of}
use Rattle.published_index.specs.Places.{Drawing, new_drawing}
use Rattle.published_index.specs.States.{Watching, watching}
use Rattle.ingest_desk.specs.Drawn.{most_untold}
use Rattle.ingest_desk.specs.Stored.{Nameless, Stored, journal, stored_by}
use Rattle.explorer.specs.declared.serve.serving.Done as came
use Rattle.explorer.specs.declared.serve.serving.Outcome.{Outcome}
use Rattle.explorer.specs.declared.serve.serving.Unserved.{Unserved}
use Rattle.explorer.specs.declared.serve.serving.Unserved.TheVariants as whys
use Rattle.explorer.specs.declared.serve.serving.Outcome.TheVariants as outcomes
use Rattle.explorer.specs.Faults.{fault_of_opening}
use Rattle.record_log.specs.Log.{Log}
use Rattle.manifest.specs.Manifest.{HasJournal, IsWithOrWithoutBatch}
use Rattle.ingest_desk.specs.Kept.{Keeps, KeepsBy}
use Rattle.ingest_desk.specs.Lives.{StandFrom}
use Rattle.ingest_desk.specs.declared.report.ImportEnding.{ImportEnding}
use Rattle.ingest_desk.specs.declared.report.ImportEnding.TheVariants as endings
use Rattle.session.specs.declared.doors.DoorEnd.{DoorEnd}
use Rattle.session.specs.declared.doors.DoorEnd.TheVariants as door_ends
use Rattle.session.specs.Imports.{DrewPlacesOf, HasStoredBody, IsRepeatOf}
use Rattle.session.proofs.FrontLemmas.{get-prefix}
use Rattle.explorer.specs.declared.fault.Fault.{Fault}
use Rattle.explorer.specs.declared.fault.Fault.TheVariants as faults
use Rattle.explorer.specs.Serve.Concluding.{Concludes, EndsBy, TellsLonger, cause}
use Rattle.explorer.specs.Lines.{Ending, Stopped}
use Rattle.explorer.specs.Serve.{FailsBy, GoesOn, HasNoStore, HasStore, IsServed, IsWorkedTo, Listens, MayReport, RefusesAddress, RefusesOneFile, Reports, Serves, ServesAll, ServesBy, listening_line}
use Rattle.explorer.specs.Serve.Served.{DoorRun, FileRun, FindsFull, IsFullBy, IsGivenUp, IsImported, IsKeptIn, IsSeenIn, IsServedIn, IsStoredIn, IsWorked, KeepsOthers, Service, fault_of_door, fault_of_doors, fault_of_import, file_at, files_back, files_out, first_fault, opening_calls, serve_report}
use Rattle.explorer.specs.Serve.Serving.{AreCounted, FilesServed, HasGivenUp, HasWorked, IsGivenUpSo, IsToldBy, ListensSo, WroteLine, lines_told}
use Rattle.explorer.specs.Serve.Workers.{name_at}
use Rattle.explorer.specs.World.{World, world}
use Rattle.explorer.proofs.ServeLemmas.Brackets.{added-both}

-- ---- a disk that is out, and comes back

step-call : (thing : Thing) (call : HostCall) (calls : Option (List HostCall))
    → option_map (out thing) (noted call calls)
    ≡ option_map (λ (n : ℕ). n + handed thing call - returned thing call) (option_map (out thing) calls)
step-call thing call None = refl
step-call thing call (Some earlier) = refl

net-by : (k n : ℕ) → n + k - 0 + 0 - k ≡ n
net-by k n = omega arith

net-none : (n : ℕ) → n + 0 - 0 + 0 - 0 ≡ n
net-none n = omega arith

net : (thing : Thing) (name : List ℕ) (n : ℕ)
    → n + handed thing (DiskOut name) - returned thing (DiskOut name) + handed thing (DiskBack name) - returned thing (DiskBack name) ≡ n
net (ADisk other) name n = net-by (one_if (bytes_eq other name)) n
net (AFile other) name n = net-none n
net ADoor name n = net-none n
net (APort other) name n = net-none n

same-count : (thing : Thing) (f : ℕ → ℕ) (calls : Option (List HostCall)) → ((n : ℕ) → f n ≡ n)
    → option_map f (option_map (out thing) calls) ≡ option_map (out thing) calls
same-count thing f None same = refl
same-count thing f (Some earlier) same = ap (λ (n : ℕ). Some n) (same (out thing earlier))

twice : (thing : Thing) (f h : ℕ → ℕ) (calls : Option (List HostCall)) → ((n : ℕ) → h (f n) ≡ n)
    → option_map h (option_map f (option_map (out thing) calls)) ≡ option_map (out thing) calls
twice thing f h None same = refl
twice thing f h (Some earlier) same = ap (λ (n : ℕ). Some n) (same (out thing earlier))

pub round-gives-back : (name : List ℕ) (before lent used after : HostState) → lent.calls ≡ noted (DiskOut name) before.calls
    → GivesBack lent used → after.calls ≡ noted (DiskBack name) used.calls → GivesBack before after
round-gives-back name before lent used after o g b = λ thing.
    let back : ℕ → ℕ = λ (n : ℕ). n + handed thing (DiskBack name) - returned thing (DiskBack name) in
    let away : ℕ → ℕ = λ (n : ℕ). n + handed thing (DiskOut name) - returned thing (DiskOut name) in
    ap (λ (c : Option (List HostCall)). option_map (out thing) c) b
    ∙ (step-call thing (DiskBack name) used.calls
    ∙ (ap (λ (n : Option ℕ). option_map back n) (g thing)
    ∙ (ap (λ (c : Option (List HostCall)). option_map back (option_map (out thing) c)) o
    ∙ (ap (λ (n : Option ℕ). option_map back n) (step-call thing (DiskOut name) before.calls)
    ∙ twice thing away back before.calls (net thing name)))))

idle-disk : (thing : Thing) (name : List ℕ) (n : ℕ) → n + handed thing (DiskRefused name) - returned thing (DiskRefused name) ≡ n
idle-disk (ADisk other) name n = omega arith
idle-disk (AFile other) name n = omega arith
idle-disk ADoor name n = omega arith
idle-disk (APort other) name n = omega arith

refused-by : (name : List ℕ) (before after : HostState)
    → (after.calls ≡ noted (DiskRefused name) before.calls) ⊎ (after.calls ≡ before.calls) → GivesBack before after
refused-by name before after (inl is) = λ thing.
    ap (λ (c : Option (List HostCall)). option_map (out thing) c) is
    ∙ (step-call thing (DiskRefused name) before.calls
    ∙ same-count thing (λ (n : ℕ). n + handed thing (DiskRefused name) - returned thing (DiskRefused name)) before.calls (idle-disk thing name))
refused-by name before after (inr is) = λ thing. ap (λ (c : Option (List HostCall)). option_map (out thing) c) is

pub refused-gives-back : (name : List ℕ) (before after : HostState) → RefusesDisk name before after → GivesBack before after
refused-gives-back name before after refuses = refused-by name before after refuses.calls

abbrev count-of : Option ℕ → ℕ
count-of None = 0
count-of (Some n) = n

abbrev IsNone : Option ℕ → Type 0
IsNone None = Unit {0}
IsNone (Some n) = ⊥

still-out : (thing : Thing) (old new : Option (List HostCall)) → option_map (out thing) new ≡ option_map (out thing) old
    → IfSome old (λ calls. 0 < out thing calls) → IfSome new (λ calls. 0 < out thing calls)
still-out thing old None same o = tt
still-out thing None (Some calls) same o = absurd (subst IsNone (sym same) tt)
still-out thing (Some earlier) (Some calls) same o =
    let even : out thing calls ≡ out thing earlier = ap count-of same in
    omega (arith, o, even)

-- what is out stays out
pub is-still-out : (thing : Thing) (before after : HostState) → GivesBack before after → IsOut thing before → IsOut thing after
is-still-out thing before after g o = still-out thing before.calls after.calls (g thing) o

pub content-back : (name : List ℕ) (disk : DiskState) (before after : HostState) → TakesDisk name disk before after
    → after.disks name ≡ disk.content
content-back name disk before after takes =
    ap (λ (h : HostState). h.disks name) takes.rest
    ∙ ap (λ (b : Bool). if b then disk.content else before.disks name) (bytes_eq-self name)

different_bytes : (name other : List ℕ) → name ≢ other → bytes_eq name other ≡ false
different_bytes name other differs = by (cases_Bool (bytes_eq name other))
  where
    by : (bytes_eq name other ≡ true) ⊎ (bytes_eq name other ≡ false) → bytes_eq name other ≡ false
    by (inl same) = absurd (differs (bytes_eq-is name other same))
    by (inr apart) = apart

-- ---- a store whose disk was out meanwhile

module _ (service : Service) (before lent used after : HostState) (given returns : DiskState)
    (hands : HandsDisk service.store given before lent) (takes : TakesDisk service.store returns used after) where
  calls-round : (calls : List HostCall) → used.calls ≡ added calls lent.calls
      → after.calls ≡ added (DiskBack service.store ∷ (calls ++ DiskOut service.store ∷ [])) before.calls
  calls-round calls is =
      ap (λ (h : HostState). h.calls) takes.rest
      ∙ ap (λ (c : Option (List HostCall)). noted (DiskBack service.store) c)
      (is ∙ (ap (λ (h : HostState). added calls h.calls) hands.rest
      ∙ sym (added-both calls (DiskOut service.store ∷ []) before.calls)))

  pub rounds : GivesBack lent used → GivesBack before after
  rounds g = round-gives-back service.store before lent used after (ap (λ (h : HostState). h.calls) hands.rest) g
      (ap (λ (h : HostState). h.calls) takes.rest)

  keeps-others : used.disks ≡ lent.disks → KeepsOthers service.store before after
  keeps-others same name differs =
      let apart = different_bytes name service.store differs in
      ap (λ (h : HostState). h.disks name) takes.rest
      ∙ (ap (λ (b : Bool). if b then returns.content else used.disks name) apart
      ∙ (ap (λ (at : List ℕ → Option (List ℕ)). at name) same
      ∙ (ap (λ (h : HostState). h.disks name) hands.rest
      ∙ ap (λ (b : Bool). if b then None else before.disks name) apart)))

  pub is-given-up : (names : List (List ℕ)) (refusal : List HostCall)
      → used.calls ≡ added (files_back names (map (file_at lent) names) ++ (refusal ++ files_out names)) lent.calls
      → returns.content ≡ given.content → used.disks ≡ lent.disks → IsGivenUp service names refusal before after
  is-given-up names refusal is same disks =
      let files : List Stream = map (file_at lent) names in
      let stood : files ≡ map (file_at before) names =
      ap (λ (at : List ℕ → Option (List ℕ)). map (λ (name : List ℕ). source_alone (at name) 0 0) names) (ap (λ (h : HostState). h.files) hands.rest) in
      let tail : List HostCall = DiskOut service.store ∷ [] in
      let order : (files_back names files ++ (refusal ++ files_out names)) ++ tail
      ≡ files_back names files ++ (refusal ++ (files_out names ++ tail)) =
      append_assoc (files_back names files) (refusal ++ files_out names) tail
      ∙ ap (λ (cs : List HostCall). files_back names files ++ cs) (append_assoc refusal (files_out names) tail) in
      record {
        called = calls-round (files_back names files ++ (refusal ++ files_out names)) is
            ∙ (ap (λ (cs : List HostCall). added (DiskBack service.store ∷ cs) before.calls) order
            ∙ ap (λ (fs : List Stream). added (opening_calls service names fs refusal) before.calls) stood);
        kept = content-back service.store returns used after takes ∙ (same ∙ hands.content);
        others = keeps-others disks;
      }

  own-rises : Rises lent.own_faults used.own_faults → Rises before.own_faults after.own_faults
  own-rises r =
      subst (λ (n : ℕ). Rises before.own_faults n) (sym (ap (λ (h : HostState). h.own_faults) takes.rest))
      (subst (λ (n : ℕ). Rises n used.own_faults) (ap (λ (h : HostState). h.own_faults) hands.rest) r)

  pub own-same : used.own_faults ≡ lent.own_faults → after.own_faults ≡ before.own_faults
  own-same same = ap (λ (h : HostState). h.own_faults) takes.rest ∙ (same ∙ ap (λ (h : HostState). h.own_faults) hands.rest)

  pub disk-rises : used.disk_faults ≡ lent.disk_faults → 0 < returns.faults → Rises before.disk_faults after.disk_faults
  disk-rises same some =
      subst (λ (n : ℕ). Rises n after.disk_faults) (same ∙ ap (λ (h : HostState). h.disk_faults) hands.rest)
      (takes.counts.rises some)

  pub disk-stays : used.disk_faults ≡ lent.disk_faults → returns.faults ≡ 0 → after.disk_faults ≡ before.disk_faults
  disk-stays same none = takes.counts.same none ∙ (same ∙ ap (λ (h : HostState). h.disk_faults) hands.rest)

  has-store : (opening : List Batch) → IfSome given.content (HasJournal opening) → IsSound opening → HasStore service before
  has-store opening read sound = record {
    journal = opening;
    told = subst (λ (c : Option (List ℕ)). IfSome c (HasJournal opening)) hands.content read;
    sound = sound;
  }

  -- no door was handed out
  no-file : (opening : List Batch) (at : ℕ) → IfSome given.content (HasJournal opening) → IsSound opening → HasGivenUp service (whys.NoFile at) lent used
      → returns.content ≡ given.content → RefusesOneFile service (name_at service.files at) before after
  no-file opening at read sound h same = record {
    store = has-store opening read sound;
    names = h.names;
    next = h.cause.1;
    refusal = h.refusal;
    noted = h.cause.2;
    given_up = is-given-up h.names h.refusal h.calls same h.disks;
    rises = own-rises h.cause.0;
  }

  no-address : (opening : List Batch) → IfSome given.content (HasJournal opening) → IsSound opening → HasGivenUp service whys.NoAddress lent used
      → returns.content ≡ given.content → RefusesAddress service before after
  no-address opening read sound h same = record {
    store = has-store opening read sound;
    refusal = h.refusal;
    noted = h.cause.2;
    given_up = subst (λ (ns : List (List ℕ)). IsGivenUp service ns h.refusal before after) h.cause.1
        (is-given-up h.names h.refusal h.calls same h.disks);
    rises = own-rises h.cause.0;
  }

  no-memory : HasGivenUp service whys.NoMemory lent used → returns.content ≡ given.content → IsGivenUp service service.files [] before after
  no-memory h same =
      subst (λ (ns : List (List ℕ)). IsGivenUp service ns [] before after) h.cause.0
      (subst (λ (cs : List HostCall). IsGivenUp service h.names cs before after) h.cause.1
      (is-given-up h.names h.refusal h.calls same h.disks))

  pub gives-up : (errors output input : Stream) (opening : List Batch) (why : Unserved) (fault : Fault) → IfSome given.content (HasJournal opening)
      → IsSound opening → HasGivenUp service why lent used → returns.content ≡ given.content → returns.faults ≡ 0 → IsToldBy service why fault
      → ServesBy service (world input output errors before) (world input output errors after) (Stopped fault)
  gives-up errors output input opening (whys.NoFile at) fault read sound h same none told =
      subst (λ (f : Fault). ServesBy service (world input output errors before) (world input output errors after) (Stopped f)) (sym told.1)
      (inr (inl (rw told.2 (no-file opening at read sound h same))), refl)
  gives-up errors output input opening whys.NoAddress fault read sound h same none told =
      subst (λ (f : Fault). ServesBy service (world input output errors before) (world input output errors after) (Stopped f)) (sym told.1)
      (inr (inr (told.2, no-address opening read sound h same)), refl)
  gives-up errors output input opening whys.NoMemory fault read sound h same none told =
      subst (λ (f : Fault). ServesBy service (world input output errors before) (world input output errors after) (Stopped f)) (sym told)
      (inl (record {
        names = service.files;
        front = prefix-self service.files;
        given_up = no-memory h same;
        silent = refl;
        disk = disk-stays h.disk_faults none;
        own = own-same h.cause.2;
      }))

  -- doors were handed out and served
  pub is-worked : (opening journal : List Batch) (first : Option Fault) (lines : Option (List ℕ))
      → HasWorked service opening journal first lines lent used → IfSome given.content (HasJournal opening)
      → IsSound opening → IsWorked service before after
  is-worked opening journal first lines w read sound =
      let files : w.middle.files ≡ before.files = w.files ∙ ap (λ (h : HostState). h.files) hands.rest in
      let fs : List HostCall = files_back service.files (map (λ (run : FileRun). run.file) w.over.files) in
      let ds : List HostCall = map (λ (run : DoorRun). DoorBack run.connections) w.over.doors in
      let outs : List HostCall = DoorsOut service.address service.readers service.connections ∷ files_out service.files in
      let tail : List HostCall = DiskOut service.store ∷ [] in
      let is : used.calls ≡ added ((fs ++ ds) ++ outs) lent.calls =
      w.over.calls ∙ (ap (λ (c : Option (List HostCall)). added (fs ++ ds) c) w.out ∙ sym (added-both (fs ++ ds) outs lent.calls)) in
      let order : ((fs ++ ds) ++ outs) ++ tail ≡ fs ++ (ds ++ (outs ++ tail)) =
      append_assoc (fs ++ ds) outs tail ∙ append_assoc fs ds (outs ++ tail) in
      record {
        opening = opening;
        told = subst (λ (c : Option (List ℕ)). IfSome c (HasJournal opening)) hands.content read;
        sound = sound;
        files = w.over.files;
        imported = subst (λ (at : List ℕ → Option (List ℕ)). AllZip IsImported (map (λ (name : List ℕ). source_alone (at name) 0 0) service.files) w.over.files)
            files w.over.imported;
        handed = w.handed;
        are_fresh = subst (λ (ls : List ℕ → ℕ → Option (List Stream)). AreFresh service.readers service.connections (ls service.address) w.handed)
            (ap (λ (h : HostState). h.links) hands.rest) w.are_fresh;
        doors = w.over.doors;
        served = w.over.served;
        called = calls-round ((fs ++ ds) ++ outs) is
            ∙ ap (λ (cs : List HostCall). added (DiskBack service.store ∷ cs) before.calls) order;
        others = keeps-others (w.over.disks ∙ w.disks);
      }

-- ---- a journal that goes on

prefix-nil : {A : Type 0} (xs : List A) → IsPrefix [] xs
prefix-nil xs = record { rest = xs; is = refl }

texts-prefix : (front journal : List Batch) → IsPrefix front journal → IsPrefix (texts_of front) (texts_of journal)
texts-prefix front journal p = record {
  rest = texts_of p.rest;
  is = ap texts_of p.is ∙ flat_map-append (λ batch. batch.texts) front p.rest;
}

stands-longer : (least : ℕ) (front journal : List Batch) (batches : List Batch) → IsPrefix front journal
    → StandFrom least front batches → StandFrom least journal batches
stands-longer least front journal [] p s = tt
stands-longer least front journal (b ∷ bs) p s =
    (s.0, s.1, get-prefix front journal s.0 b p s.2, stands-longer (s.0 + 1) front journal bs p s.3)

repeat-longer : (cuts : List Cut) (place : ℕ) (why : Why) (front journal : List Batch) → IsPrefix front journal
    → IsRepeatOf cuts front place why → IsRepeatOf cuts journal place why
repeat-longer cuts place Preamble front journal p r = tt
repeat-longer cuts place (TooLong n) front journal p r = tt
repeat-longer cuts place (Game fault) front journal p r = tt
repeat-longer cuts place (Twice first) front journal p r = tt
repeat-longer cuts place (Repeated number) front journal p r = record {
  text = r.text;
  stands = r.stands;
  game = r.game;
  is_game = r.is_game;
  earlier_text = r.earlier_text;
  stored = get-prefix (texts_of front) (texts_of journal) number r.earlier_text (texts-prefix front journal p) r.stored;
  earlier = r.earlier;
  is_earlier = r.is_earlier;
  same_id = r.same_id;
}

repeats-longer : (cuts : List Cut) (refused : List Refusal) (front journal : List Batch) → IsPrefix front journal
    → All (λ r. IsRepeatOf cuts front r.place r.why) refused → All (λ r. IsRepeatOf cuts journal r.place r.why) refused
repeats-longer cuts refused front journal p each =
    All-weaker (λ r. IsRepeatOf cuts front r.place r.why) (λ r. IsRepeatOf cuts journal r.place r.why)
    (λ r. repeat-longer cuts r.place r.why front journal p) refused each

body-longer : (front journal : List Batch) (body : List ℕ) (games : ℕ) (refused : List Refusal) → IsPrefix front journal
    → HasStoredBody front body games refused → HasStoredBody journal body games refused
body-longer front journal body games refused p h = record {
  batches = h.batches;
  stand = stands-longer 0 front journal h.batches p h.stand;
  count = h.count;
  accounted = h.accounted;
  repeats = repeats-longer (cuts body) refused front journal p h.repeats;
}

drawn-longer : (front journal : List Batch) (places : List ℕ) (batches : List Batch) → IsPrefix front journal
    → AllZip (λ place batch. slice_get front place ≡ Some batch) places batches
    → AllZip (λ place batch. slice_get journal place ≡ Some batch) places batches
drawn-longer front journal [] [] p all = tt
drawn-longer front journal [] (b ∷ bs) p all = absurd all
drawn-longer front journal (n ∷ ns) [] p all = absurd all
drawn-longer front journal (n ∷ ns) (b ∷ bs) p all =
    (get-prefix front journal n b p all.0, drawn-longer front journal ns bs p all.1)

drew-longer : (most : ℕ) (front journal batches : List Batch) (before after : Drawing) → IsPrefix front journal
    → DrewPlacesOf most front batches before after → DrewPlacesOf most journal batches before after
drew-longer most front journal batches before after p d = record {
  places = d.places;
  stand = drawn-longer front journal d.places batches p d.stand;
  untold = d.untold;
  few = d.few;
  drawn = d.drawn;
}

kept-longer : (front journal : List Batch) (files : List Stream) (runs : List FileRun) → IsPrefix front journal
    → AllZip (IsKeptIn front) files runs → AllZip (IsKeptIn journal) files runs
kept-longer front journal [] [] p all = tt
kept-longer front journal [] (r ∷ rs) p all = absurd all
kept-longer front journal (f ∷ fs) [] p all = absurd all
kept-longer front journal (f ∷ fs) (r ∷ rs) p all = (
  record {
    imported = all.0.imported;
    stand = stands-longer 0 front journal all.0.imported.batches p all.0.stand;
    drawn = drew-longer (most_untold r.ending) front journal all.0.imported.batches new_drawing r.drawing p all.0.drawn;
    repeats = repeats-longer (cuts all.0.imported.stream) r.refused front journal p all.0.repeats;
  },
  kept-longer front journal fs rs p all.1,
)

stored-longer : (front journal : List Batch) (files : List Stream) (runs : List FileRun) → IsPrefix front journal
    → AllZip (IsStoredIn front) files runs → AllZip (IsStoredIn journal) files runs
stored-longer front journal [] [] p all = tt
stored-longer front journal [] (r ∷ rs) p all = absurd all
stored-longer front journal (f ∷ fs) [] p all = absurd all
stored-longer front journal (f ∷ fs) (r ∷ rs) p all = (
  record {
    whole = all.0.whole;
    stream = all.0.stream;
    reads = all.0.reads;
    at_end = all.0.at_end;
    below = all.0.below;
    games = all.0.games;
    stored = body-longer front journal all.0.stream all.0.games r.refused p all.0.stored;
  },
  stored-longer front journal fs rs p all.1,
)

full-by-longer : (ending : ImportEnding) (front journal : List Batch) (file : Stream) (run : FileRun) → IsPrefix front journal
    → IsFullBy ending front file run → IsFullBy ending journal file run
full-by-longer endings.Whole front journal file run p f = tt
full-by-longer (endings.ReadFault before after) front journal file run p f = tt
full-by-longer (endings.DiskFault before after) front journal file run p f = tt
full-by-longer (endings.Closed before after) front journal file run p f = tt
full-by-longer (endings.Full games bytes) front journal file run p f = record {
  stream = f.stream;
  reads = f.reads;
  batches = f.batches;
  left = f.left;
  breaks = f.breaks;
  no_room = record {
    front = f.no_room.front;
    is_front = prefix-trans f.no_room.front front journal f.no_room.is_front p;
    no_room = f.no_room.no_room;
  };
}
full-by-longer (endings.TooMuch bytes) front journal file run p f = tt
full-by-longer endings.OutOfMemory front journal file run p f = tt

full-longer : (front journal : List Batch) (files : List Stream) (runs : List FileRun) → IsPrefix front journal
    → AllZip (FindsFull front) files runs → AllZip (FindsFull journal) files runs
full-longer front journal [] [] p all = tt
full-longer front journal [] (r ∷ rs) p all = absurd all
full-longer front journal (f ∷ fs) [] p all = absurd all
full-longer front journal (f ∷ fs) (r ∷ rs) p all =
    (full-by-longer r.ending front journal f r p all.0, full-longer front journal fs rs p all.1)

served-longer : (book : List NamedPosition) (opening front journal : List Batch) (doors : List Connections) (runs : List DoorRun) → IsPrefix front journal
    → AllZip (IsServedIn book opening front) doors runs → AllZip (IsServedIn book opening journal) doors runs
served-longer book opening front journal [] [] p all = tt
served-longer book opening front journal [] (r ∷ rs) p all = absurd all
served-longer book opening front journal (d ∷ ds) [] p all = absurd all
served-longer book opening front journal (d ∷ ds) (r ∷ rs) p all = (
  record {
    from = all.0.from;
    whole = all.0.whole;
    none_left = all.0.none_left;
    front = prefix-trans all.0.from.last.pass.seen front journal all.0.front p;
  },
  served-longer book opening front journal ds rs p all.1,
)

seen-longer : (book : List NamedPosition) (opening front journal : List Batch) (doors : List Connections) (runs : List DoorRun) → IsPrefix front journal
    → AllZip (IsSeenIn book opening front) doors runs → AllZip (IsSeenIn book opening journal) doors runs
seen-longer book opening front journal [] [] p all = tt
seen-longer book opening front journal [] (r ∷ rs) p all = absurd all
seen-longer book opening front journal (d ∷ ds) [] p all = absurd all
seen-longer book opening front journal (d ∷ ds) (r ∷ rs) p all = (
  record { from = all.0.from; front = prefix-trans all.0.from.last.pass.seen front journal all.0.front p },
  seen-longer book opening front journal ds rs p all.1,
)

-- what any reader saw begins with the opening
begins-with : (book : List NamedPosition) (opening journal : List Batch) (doors : List Connections) (runs : List DoorRun) → 1 ≤ length doors
    → AllZip (IsSeenIn book opening journal) doors runs → IsPrefix opening journal
begins-with book opening journal [] runs some all = absurd (omega (arith, some))
begins-with book opening journal (d ∷ ds) [] some all = absurd all
begins-with book opening journal (d ∷ ds) (r ∷ rs) some all =
    prefix-trans opening all.0.from.last.pass.seen journal all.0.from.begins all.0.front

-- ---- the journal that a disk tells

none-behind : (journal : List Batch) → IsSound journal → IsSound (journal ++ [])
none-behind journal sound = subst IsSound (sym (append-nil journal)) sound

tells-same : (journal : List Batch) (content : Option (List ℕ)) → IfSome content (HasJournal journal)
    → IfSome content (HasJournal (journal ++ []))
tells-same journal content tells = subst (λ (j : List Batch). IfSome content (HasJournal j)) (sym (append-nil journal)) tells

-- no batch more is told
without : (journal : List Batch) (disk : DiskState) → IsSound journal → IfSome disk.content (HasJournal journal)
    → TellsLonger journal disk
without journal disk sound tells = record {
  failed = [];
  few = omega arith;
  faultless = λ none. refl;
  sound = none-behind journal sound;
  tells = tells-same journal disk.content tells;
}

with-or-without : (journal : List Batch) (batch : Batch) (disk : DiskState) (bytes : List ℕ) → disk.content ≡ Some bytes → 0 < disk.faults
    → IsSound journal → IsSound (journal ++ batch ∷ []) → IsWithOrWithoutBatch journal batch bytes → TellsLonger journal disk
with-or-without journal batch disk bytes is some sound more (inl has) =
    without journal disk sound (rw is has)
with-or-without journal batch disk bytes is some sound more (inr has) = record {
  failed = batch ∷ [];
  few = omega arith;
  faultless = λ none. absurd (omega (arith, some, none));
  sound = more;
  tells = rw is has;
}

one-more : (journal : List Batch) (batch : Batch) (disk : DiskState) (content : Option (List ℕ)) → disk.content ≡ content → 0 < disk.faults
    → IsSound journal → IsSound (journal ++ batch ∷ [])
    → ((bytes : List ℕ) → content ≡ Some bytes → IsWithOrWithoutBatch journal batch bytes) → TellsLonger journal disk
one-more journal batch disk None is some sound more each = without journal disk sound (rw is tt)
one-more journal batch disk (Some bytes) is some sound more each =
    with-or-without journal batch disk bytes is some sound more (each bytes refl)

kept-by : {D : Type 0} (disk : D → DiskState) (left_since : D → ℕ → List ℕ → Type 0) (journal : List Batch) (manifest : Log D)
    (fault : Option (ℕ × ℕ)) (failed : Option Batch)
    → ((it : D) (file : List ℕ) → (disk it).content ≡ Some file → MayLeave disk left_since it file)
    → IsSound journal → KeepsBy disk left_since journal manifest fault failed → TellsLonger journal (disk manifest.disk)
kept-by disk left_since journal manifest None None told sound k =
    without journal (disk manifest.disk) sound
    (IfSome-from (HasJournal journal) (disk manifest.disk).content (λ bytes is. k.images bytes (told manifest.disk bytes is)))
kept-by disk left_since journal manifest None (Some batch) told sound k = absurd k
kept-by disk left_since journal manifest (Some counts) None told sound k = absurd k
kept-by disk left_since journal manifest (Some counts) (Some batch) told sound k =
    one-more journal batch (disk manifest.disk) (disk manifest.disk).content refl k.2 sound k.0
    (λ bytes is. k.1 bytes (told manifest.disk bytes is))

pub longer : {D : Type 0} (disk : D → DiskState) (left_since : D → ℕ → List ℕ → Type 0) (journal : List Batch) (manifest : Log D)
    (failed : Option Batch)
    → ((it : D) (file : List ℕ) → (disk it).content ≡ Some file → MayLeave disk left_since it file)
    → IsSound journal → Keeps disk left_since journal manifest failed → TellsLonger journal (disk manifest.disk)
longer disk left_since journal manifest failed told sound k =
    kept-by disk left_since journal manifest manifest.fault failed told sound k

-- ---- the first fault

abbrev IsWorkers : Fault → Type 0
IsWorkers faults.ReadFault = Unit {0}
IsWorkers (faults.Full games bytes) = Unit {0}
IsWorkers faults.TooMuchInput = Unit {0}
IsWorkers faults.CannotAccept = Unit {0}
IsWorkers faults.OutOfMemory = Unit {0}
IsWorkers _ = ⊥

or-both : (left right : Option Fault) → IfSome left IsWorkers → IfSome right IsWorkers → IfSome (option_or left right) IsWorkers
or-both None right l r = r
or-both (Some fault) right l r = l

of-import : (ending : ImportEnding) → IfSome (fault_of_import ending) IsWorkers
of-import endings.Whole = tt
of-import (endings.ReadFault before after) = tt
of-import (endings.DiskFault before after) = tt
of-import (endings.Closed before after) = tt
of-import (endings.Full games bytes) = tt
of-import (endings.TooMuch bytes) = tt
of-import endings.OutOfMemory = tt

of-door : (end : DoorEnd) → IfSome (fault_of_door end) IsWorkers
of-door door_ends.Whole = tt
of-door door_ends.AcceptFault = tt

of-doors : (doors : List DoorRun) → IfSome (fault_of_doors doors) IsWorkers
of-doors [] = tt
of-doors (run ∷ runs) = or-both (fault_of_door run.end) (fault_of_doors runs) (of-door run.end) (of-doors runs)

of-workers : (files : List FileRun) (doors : List DoorRun) → IfSome (first_fault files doors) IsWorkers
of-workers [] doors = of-doors doors
of-workers (run ∷ runs) doors =
    or-both (fault_of_import run.ending) (first_fault runs doors) (of-import run.ending) (of-workers runs doors)

-- ---- how a run ends whose doors were served

-- all that was told and seen is a front of the journal that the disk tells
pub record SeesAll (service : Service) (before after : HostState) (worked : IsWorked service before after) (first : Option Fault) : Type 0 where
  pub goes_on : GoesOn service before after worked
  pub stored : first ≡ None → AllZip (IsStoredIn goes_on.journal) (map (file_at before) service.files) worked.files
  pub served : first ≡ None → AllZip (IsServedIn service.book worked.opening goes_on.journal) worked.handed worked.doors

reported-by : (lines : List ℕ) (old new : Stream) → Wrote lines old new → Writes (lines ∷ []) old new
reported-by lines old new (inl takes) = writes-takes lines old new takes
reported-by lines old new (inr fails) = writes-fails lines old new fails

listens-by : {A E : Type 0} (line : List ℕ) (listens : Result A E) (old new : Stream) → WroteLine line listens old new
    → Writes (line ∷ []) old new
listens-by line (Ok written) old new wrote = writes-takes line old new wrote
listens-by line (Err failed) old new wrote = writes-fails line old new wrote

module _ (service : Service) (before after : World) (worked : IsWorked service before.host after.host)
    (listened : Listens service before after) where
  abbrev to-first : (first : Option Fault) → first ≡ first_fault worked.files worked.doors
      → (goes_on : GoesOn service before.host after.host worked) → goes_on.shared.failed ≡ []
      → after.host.disk_faults ≡ before.host.disk_faults → IsWorkedTo service first before after
  to-first first is goes_on none disk =
      record { worked = worked; goes_on = goes_on; listens = listened; first = is; disk = disk; none_failed = none }

  by-first : (fault : Fault) → Some fault ≡ first_fault worked.files worked.doors
      → (goes_on : GoesOn service before.host after.host worked) → goes_on.shared.failed ≡ []
      → after.host.disk_faults ≡ before.host.disk_faults → MayReport service worked.files before after → FailsBy service fault before after
  by-first fault is goes_on none disk reports = record { to = to-first (Some fault) is goes_on none disk; reports = reports }

  -- a worker had a fault
  by-worker : (fault : Fault) → IsWorkers fault → Some fault ≡ first_fault worked.files worked.doors
      → after.host.disk_faults ≡ before.host.disk_faults → AreCounted (Some fault) before.host after.host
      → (sees : SeesAll service before.host after.host worked (Some fault)) → sees.goes_on.shared.failed ≡ []
      → MayReport service worked.files before after → ServesBy service before after (Stopped fault)
  by-worker faults.ReadFault is first disk counted sees none reports = (by-first faults.ReadFault first sees.goes_on none disk reports, counted.files refl)
  by-worker (faults.Full games bytes) is first disk counted sees none reports = by-first (faults.Full games bytes) first sees.goes_on none disk reports
  by-worker faults.TooMuchInput is first disk counted sees none reports = by-first faults.TooMuchInput first sees.goes_on none disk reports
  by-worker faults.CannotAccept is first disk counted sees none reports = (by-first faults.CannotAccept first sees.goes_on none disk reports, counted.doors refl)
  by-worker faults.OutOfMemory is first disk counted sees none reports = inr (inl (by-first faults.OutOfMemory first sees.goes_on none disk reports))
  by-worker faults.Usage is first disk counted sees none reports = absurd is
  by-worker (faults.BadParameter p) is first disk counted sees none reports = absurd is
  by-worker faults.BadLabel is first disk counted sees none reports = absurd is
  by-worker faults.SpillFault is first disk counted sees none reports = absurd is
  by-worker (faults.SpillDamaged part) is first disk counted sees none reports = absurd is
  by-worker faults.OpeningsTooLong is first disk counted sees none reports = absurd is
  by-worker (faults.BadOpenings row cause) is first disk counted sees none reports = absurd is
  by-worker faults.WriteFault is first disk counted sees none reports = absurd is
  by-worker faults.DiskFault is first disk counted sees none reports = absurd is
  by-worker (faults.NotEmpty n) is first disk counted sees none reports = absurd is
  by-worker faults.NotAStore is first disk counted sees none reports = absurd is
  by-worker (faults.OtherFormat n) is first disk counted sees none reports = absurd is
  by-worker (faults.Damaged n) is first disk counted sees none reports = absurd is
  by-worker (faults.CannotOpen name) is first disk counted sees none reports = absurd is

  abbrev is-served : None ≡ first_fault worked.files worked.doors → after.host.disk_faults ≡ before.host.disk_faults
      → (sees : SeesAll service before.host after.host worked None) → sees.goes_on.shared.failed ≡ []
      → IsServed service before after
  is-served is disk sees none = record {
    to = to-first None is sees.goes_on none disk;
    stored = sees.stored refl;
    served = sees.served refl;
  }

  serves-all : None ≡ first_fault worked.files worked.doors → after.host.disk_faults ≡ before.host.disk_faults
      → (sees : SeesAll service before.host after.host worked None) → sees.goes_on.shared.failed ≡ []
      → Reports service worked.files before after → ServesAll service before after
  serves-all is disk sees none reports = record { served = is-served is disk sees none; reports = reports }

  same_reads : after.input.read_faults ≡ before.input.read_faults
  same_reads = ap (λ (s : Stream). s.read_faults) listened.input

  by-sinks : {A E : Type 0} (listens : Result A E) (lines : List ℕ) → WroteLine (listening_line service.address) listens before.output after.output
      → ServesAll service before after → (ending : Ending) → EndsBy None listens lines before.errors after.errors ending
      → ServesBy service before after ending
  by-sinks (Err failed) lines wrote served ending is =
      subst (λ (e : Ending). ServesBy service before after e) (sym is)
      (served, record { reads = same_reads; rises = inl wrote.rises })
  by-sinks (Ok listening) lines wrote served ending (inl done) =
      subst (λ (e : Ending). ServesBy service before after e) (sym done.1) (
        served,
        record {
          reads = same_reads;
          output = takes-faults (listening_line service.address) before.output after.output wrote;
          errors = takes-faults lines before.errors after.errors done.0;
        },
      )
  by-sinks (Ok listening) lines wrote served ending (inr fails) =
      subst (λ (e : Ending). ServesBy service before after e) (sym fails.1)
      (served, record { reads = same_reads; rises = inr fails.0.rises })

  -- a call of the disk failed
  by-disk : Rises before.host.disk_faults after.host.disk_faults → GoesOn service before.host after.host worked
      → MayReport service worked.files before after → ServesBy service before after (Stopped faults.DiskFault)
  by-disk rises goes_on reports = (rises, inr (record { worked = worked; goes_on = goes_on; listens = listened; reports = reports }))

  ends-by : {A E : Type 0} (failed : Bool) (first : Option Fault) (listens : Result A E) (lines : List ℕ)
      → WroteLine (listening_line service.address) listens before.output after.output
      → Reports service worked.files before after
      → (failed ≡ true → Rises before.host.disk_faults after.host.disk_faults)
      → (failed ≡ false → after.host.disk_faults ≡ before.host.disk_faults)
      → first ≡ first_fault worked.files worked.doors
      → AreCounted first before.host after.host
      → (sees : SeesAll service before.host after.host worked first)
      → (failed ≡ false → sees.goes_on.shared.failed ≡ [])
      → (ending : Ending) → EndsBy (cause failed first) listens lines before.errors after.errors ending
      → ServesBy service before after ending
  ends-by true first listens lines wrote reports rises stays is counted sees none ending by =
      subst (λ (e : Ending). ServesBy service before after e) (sym by) (by-disk (rises refl) sees.goes_on (inl reports))
  ends-by false (Some fault) listens lines wrote reports rises stays is counted sees none ending by =
      subst (λ (e : Ending). ServesBy service before after e) (sym by)
      (by-worker fault (subst (λ (o : Option Fault). IfSome o IsWorkers) (sym is) (of-workers worked.files worked.doors))
      is (stays refl) counted sees (none refl) (inl reports))
  ends-by false None listens lines wrote reports rises stays is counted sees none ending by =
      by-sinks listens lines wrote (serves-all is (stays refl) sees (none refl) reports) ending by

  -- nothing was reported
  ends-untold : (failed : Bool) (first : Option Fault) → after.errors ≡ before.errors
      → (failed ≡ true → Rises before.host.disk_faults after.host.disk_faults)
      → (failed ≡ false → after.host.disk_faults ≡ before.host.disk_faults)
      → first ≡ first_fault worked.files worked.doors
      → AreCounted first before.host after.host
      → (sees : SeesAll service before.host after.host worked first)
      → (failed ≡ false → sees.goes_on.shared.failed ≡ [])
      → (ending : Ending) → ending ≡ Stopped (unwrap_or (cause failed first) faults.OutOfMemory) → ServesBy service before after ending
  ends-untold true first same rises stays is counted sees none ending by =
      subst (λ (e : Ending). ServesBy service before after e) (sym by) (by-disk (rises refl) sees.goes_on (inr same))
  ends-untold false (Some fault) same rises stays is counted sees none ending by =
      subst (λ (e : Ending). ServesBy service before after e) (sym by)
      (by-worker fault (subst (λ (o : Option Fault). IfSome o IsWorkers) (sym is) (of-workers worked.files worked.doors))
      is (stays refl) counted sees (none refl) (inr same))
  ends-untold false None same rises stays is counted sees none ending by =
      subst (λ (e : Ending). ServesBy service before after e) (sym by)
      (inr (inr (record { served = is-served is (stays refl) sees (none refl); errors = same })))

module _ {A E : Type 0} (service : Service) (before after : World) (worked : IsWorked service before.host after.host)
    (same_input : after.input ≡ before.input) (failed : Bool) (first : Option Fault) (listens : Result A E)
    (wrote : WroteLine (listening_line service.address) listens before.output after.output)
    (rises : failed ≡ true → Rises before.host.disk_faults after.host.disk_faults)
    (stays : failed ≡ false → after.host.disk_faults ≡ before.host.disk_faults)
    (first_is : first ≡ first_fault worked.files worked.doors)
    (counted : AreCounted first before.host after.host)
    (sees : SeesAll service before.host after.host worked first)
    (none : failed ≡ false → sees.goes_on.shared.failed ≡ []) where
  listened : Listens service before after
  listened = record {
    input = same_input;
    output = listens-by (listening_line service.address) listens before.output after.output wrote;
  }

  pub concludes : (lines : Option (List ℕ)) → IfSome lines (λ told. told ≡ serve_report service.files worked.files)
      → (ending : Ending) → Concludes lines (cause failed first) listens before.errors after.errors ending
      → ServesBy service before after ending
  concludes None are ending by =
      ends-untold service before after worked listened failed first by.0 rises stays first_is counted sees none ending by.1
  concludes (Some lines) are ending by =
      let reports : Reports service worked.files before after =
      subst (λ (l : List ℕ). Writes (l ∷ []) before.errors after.errors) are (reported-by lines before.errors after.errors by.0) in
      ends-by service before after worked listened failed first listens lines wrote reports rises stays first_is counted sees none ending by.1

module _ (service : Service) (before lent used after : HostState) (given returns : DiskState)
    (hands : HandsDisk service.store given before lent) (takes : TakesDisk service.store returns used after)
    (opening journal : List Batch) (first : Option Fault) (lines : Option (List ℕ))
    (w : HasWorked service opening journal first lines lent used) (read : IfSome given.content (HasJournal opening)) (sound : IsSound opening) where
  pub sees-all : 1 ≤ service.readers → TellsLonger journal returns
      → (sees : SeesAll service before after (is-worked service before lent used after given returns hands takes opening journal first lines w read sound) first)
      × (returns.faults ≡ 0 → sees.goes_on.shared.failed ≡ [])
  unfolding is-worked
  sees-all some l =
      let files : w.middle.files ≡ before.files = w.files ∙ ap (λ (h : HostState). h.files) hands.rest in
      let seen : AllZip (IsSeenIn service.book opening journal) w.handed w.over.doors = w.over.seen in
      let count : 1 ≤ length w.handed = omega (arith, some, w.are_fresh.number) in
      let whole = journal ++ l.failed in
      let extends : IsPrefix journal whole = record { rest = l.failed; is = refl } in (
        record {
          goes_on = record {
            journal = whole;
            sound = l.sound;
            tells = subst (λ (c : Option (List ℕ)). IfSome c (HasJournal whole)) (sym (content-back service.store returns used after takes)) l.tells;
            extends = prefix-trans opening journal whole (begins-with service.book opening journal w.handed w.over.doors count seen) extends;
            shared = record {
              stored = journal;
              failed = l.failed;
              journal_is = refl;
              few = l.few;
              drawn = w.over.drawn;
            };
            kept = kept-longer journal whole (map (file_at before) service.files) w.over.files extends
                (subst (λ (at : List ℕ → Option (List ℕ)). AllZip (IsKeptIn journal) (map (λ (name : List ℕ). source_alone (at name) 0 0) service.files) w.over.files)
                files w.over.kept);
            full = full-longer journal whole (map (file_at before) service.files) w.over.files extends
                (subst (λ (at : List ℕ → Option (List ℕ)). AllZip (FindsFull journal) (map (λ (name : List ℕ). source_alone (at name) 0 0) service.files) w.over.files)
                files w.over.full);
            seen = seen-longer service.book opening journal whole w.handed w.over.doors extends seen;
          };
          stored = λ none. stored-longer journal whole (map (file_at before) service.files) w.over.files extends
              (subst (λ (at : List ℕ → Option (List ℕ)). AllZip (IsStoredIn journal) (map (λ (name : List ℕ). source_alone (at name) 0 0) service.files) w.over.files)
              files (w.over.stored none));
          served = λ none. served-longer service.book opening journal whole w.handed w.over.doors extends (w.over.served_in none);
        },
        l.faultless,
      )

  -- a count that rose over the workers rose in the run
  pub worked-counted : AreCounted first before after
  worked-counted = record {
    files = λ is. rw (ap (λ (h : HostState). h.file_faults) takes.rest, sym (w.file_faults ∙ ap (λ (h : HostState). h.file_faults) hands.rest))
        (w.over.counted.files is);
    doors = λ is. rw (ap (λ (h : HostState). h.door_faults) takes.rest, sym (w.door_faults ∙ ap (λ (h : HostState). h.door_faults) hands.rest))
        (w.over.counted.doors is);
  }

  pub worked-disk : used.disk_faults ≡ lent.disk_faults
  worked-disk = w.over.disk_faults ∙ w.disk_faults

-- ---- runs of the command

module _ (service : Service) (before lent after : HostState) (given returns : DiskState)
    (hands : HandsDisk service.store given before lent) (takes : TakesDisk service.store returns lent after)
    (same : returns.content ≡ given.content) (input output errors : Stream) where
  closed : IsGivenUp service [] [] before after
  closed = is-given-up service before lent lent after given returns hands takes [] [] refl same refl

  starved-by : returns.faults ≡ 0 → ServesBy service (world input output errors before) (world input output errors after) (Stopped faults.OutOfMemory)
  starved-by none = inl (record {
    names = [];
    front = prefix-nil service.files;
    given_up = closed;
    silent = refl;
    disk = disk-stays service before lent lent after given returns hands takes refl none;
    own = own-same service before lent lent after given returns hands takes refl;
  })

  closes : GivesBack before after
  closes = rounds service before lent lent after given returns hands takes (λ thing. refl)

  -- memory was wanting before anything else was asked for
  pub starves : returns.faults ≡ 0 → Serves service (world input output errors before) (world input output errors after) (Stopped faults.OutOfMemory)
  starves none = record { by = starved-by none; gives_back = closes }

  -- calls of the disk failed while it was opened
  pub breaks : 0 < returns.faults → Serves service (world input output errors before) (world input output errors after) (Stopped faults.DiskFault)
  breaks some = record {
    by = (disk-rises service before lent lent after given returns hands takes refl some, inl (closed, refl));
    gives_back = closes;
  }

  no-store : (fault : LogFault) → returns.faults ≡ 0 → IfSome given.content (IsWrong fault)
      → HasNoStore service fault (world input output errors before) (world input output errors after)
  no-store fault none wrong = record {
    wrong = subst (λ (c : Option (List ℕ)). IfSome c (IsWrong fault)) hands.content wrong;
    given_up = closed;
    silent = refl;
    disk = disk-stays service before lent lent after given returns hands takes refl none;
  }

  not-opened-by : {D : Type 0} (disk : D → DiskState) (old new : D) (fault : OpenFault) → disk old ≡ given → disk new ≡ returns
      → returns.faults ≡ 0 → IsNotOpened disk fault old new
      → ServesBy service (world input output errors before) (world input output errors after) (Stopped (fault_of_opening fault))
  not-opened-by disk old new (openings.Log logs.NotALog) o n none not =
      no-store logs.NotALog none (subst (λ (d : DiskState). IfSome d.content (IsWrong logs.NotALog)) o not)
  not-opened-by disk old new (openings.Log (logs.OtherFormat number)) o n none not =
      no-store (logs.OtherFormat number) none (subst (λ (d : DiskState). IfSome d.content (IsWrong (logs.OtherFormat number))) o not)
  not-opened-by disk old new (openings.Log (logs.Damaged at)) o n none not =
      no-store (logs.Damaged at) none (subst (λ (d : DiskState). IfSome d.content (IsWrong (logs.Damaged at))) o not)
  not-opened-by disk old new (openings.DiskFault earlier later) o n none not =
      let first : earlier ≡ 0 = not.before_is ∙ (ap (λ (d : DiskState). d.faults) o ∙ hands.faultless) in
      let last : later ≡ 0 = not.after_is ∙ (ap (λ (d : DiskState). d.faults) n ∙ none) in
      absurd (omega (arith, first, last, not.rises.rose))
  not-opened-by disk old new openings.OutOfMemory o n none not = starved-by none

  -- what is told is no store, or memory was wanting
  pub not-opened : {D : Type 0} (disk : D → DiskState) (old new : D) (fault : OpenFault) (told : Fault) → told ≡ fault_of_opening fault
      → disk old ≡ given → disk new ≡ returns → returns.faults ≡ 0 → IsNotOpened disk fault old new
      → Serves service (world input output errors before) (world input output errors after) (Stopped told)
  not-opened disk old new fault told is o n none not =
      subst (λ (f : Fault). Serves service (world input output errors before) (world input output errors after) (Stopped f)) (sym is) (record {
        by = not-opened-by disk old new fault o n none not;
        gives_back = closes;
      })

pub refuses-store : (service : Service) (before after : HostState) (input output errors : Stream) (name : _)
    → RefusesDisk service.store before after → string_bytes name ≡ service.store
    → Serves service (world input output errors before) (world input output errors after) (Stopped (faults.CannotOpen name))
refuses-store service before after input output errors name refuses is = record {
  by = (inl (is, refuses), refl);
  gives_back = refused-gives-back service.store before after refuses;
}

-- files or doors were refused, or memory was wanting for them
pub gives-up-so : (service : Service) (before lent used after : HostState) (given returns : DiskState)
    → HandsDisk service.store given before lent → TakesDisk service.store returns used after
    → (input output later errors : Stream) (opening : List Batch) (why : Unserved) (fault : Fault) → IfSome given.content (HasJournal opening) → IsSound opening
    → HasGivenUp service why lent used → returns.content ≡ given.content → returns.faults ≡ 0 → IsToldBy service why fault
    → GivesBack lent used → later ≡ output
    → Serves service (world input output errors before) (world input later errors after) (Stopped fault)
gives-up-so service before lent used after given returns hands takes input output later errors opening why fault read sound h same none told g is =
    subst (λ (s : Stream). Serves service (world input output errors before) (world input s errors after) (Stopped fault)) (sym is) (record {
      by = gives-up service before lent used after given returns hands takes errors output input opening why fault read sound h same none told;
      gives_back = rounds service before lent used after given returns hands takes g;
    })

-- doors were served
pub served-so : {A E : Type 0} (service : Service) (before lent used after : HostState) (given returns : DiskState)
    (hands : HandsDisk service.store given before lent) (takes : TakesDisk service.store returns used after)
    (opening journal : List Batch) (first : Option Fault) (lines : Option (List ℕ))
    → HasWorked service opening journal first lines lent used → IfSome given.content (HasJournal opening) → IsSound opening
    → 1 ≤ service.readers → TellsLonger journal returns → GivesBack lent used
    → (failed : Bool) → (failed ≡ true → 0 < returns.faults) → (failed ≡ false → returns.faults ≡ 0)
    → (input output written errors reported : Stream) (listens : Result A E)
    → WroteLine (listening_line service.address) listens output written
    → (ending : Ending) → Concludes lines (cause failed first) listens errors reported ending
    → Serves service (world input output errors before) (world input written reported after) ending
unfolding is-worked
served-so service before lent used after given returns hands takes opening journal first lines w read sound some l g failed some_faults no_faults
    input output written errors reported listens wrote ending by =
    let disk = worked-disk service before lent used after given returns hands takes opening journal first lines w read sound in
    let sees = sees-all service before lent used after given returns hands takes opening journal first lines w read sound some l in
    record {
      by = concludes service (world input output errors before) (world input written reported after)
          (is-worked service before lent used after given returns hands takes opening journal first lines w read sound)
          refl failed first listens wrote
          (λ is. disk-rises service before lent used after given returns hands takes disk (some_faults is))
          (λ is. disk-stays service before lent used after given returns hands takes disk (no_faults is))
          w.over.first_is
          (worked-counted service before lent used after given returns hands takes opening journal first lines w read sound)
          sees.0 (λ is. sees.1 (no_faults is))
          lines w.over.lines_are ending by;
      gives_back = rounds service before lent used after given returns hands takes g;
    }

-- ---- what calls say of what they gave

pub content-of : {D : Type 0} (disk : D → DiskState) (one other : D) → one ≡ other → (disk one).content ≡ (disk other).content
content-of {D} disk one other is = ap (λ (d : D). (disk d).content) is

pub faults-of : {D : Type 0} (disk : D → DiskState) (one other : D) → one ≡ other → (disk one).faults ≡ (disk other).faults
faults-of {D} disk one other is = ap (λ (d : D). (disk d).faults) is

pub nameless-disk : {D : Type 0} (one other : Nameless D) → one ≡ other → one.manifest.disk ≡ other.manifest.disk
nameless-disk {D} one other is = ap (λ (s : Nameless D). s.manifest.disk) is

pub stored-disk : {D : Type 0} (one other : Stored D) → one ≡ other → one.manifest.disk ≡ other.manifest.disk
stored-disk {D} one other is = ap (λ (s : Stored D). s.manifest.disk) is

pub journal-named : {D : Type 0} (stored : Stored D) (store : Nameless D) → stored ≡ stored_by store
    → journal stored ≡ journal_of store.index.list
journal-named {D} stored store is = ap (λ (s : Stored D). journal s) is

replicate-all : (n : ℕ) (x : Watching) → AllByRecursion (λ (pass : Watching). pass ≡ x) (replicate n x)
replicate-all zero x = tt
replicate-all (suc n) x = (refl, replicate-all n x)

pub all-watching : (passes : List Watching) (n : ℕ) (opening now : List Batch) → passes ≡ replicate n (watching opening) → now ≡ opening
    → AllByRecursion (λ pass. pass ≡ watching now) passes
all-watching passes n opening now are is =
    subst (λ (ps : List Watching). AllByRecursion (λ pass. pass ≡ watching now) ps) (sym are)
    (subst (λ (j : List Batch). AllByRecursion (λ pass. pass ≡ watching now) (replicate n (watching j))) is (replicate-all n (watching now)))

pub given-up-so : (outcome : Outcome) (why : Unserved) → outcome ≡ outcomes.GivenUp why → IsGivenUpSo outcome
given-up-so outcome why is = subst IsGivenUpSo (sym is) tt

pub files-given-up : (service : Service) (opening journal : List Batch) (outcome : Outcome) (why : Unserved) (before after : HostState)
    → outcome ≡ outcomes.GivenUp why → FilesServed service opening journal outcome before after → HasGivenUp service why before after
files-given-up service opening journal outcome why before after is served =
    subst (λ (o : Outcome). FilesServed service opening journal o before after) is served

pub silent-so : (line : List ℕ) (outcome : Outcome) (why : Unserved) (old new : Stream) → outcome ≡ outcomes.GivenUp why
    → ListensSo line outcome old new → new ≡ old
silent-so line outcome why old new is listens = subst (λ (o : Outcome). ListensSo line o old new) is listens

pub files-worked : (service : Service) (opening journal : List Batch) (outcome : Outcome) (done : came.Done) (before after : HostState)
    → outcome ≡ outcomes.Worked done → FilesServed service opening journal outcome before after
    → HasWorked service opening journal done.first (lines_told done.lines) before after
files-worked service opening journal outcome done before after is served =
    subst (λ (o : Outcome). FilesServed service opening journal o before after) is served

pub listens-so : (line other : List ℕ) (outcome : Outcome) (done : came.Done) (old new : Stream) → outcome ≡ outcomes.Worked done
    → line ≡ other → ListensSo line outcome old new → WroteLine other done.listens old new
listens-so line other outcome done old new is same listens =
    subst (λ (l : List ℕ). WroteLine l done.listens old new) same (subst (λ (o : Outcome). ListensSo line o old new) is listens)

pub longer-by : {D : Type 0} (disk : D → DiskState) (left_since : D → ℕ → List ℕ → Type 0) (stored : Stored D) (returns : D)
    → ((it : D) (file : List ℕ) → (disk it).content ≡ Some file → MayLeave disk left_since it file)
    → returns ≡ stored.manifest.disk → IsSound (journal stored) → Keeps disk left_since (journal stored) stored.manifest stored.failed
    → TellsLonger (journal stored) (disk returns)
longer-by {D = D} disk left_since stored returns told is sound k =
    subst (λ (d : D). TellsLonger (journal stored) (disk d)) (sym is)
    (longer disk left_since (journal stored) stored.manifest stored.failed told sound k)
