-- A question over a told store through a scratch file that tells its bytes comes to one thing but for these, where no call fails and memory is there.
use Rattle.std.proofs.Common.{◌≡◌, ◌⊎◌, inl, inr, ℕ, ◌<◌, ◌-◌, ◌^◌, List, Option, None, Some, Result, Ok, Err, refl, sym, ap, subst, ◌∙◌, string_bytes}
use Rattle.std.specs.Prelude.{◌≢◌, IfSome, IsSome}
use Rattle.std.specs.Io.KnownBytes.{append_known}
use Rattle.import_run.proofs.LawLemmas.{no_rise}
use Rattle.plain_laws.specs.Options.{IfSome-at, IsSome-none}
use Rattle.disk_model.specs.Disk.{DiskState}
use Rattle.outside.specs.Ports.{Scratch}
use Rattle.outside.specs.Stream.{Stream, Takes}
use Rattle.explorer_model.specs.declared.answer.Found.{Found}
use Rattle.explorer_model.specs.declared.archive.Batch.{Batch}
use Rattle.explorer_model.specs.declared.opening.Naming.{Naming}
use Rattle.explorer_model.specs.declared.query.BadParameter.{BadParameter}
use Rattle.explorer_model.specs.declared.query.Query.{Query}
use Rattle.explorer_model.specs.declared.store.LogFault.{LogFault}
use Rattle.explorer_model.specs.declared.store.LogFault.TheVariants as log
use Rattle.explorer_model.specs.Finds.{IsFound}
use Rattle.explorer_model.specs.Journal.{IsSound}
use Rattle.explorer_model.specs.Openings.{NamedPosition}
use Rattle.manifest.specs.Manifest.{HasJournal}
use Rattle.ingest_desk.specs.Openings.{IsWrong}
use Rattle.host.specs.Hosts.{DiskBack, DiskOut, HostState, PortBack, PortOut, noted, put}
use Rattle.explorer.specs.Answer.{IsNamingOf, answer_line}
use Rattle.explorer.specs.Book.{NamedBy}
use Rattle.explorer.specs.Laws.{CountsSpills, GoesWell, IsToldOpenings, IsToldStore, OpensWell, SpilledAlike, SpillsWell}
use Rattle.explorer.specs.Lines.{Ending, Done, Stopped, status_of}
use Rattle.explorer.specs.Opened.{IsRefusedBy}
use Rattle.explorer.specs.Query.Spilled.{AnswersSpilled, FindsIn, IsDamagedIn, LacksName, OnDisk, RefusesSpilled, SpillsBy, UsesSpill}
use Rattle.explorer.specs.Query.Store.{AsksFor, QueriesBy}
use Rattle.explorer.specs.World.{World}
use Rattle.explorer.specs.declared.fault.Fault.TheVariants as faults
use Rattle.explorer.proofs.LawLemmas.ImportHost.{put_same, put_twice, stands_there}
use Rattle.explorer.proofs.LawLemmas.{OneAnswer, OneNaming}
use Rattle.explorer.proofs.LawLemmas.OneEnding.{OneQuery, appended}
use Rattle.explorer.proofs.LawLemmas.Openings.{OneBook, SameHost, not_either, one_book, one_fault, same_host}
use Rattle.explorer.proofs.LawLemmas.Question.{OneOpening, refusal, told_since, well_since}

-- ---- the host

abbrev disk_out : List ℕ → HostState → HostState
disk_out store before = record before { calls = noted (DiskOut store) before.calls; disks = put store None before.disks }

abbrev port_out : List ℕ → HostState → HostState
port_out name before = record before { calls = noted (PortOut name) before.calls; ports = put name None before.ports }

abbrev port_back : List ℕ → Option (List ℕ) → ℕ → HostState → HostState
port_back name bytes count before = record before { calls = noted (PortBack name) before.calls; ports = put name bytes before.ports; port_faults = count }

abbrev disk_back : List ℕ → Option (List ℕ) → ℕ → HostState → HostState
disk_back store content count before = record before { calls = noted (DiskBack store) before.calls; disks = put store content before.disks; disk_faults = count }

-- a disk and a scratch file were handed out, and came back with these bytes
abbrev left_with : List ℕ → List ℕ → Option (List ℕ) → Option (List ℕ) → HostState → HostState
left_with store name content bytes before =
    disk_back store content before.disk_faults (port_back name bytes before.port_faults (port_out name (disk_out store before)))

used : (store name : List ℕ) (Does : DiskState → DiskState → Scratch → Scratch → Type 0) (before after : HostState) → (uses : UsesSpill store name Does before after)
    → after.disk_faults ≡ before.disk_faults → after.port_faults ≡ before.port_faults → after ≡ left_with store name uses.disk_after.content uses.port_after.appended before
used store name Does before after uses same_disks same_ports =
    let content = uses.disk_after.content in
    let bytes = uses.port_after.appended in
    let count : uses.taken.port_faults ≡ before.port_faults = sym (ap (λ (h : HostState). h.port_faults) uses.takes_disk.rest) ∙ same_ports in
    uses.takes_disk.rest
    ∙ ap (λ (h : HostState). disk_back store content after.disk_faults h) uses.takes_port.rest
    ∙ ap (λ (h : HostState). disk_back store content after.disk_faults (port_back name bytes uses.taken.port_faults h)) uses.hands_port.rest
    ∙ ap (λ (h : HostState). disk_back store content after.disk_faults (port_back name bytes uses.taken.port_faults (port_out name h))) uses.hands_disk.rest
    ∙ ap (λ (n : ℕ). disk_back store content after.disk_faults (port_back name bytes n (port_out name (disk_out store before)))) count
    ∙ ap (λ (n : ℕ). disk_back store content n (port_back name bytes before.port_faults (port_out name (disk_out store before)))) same_disks

-- two hosts that came so from one differ in the scratch file alone
alike_but : (store name : List ℕ) (content bytes others : Option (List ℕ)) (before after other : HostState) → after ≡ left_with store name content bytes before
    → other ≡ left_with store name content others before → other ≡ record after { ports = put name (other.ports name) after.ports }
alike_but store name content bytes others before after other is also =
    let there : other.ports name ≡ others = ap (λ (h : HostState). h.ports name) also ∙ stands_there name others (put name None before.ports) in
    also
    ∙ (λ i. record (left_with store name content bytes before) { ports = sym (put_twice name bytes others (put name None before.ports)) i })
    ∙ (λ i. let h : HostState = sym is i in record h { ports = put name (sym there i) h.ports })

-- ---- what a question comes to

abbrev ended_by : (store name file : List ℕ) → World → World → Option (List ℕ) → Type 0
ended_by store name file before after bytes = after.host ≡ left_with store name (Some file) bytes before.host

abbrev wrote_line : World → Found → Naming → Stream
wrote_line before found naming = record before.output { written = append_known before.output.written (answer_line found naming) }

record IsAnswered (store name file : List ℕ) (query : Query) (book : List NamedPosition) (before after : World) : Type 0 where
  journal : List Batch
  read : HasJournal journal file
  sound : IsSound journal
  found : Found
  is_found : IsFound journal query found
  naming : Naming
  is_naming : IsNamingOf book query found naming
  bytes : Option (List ℕ)
  host : ended_by store name file before after bytes
  output : after.output ≡ wrote_line before found naming
  rest : after ≡ record before { output = after.output; host = after.host }

record IsRefused (store name file : List ℕ) (fault : LogFault) (before after : World) : Type 0 where
  wrong : IsWrong fault file
  bytes : Option (List ℕ)
  host : ended_by store name file before after bytes
  rest : after ≡ record before { host = after.host }

abbrev Comes : (store name file : List ℕ) → Query → List NamedPosition → World → World → Ending → Type 0
Comes store name file query book before after ending =
    ((ending ≡ Done) × IsAnswered store name file query book before after)
    ⊎ ((fault : LogFault) × (ending ≡ refusal fault) × IsRefused store name file fault before after)

if_told : {X : Type 0} (told : Option (List ℕ)) → IsSome told → IfSome told (λ _. X) → X
if_told None is has = absurd (cc)
if_told (Some bytes) is has = has

module _ (store name file : List ℕ) (query : Query) (book : List NamedPosition) (before after : World) (told : IsToldStore store file before) (few : before.host.port_faults < 2 ^ 64 - 1)
    (well : GoesWell before after) (calm : SpillsWell name before after) where
  -- what came back tells its bytes
  still_told : (Does : DiskState → DiskState → Scratch → Scratch → Type 0) → (uses : UsesSpill store name Does before.host after.host) → IsSome uses.port_after.appended
  still_told Does uses =
      let back : after.host.ports name ≡ uses.taken.ports name = ap (λ (h : HostState). h.ports name) uses.takes_disk.rest in
      let there : uses.taken.ports name ≡ uses.port_after.appended =
      ap (λ (h : HostState). h.ports name) uses.takes_port.rest ∙ stands_there name uses.port_after.appended uses.given.ports in
      subst (λ (o : Option (List ℕ)). IsSome o) (back ∙ there) calm.told

  by_host : (Does : DiskState → DiskState → Scratch → Scratch → Type 0) → (uses : UsesSpill store name Does before.host after.host) → uses.disk_after.content ≡ uses.disk.content
      → ended_by store name file before after uses.port_after.appended
  by_host Does uses kept =
      used store name Does before.host after.host uses well.faults calm.faults
      ∙ ap (λ (o : Option (List ℕ)). left_with store name o uses.port_after.appended before.host) (kept ∙ (uses.hands_disk.content ∙ told.disk))

  answers : AnswersSpilled (λ line. Takes line before.output after.output) store name query book before after → Comes store name file query book before after Done
  answers a =
      let uses = a.finds in
      let finds = uses.does in
      let handed = uses.hands_disk.content ∙ told.disk in
      let written = appended before.output.written after.output.written (answer_line a.found a.naming) told.output a.wrote.appended in
      inl (
        refl,
        record {
          journal = a.journal;
          read = IfSome-at (HasJournal a.journal) uses.disk.content file handed finds.spills.opens.read;
          sound = finds.spills.opens.sound;
          found = a.found;
          is_found = if_told uses.port_after.appended (still_told (FindsIn a.journal query a.found) uses) finds.is_found;
          naming = a.naming;
          is_naming = a.is_naming;
          bytes = uses.port_after.appended;
          host = by_host (FindsIn a.journal query a.found) uses finds.spills.opens.kept;
          output = a.wrote.rest ∙ ap (λ (w : Option (List ℕ)). record before.output { written = w }) written;
          rest = a.rest;
        },
      )

  refuses : (fault : LogFault) → RefusesSpilled fault store name before after → Comes store name file query book before after (refusal fault)
  refuses fault by =
      let uses = by.0 in
      let handed = uses.hands_disk.content ∙ told.disk in
      inr (
        fault,
        refl,
        record {
          wrong = IfSome-at (IsWrong fault) uses.disk.content file handed uses.does.0.wrong;
          bytes = uses.port_after.appended;
          host = by_host (OnDisk (IsRefusedBy fault)) uses uses.does.0.kept;
          rest = by.1;
        },
      )

  opens_both : (refused : List ℕ) → LacksName store name refused before.host after.host → ⊥
  opens_both refused (inl (is, refuses)) = no_rise before.host.own_faults after.host.own_faults well.refusals told.refusals refuses.rises
  opens_both refused (inr (is, lacks)) =
      let first : lacks.opened.own_faults ≡ before.host.own_faults = ap (λ (h : HostState). h.own_faults) lacks.hands.rest in
      let last : after.host.own_faults ≡ lacks.refused.own_faults = ap (λ (h : HostState). h.own_faults) lacks.takes.rest in
      no_rise lacks.opened.own_faults lacks.refused.own_faults (sym last ∙ well.refusals ∙ sym first) (rw first told.refusals) lacks.refuses.rises

  comes : (ending : Ending) → status_of ending ≢ 9 → SpillsBy store name query book before after ending → Comes store name file query book before after ending
  comes Done fed by = answers by
  comes (Stopped faults.WriteFault) fed by = absurd (no_rise before.output.write_faults after.output.write_faults well.writes told.writes by.wrote.rises)
  comes (Stopped faults.NotAStore) fed by = refuses log.NotALog by
  comes (Stopped (faults.OtherFormat number)) fed by = refuses (log.OtherFormat number) by
  comes (Stopped (faults.Damaged gate)) fed by = refuses (log.Damaged gate) by
  comes (Stopped faults.DiskFault) fed by = absurd (no_rise before.host.disk_faults after.host.disk_faults well.faults told.faults by.1)
  comes (Stopped (faults.CannotOpen refused)) fed by = absurd (opens_both (string_bytes refused) by.0)
  comes (Stopped faults.SpillFault) fed by = absurd (no_rise before.host.port_faults after.host.port_faults calm.faults few by.1)
  comes (Stopped (faults.SpillDamaged part)) fed by =
      absurd (IsSome-none by.0.port_after.appended (still_told (IsDamagedIn part) by.0) by.0.does.untold)
  comes (Stopped faults.Usage) fed by = absurd by
  comes (Stopped (faults.BadParameter parameter)) fed by = absurd by
  comes (Stopped faults.BadLabel) fed by = absurd by
  comes (Stopped faults.OpeningsTooLong) fed by = absurd by
  comes (Stopped (faults.BadOpenings row cause)) fed by = absurd by
  comes (Stopped faults.ReadFault) fed by = absurd by
  comes (Stopped faults.TooMuchInput) fed by = absurd by
  comes (Stopped (faults.Full games bytes)) fed by = absurd by
  comes (Stopped (faults.NotEmpty size)) fed by = absurd by
  comes (Stopped faults.OutOfMemory) fed by = absurd (fed refl)
  comes (Stopped faults.CannotAccept) fed by = absurd by

-- ---- two questions

-- two runs that are one
same_runs : (name : List ℕ) (after other : World) → after ≡ other → SpilledAlike name after other
same_runs name after other is = subst (SpilledAlike name after) is (record {
  streams = record { input = refl; output = refl; errors = refl };
  rest = λ i. record after.host { ports = sym (put_same name after.host.ports) i };
})

spills_since : (name : List ℕ) (before after : World) (read : HostState) → SameHost before.host read → SpillsWell name before after → SpillsWell name (record before { host = read }) after
spills_since name before after read same well = record { faults = well.faults ∙ sym same.port_faults; told = well.told }

module _ (store name file : List ℕ) (openings : Option (List ℕ)) (before after other : World) (ending ending' : Ending)
    (found : OneAnswer) (one_naming : OneNaming) (open_once : OneOpening) (book_once : OneBook) (told : IsToldStore store file before)
    (opens : IsToldOpenings openings before) (spill : CountsSpills before) (well : GoesWell before after) (read_well : OpensWell openings before after) (calm : SpillsWell name before after)
    (well' : GoesWell before other) (read_well' : OpensWell openings before other) (calm' : SpillsWell name before other) (fed : status_of ending ≢ 9)
    (fed' : status_of ending' ≢ 9) where
  abbrev BothCome : Type 0
  BothCome = (ending ≡ ending') × SpilledAlike name after other

  both_answered : (query : Query) (book : List NamedPosition) (now : World) → IsAnswered store name file query book now after → IsAnswered store name file query book now other → SpilledAlike name after other
  both_answered query book now x y =
      let journals = open_once.opened file x.journal y.journal x.read y.read in
      let there : IsFound y.journal query x.found = subst (λ (j : List Batch). IsFound j query x.found) journals x.is_found in
      let one = found y.journal query x.found y.found there y.is_found in
      let named : IsNamingOf book query y.found x.naming = subst (λ (f : Found). IsNamingOf book query f x.naming) one x.is_naming in
      let names = one_naming book query _ x.naming y.naming named y.is_naming in
      let lines : after.output ≡ other.output = x.output ∙ ap (λ (f : Found). wrote_line now f x.naming) one ∙ ap (wrote_line now y.found) names ∙ sym y.output in
      record {
        streams = record {
          input = ap (λ (w : World). w.input) y.rest ∙ sym (ap (λ (w : World). w.input) x.rest);
          output = sym lines;
          errors = ap (λ (w : World). w.errors) y.rest ∙ sym (ap (λ (w : World). w.errors) x.rest);
        };
        rest = alike_but store name (Some file) x.bytes y.bytes now.host after.host other.host x.host y.host;
      }

  both_refused : (fault fault' : LogFault) (now : World) → IsRefused store name file fault now after → IsRefused store name file fault' now other → SpilledAlike name after other
  both_refused fault fault' now x y = record {
    streams = record {
      input = ap (λ (w : World). w.input) y.rest ∙ sym (ap (λ (w : World). w.input) x.rest);
      output = ap (λ (w : World). w.output) y.rest ∙ sym (ap (λ (w : World). w.output) x.rest);
      errors = ap (λ (w : World). w.errors) y.rest ∙ sym (ap (λ (w : World). w.errors) x.rest);
    };
    rest = alike_but store name (Some file) x.bytes y.bytes now.host after.host other.host x.host y.host;
  }

  same_coming : (query : Query) (book : List NamedPosition) (now : World) → Comes store name file query book now after ending → Comes store name file query book now other ending' → BothCome
  same_coming query book now (inl a) (inl b) = (a.0 ∙ sym b.0, both_answered query book now a.1 b.1)
  same_coming query book now (inl a) (inr b) = absurd (open_once.either file a.1.journal b.0 a.1.read a.1.sound b.2.wrong)
  same_coming query book now (inr a) (inl b) = absurd (open_once.either file b.1.journal a.0 b.1.read b.1.sound a.2.wrong)
  same_coming query book now (inr a) (inr b) =
      let one = open_once.refused file a.0 b.0 a.2.wrong b.2.wrong in
      (a.1 ∙ ap refusal one ∙ sym b.1, both_refused a.0 b.0 now a.2 b.2)

  same_named : (query : Query) → NamedBy openings (SpillsBy store name query) before after ending → NamedBy openings (SpillsBy store name query) before other ending' → BothCome
  same_named query (inl (book, read, has, by)) (inl (book', read', has', by')) =
      let same = one_book book_once openings book book' before read read' opens has has' in
      let moved = subst (λ (b : List NamedPosition). SpillsBy store name query b (record before { host = read }) after ending) same.0 by in
      let there = subst (λ (h : HostState). SpillsBy store name query book' (record before { host = h }) after ending) same.1 moved in
      let kept = same_host openings book' before.host read' has' in
      let now : World = record before { host = read' } in
      let stays = told_since store file before read' kept told in
      let few : read'.port_faults < 2 ^ 64 - 1 = rw kept.port_faults spill in
      same_coming query book' now
      (comes store name file query book' now after stays few (well_since before after read' kept well) (spills_since name before after read' kept calm) ending fed there)
      (comes store name file query book' now other stays few (well_since before other read' kept well') (spills_since name before other read' kept calm') ending' fed' by')
  same_named query (inl (book, read, has, by)) (inr stops') = absurd (not_either book_once openings book before other read ending' opens read_well' fed' has stops')
  same_named query (inr stops) (inl (book', read', has', by')) = absurd (not_either book_once openings book' before after read' ending opens read_well fed has' stops)
  same_named query (inr stops) (inr stops') =
      let both = one_fault book_once openings before after other ending ending' opens read_well read_well' fed fed' stops stops' in
      (both.0, same_runs name after other both.1)

  same_asking : (r s : Result Query BadParameter) → r ≡ s → AsksFor (SpillsBy store name) openings r before after ending → AsksFor (SpillsBy store name) openings s before other ending' → BothCome
  same_asking r s is by by' = of_one s (subst (λ (q : Result Query BadParameter). AsksFor (SpillsBy store name) openings q before after ending) is by) by'
    where
      of_one : (q : Result Query BadParameter) → AsksFor (SpillsBy store name) openings q before after ending → AsksFor (SpillsBy store name) openings q before other ending' → BothCome
      of_one (Err bad) by by' = (by.0 ∙ sym by'.0, same_runs name after other (by.1 ∙ sym by'.1))
      of_one (Ok query) by by' = same_named query by by'

  pub one_spilling : (text : List ℕ) → OneQuery → QueriesBy (SpillsBy store name) text openings before after ending → QueriesBy (SpillsBy store name) text openings before other ending' → BothCome
  one_spilling text query (inl a) second = absurd (fed (ap status_of a.0))
  one_spilling text query (inr a) (inl b) = absurd (fed' (ap status_of b.0))
  one_spilling text query (inr a) (inr b) = same_asking a.0 b.0 (query text a.0 b.0 a.1 b.1) a.2 b.2
