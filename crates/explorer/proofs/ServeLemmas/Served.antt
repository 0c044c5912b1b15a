-- What files and doors came to, from what the workers did and were told.
use Rattle.std.proofs.Common.{◌≡◌, ◌⊎◌, ℕ, zero, suc, ◌+◌, ◌<◌, ◌≤◌, List, [], ◌∷◌, ◌++◌, Option, None, Some, IfSome, length, map, slice_index_or, refl, sym, ap, subst, ◌∙◌, append_assoc, inl, inr, arith}
use Rattle.std.specs.List.{AllByRecursion, AllZip, flat_map}
use Rattle.std.specs.Option.{option_or}
use Rattle.std.specs.Prelude.{sum_by, Result, Ok, Err, IfOk, Vec}
use Rattle.std.specs.Global.{Global}
use Rattle.std.proofs.lemmas.List.{length-append, length-map}
use Rattle.std.proofs.lemmas.List.Sums.{sum_by-append, sum_by-cons}
use Rattle.std.proofs.lemmas.Slice.Zip.{AllZip-long}
use Rattle.std.proofs.lemmas.Option.{IfSome_then, same_Some}
use Rattle.outside.specs.Doors.{Connections}
use Rattle.outside.specs.Stream.{NeverFalls, Reads, Rises, Stream}
use Rattle.outside.proofs.StreamLemmas.{never_falls-same, never_falls-trans, rises-later, rises-stays}
use Rattle.host.specs.Hosts.{ADisk, ADoor, AFile, APort, Counts, DoorBack, DoorsOut, FileBack, FileOut, HostCall, HostState, Thing, added, handed, noted, returned}
use Rattle.explorer_model.specs.declared.archive.Batch.{Batch}
use Rattle.explorer_model.specs.declared.fault.Refusal.{Refusal}
use Rattle.explorer_model.specs.Cuts.{cuts}
use Rattle.explorer_model.specs.Imports.{groups}
use Rattle.explorer_model.specs.Labels.{no_label}
use Rattle.explorer_model.specs.Openings.{NamedPosition}
use Rattle.explorer_model.specs.Timeline.{IsPrefix}
use Rattle.explorer_model.proofs.Timelines.{prefix-self, prefix-trans}
use Rattle.published_index.specs.Places.{Drawing, new_drawing}
use Rattle.published_index.specs.States.{Watching, watching}
use Rattle.ingest_desk.specs.Drawn.{DrawsFor, most_untold}
use Rattle.ingest_desk.specs.Importers.{ending_of}
use Rattle.ingest_desk.specs.Reporting.{AccountsTo, games_of}
use Rattle.ingest_desk.specs.declared.report.End.{End}
use Rattle.ingest_desk.specs.declared.report.End.TheVariants as ends
use Rattle.ingest_desk.specs.declared.report.ImportEnding.{ImportEnding}
use Rattle.ingest_desk.specs.declared.report.ImportEnding.TheVariants as endings
use Rattle.ingest_desk.specs.declared.report.Report.{Report}
use Rattle.import_run.specs.Ending.{ReadFaultsAre}
use Rattle.import_run.specs.EndingBeside.{ImportsBeside, StandsBeside}
use Rattle.session.specs.declared.doors.DoorEnd.{DoorEnd}
use Rattle.session.specs.declared.doors.DoorEnd.TheVariants as door_ends
use Rattle.session.specs.Doors.{AreServed, DoorServed, EndsDoor}
use Rattle.session.specs.Replies.{Offer, with_players}
use Rattle.session.specs.Exchanges.{Backend, backend}
use Rattle.session.specs.Steps.{KnowsEnd}
use Rattle.session.proofs.DrawnLemmas.{parts-stay}
use Rattle.session.proofs.StoredLemmas.{are-drawn, has-stored-body, receipts-stand, repeats-known}
use Rattle.explorer.specs.declared.fault.Fault.{Fault}
use Rattle.explorer.specs.declared.fault.Fault.TheVariants as faults
use Rattle.explorer.specs.declared.serve.workers.FileWork.{FileWork}
use Rattle.explorer.specs.declared.serve.workers.ReaderWork.{ReaderWork}
use Rattle.explorer.specs.declared.serve.workers.Worker.{Worker}
use Rattle.explorer.specs.declared.serve.workers.Worker.TheVariants.{File, Reader, Merger}
use Rattle.explorer.specs.Serve.Served.{AccountsSo, DoorRun, DrewFrom, FileRun, FindsFull, IsFullBy, IsImported, IsKeptIn, IsSeenIn, IsServedFrom, IsServedIn, IsStoredIn, ReadsSo, drawn_in, fault_of_door, fault_of_doors, fault_of_import, file_at, file_lines, files_back, first_fault, importer_with, new_importer, serve_report}
use Rattle.explorer.specs.Serve.Serving.{AreOut, WorksOver, due, lines_told}
use Rattle.explorer.specs.Serve.Workers.{AreNamed, CanReturn, GivenBack, HasReader, HasReaders, HasReport, HaveReaders, TakesWorker, ImportsFile, IsFileOf, IsReaderOf, IsTold, ServesDoor, Works, call_of, calls_of, drawings_by, drawings_in, drawings_of, fault_in, fault_of, lines_in, lines_of, name_at, parts_of, places_of}

-- ---- one file

accounts-so : {J : Type 0} (end : End J) (stream : List ℕ) (left : Option (List ℕ)) (batches : List Batch) (refused : List Refusal)
    → AccountsTo no_label end (groups (cuts stream)) batches refused → StandsBeside no_label end stream left batches refused
    → AccountsSo (ending_of end) stream left batches refused
accounts-so ends.Whole stream left batches refused a stands = a
accounts-so (ends.ReadFault before after) stream left batches refused a stands = stands.1
accounts-so (ends.DiskFault before after mark) stream left batches refused a stands = (stands.0, stands.1)
accounts-so (ends.Closed before after mark) stream left batches refused a stands = stands
accounts-so (ends.Full games bytes note) stream left batches refused a stands = (stands.0, stands.1, note, stands.2)
accounts-so (ends.TooMuch bytes) stream left batches refused a stands = stands.1
accounts-so ends.OutOfMemory stream left batches refused a stands = stands

reads-so : {J : Type 0} (end : End J) (stream : List ℕ) (before after : Stream) (batches : List Batch) (refused : List Refusal)
    → ReadFaultsAre end before after → StandsBeside no_label end stream after.left batches refused
    → ReadsSo (ending_of end) stream before after
reads-so ends.Whole stream before after batches refused f s = (s.0, s.1, f)
reads-so (ends.ReadFault from to) stream before after batches refused f s = (s.0, rw (sym f.0, sym f.1) f.2)
reads-so (ends.DiskFault from to mark) stream before after batches refused f s = (s.1.below, f)
reads-so (ends.Closed from to mark) stream before after batches refused f s = (s.1.below, f)
reads-so (ends.Full games bytes note) stream before after batches refused f s = (s.1.below, f)
reads-so (ends.TooMuch bytes) stream before after batches refused f s = (s.0, s.1.at, f)
reads-so ends.OutOfMemory stream before after batches refused f s = (s.below, f)

-- what a file came to by its report, and by what was drawn
abbrev run_of : {J : Type 0} → Stream → Report J → Drawing → FileRun
run_of file report drawing =
    record { file = file; ending = ending_of report.end; refused = report.refused.items; drawing = drawing }

imported : {J : Type 0} (before after : Stream) (report : Report J) (drawing : Drawing) → ImportsBeside no_label before after report
    → IsImported before (run_of after report drawing)
imported before after report drawing i = record {
  stream = i.stream;
  reads = i.reads;
  read_so = reads-so report.end i.stream before after i.comes.reports.batches report.refused.items i.faults i.comes.stands;
  batches = i.comes.reports.batches;
  accounts = accounts-so report.end i.stream after.left i.comes.reports.batches report.refused.items i.comes.reports.accounts i.comes.stands;
}

whole-ending : (ending : ImportEnding) → fault_of_import ending ≡ None → ending ≡ endings.Whole
whole-ending endings.Whole none = refl
whole-ending (endings.ReadFault before after) none = absurd (cc)
whole-ending (endings.DiskFault before after) none = absurd (cc)
whole-ending (endings.Closed before after) none = absurd (cc)
whole-ending (endings.Full games bytes) none = absurd (cc)
whole-ending (endings.TooMuch bytes) none = absurd (cc)
whole-ending endings.OutOfMemory none = absurd (cc)

whole-end : {J : Type 0} (end : End J) → ending_of end ≡ endings.Whole → end ≡ ends.Whole
whole-end ends.Whole is = refl
whole-end (ends.ReadFault before after) is = absurd (cc)
whole-end (ends.DiskFault before after mark) is = absurd (cc)
whole-end (ends.Closed before after mark) is = absurd (cc)
whole-end (ends.Full games bytes note) is = absurd (cc)
whole-end (ends.TooMuch bytes) is = absurd (cc)
whole-end ends.OutOfMemory is = absurd (cc)

stored-in : {J : Type 0} (journal : List Batch) (before after : Stream) (report : Report J) (drawing : Drawing) → ImportsBeside no_label before after report
    → HasReport journal (Some report) → fault_of_import (ending_of report.end) ≡ None
    → IsStoredIn journal before (run_of after report drawing)
stored-in {J} journal before after report drawing i has none =
    let ending = whole-ending (ending_of report.end) none in
    let whole = whole-end report.end ending in
    let accounts = subst (λ (end : End J). AccountsTo no_label end (groups (cuts i.stream)) i.comes.reports.batches report.refused.items) whole i.comes.reports.accounts in
    let stands = subst (λ (end : End J). StandsBeside no_label end i.stream after.left i.comes.reports.batches report.refused.items) whole i.comes.stands in
    record {
      whole = ending;
      stream = i.stream;
      reads = i.reads;
      at_end = stands.0;
      below = stands.1;
      games = games_of report.receipts.items;
      stored = has-stored-body i.stream report journal i.comes.reports accounts has.0 has.1;
    }

-- what an import stored stands in a journal that has all that was told
kept-in : {J : Type 0} (journal : List Batch) (before after : Stream) (report : Report J) (drawing : Drawing) → ImportsBeside no_label before after report
    → HasReport journal (Some report) → DrawsFor (most_untold (ending_of report.end)) report.receipts.items new_drawing drawing
    → IsKeptIn journal before (run_of after report drawing)
unfolding imported
kept-in journal before after report drawing i has draws = record {
  imported = imported before after report drawing i;
  stand = receipts-stand 0 report.receipts.items i.comes.reports.batches journal i.comes.reports.are_receipts has.0;
  drawn = are-drawn (most_untold (ending_of report.end)) report.receipts.items i.comes.reports.batches journal new_drawing drawing
      i.comes.reports.are_receipts has.0 draws;
  repeats = repeats-known (cuts i.stream) report.clashes.items report.refused.items journal has.1 i.comes.reports.repeats;
}

-- where an import found no room, a journal that has all that was told has none
full-by : {J : Type 0} (end : End J) (journal : List Batch) (file : Stream) (run : FileRun) (stream : List ℕ) (batches : List Batch)
    → Reads stream file run.file → KnowsEnd end journal → AccountsTo no_label end (groups (cuts stream)) batches run.refused
    → IsFullBy (ending_of end) journal file run
full-by ends.Whole journal file run stream batches reads knows a = tt
full-by (ends.ReadFault before after) journal file run stream batches reads knows a = tt
full-by (ends.DiskFault before after mark) journal file run stream batches reads knows a = tt
full-by (ends.Closed before after mark) journal file run stream batches reads knows a = tt
full-by (ends.Full games bytes note) journal file run stream batches reads knows a = record {
  stream = stream;
  reads = reads;
  batches = batches;
  left = a.0;
  breaks = a.1;
  no_room = record { front = note; is_front = knows; no_room = a.2 };
}
full-by (ends.TooMuch bytes) journal file run stream batches reads knows a = tt
full-by ends.OutOfMemory journal file run stream batches reads knows a = tt

full-in : {J : Type 0} (journal : List Batch) (before after : Stream) (report : Report J) (drawing : Drawing) → ImportsBeside no_label before after report
    → HasReport journal (Some report) → FindsFull journal before (run_of after report drawing)
full-in journal before after report drawing i has =
    full-by report.end journal before (run_of after report drawing) i.stream i.comes.reports.batches i.reads has.2 i.comes.reports.accounts

-- ---- the files

or-none : {A : Type 0} (o p : Option A) → option_or o p ≡ None → (o ≡ None) × (p ≡ None)
or-none None p is = (refl, is)
or-none (Some x) p is = absurd (cc)

pub name-at-front : (front : List (List ℕ)) (name : List ℕ) (names : List (List ℕ)) (at : ℕ) → at ≡ length front
    → name_at (front ++ name ∷ names) at ≡ name
name-at-front [] name names at is = ap (λ (n : ℕ). slice_index_or (name ∷ names) n []) is
name-at-front (n ∷ front) name names at is =
    ap (λ (k : ℕ). slice_index_or ((n ∷ front) ++ name ∷ names) k []) is
    ∙ name-at-front front name names (length front) refl

no-lines : {F G J : Type 0} (workers : List (Worker F G J)) → lines_in [] workers ≡ []
no-lines [] = refl
no-lines (w ∷ ws) = refl

module _ {F G J : Type 0} (book : List NamedPosition) (source : F → Stream) (door : G → Connections) (all : List (List ℕ)) (host : HostState) where
  -- what the files of these names came to, which stand from this place on before other workers
  pub record FileRuns (names : List (List ℕ)) (at : ℕ) (files others : List (Worker F G J)) : Type 0 where
    pub runs : List FileRun
    pub imported : AllZip IsImported (map (file_at host) names) runs
    pub calls : calls_of source door all at (files ++ others)
        ≡ files_back names (map (λ run. run.file) runs) ++ calls_of source door all (at + length names) others
    pub lines : lines_in names (files ++ others) ≡ serve_report names runs
    pub first : (doors : List DoorRun) → fault_in others ≡ fault_of_doors doors
        → fault_in (files ++ others) ≡ first_fault runs doors
    pub kept : (journal : List Batch) → AllByRecursion (IsTold journal) files
        → AllZip (IsKeptIn journal) (map (file_at host) names) runs
    pub stored : (journal : List Batch) → AllByRecursion (IsTold journal) files → fault_in (files ++ others) ≡ None
        → AllZip (IsStoredIn journal) (map (file_at host) names) runs
    pub full : (journal : List Batch) → AllByRecursion (IsTold journal) files
        → AllZip (FindsFull journal) (map (file_at host) names) runs
    pub parts : parts_of (drawings_in files) ≡ length names
    pub places : places_of (drawings_in files) ≡ flat_map (λ run. run.drawing.drawn) runs

  no-files : (at : ℕ) (others : List (Worker F G J)) → FileRuns [] at [] others
  no-files at others =
      let same : at ≡ at + 0 = omega arith in record {
        runs = [];
        imported = tt;
        calls = ap (λ (n : ℕ). calls_of source door all n others) same;
        lines = no-lines others;
        first = λ doors is. is;
        kept = λ journal told. tt;
        stored = λ journal told none. tt;
        full = λ journal told. tt;
        parts = refl;
        places = refl;
      }

  one-file : (name : List ℕ) (names : List (List ℕ)) (at : ℕ) (file file' : FileWork F J) (files others : List (Worker F G J))
      → name_at all at ≡ name → (source file.source ≡ file_at host name) × (file.drawer ≡ new_drawing) → ImportsFile source file file'
      → FileRuns names (at + 1) files others → FileRuns (name ∷ names) at (File file' ∷ files) others
  one-file name names at file file' files others name_is stood i rest =
      let run = run_of (source file'.source) i.report file'.drawer in
      let draws = subst (λ (d : Drawing). DrawsFor (most_untold (ending_of i.report.end)) i.report.receipts.items d file'.drawer) stood.1 i.drawn in
      let part : file'.drawer.parts ≡ 1 = ap (λ (d : Drawing). d.parts) draws.drawn in
      let imports = subst (λ (s : Stream). ImportsBeside no_label s (source file'.source) i.report) stood.0 i.imports in
      let fault : fault_of {F = F} {G = G} {J = J} (File file') ≡ fault_of_import run.ending = ap (λ (r : Option (Report J)). fault_of {F = F} {G = G} {J = J} (File (record { source = file'.source; drawer = file'.drawer; report = r }))) i.report_is in
      let place : at + 1 + length names ≡ at + length (name ∷ names) = omega arith in
      record {
        runs = run ∷ rest.runs;
        imported = (imported (file_at host name) (source file'.source) i.report file'.drawer imports, rest.imported);
        calls = ap (λ (n : List ℕ). FileBack n (source file'.source) ∷ calls_of source door all (at + 1) (files ++ others)) name_is
            ∙ ap (λ (cs : List HostCall). FileBack name (source file'.source) ∷ cs)
            (rest.calls ∙ ap (λ (n : ℕ). files_back names (map (λ run. run.file) rest.runs) ++ calls_of source door all n others) place);
        lines = ap (λ (l : List ℕ). l ++ lines_in names (files ++ others))
            (ap (λ (r : Option (Report J)). lines_of {F = F} {G = G} {J = J} name (File (record { source = file'.source; drawer = file'.drawer; report = r }))) i.report_is)
            ∙ ap (λ (l : List ℕ). file_lines name i.report.refused.items ++ l) rest.lines;
        first = λ doors is. ap (λ (o : Option Fault). option_or o (fault_in (files ++ others))) fault
            ∙ ap (λ (o : Option Fault). option_or (fault_of_import run.ending) o) (rest.first doors is);
        kept = λ journal told. (
          kept-in journal (file_at host name) (source file'.source) i.report file'.drawer imports
              (subst (λ (r : Option (Report J)). HasReport journal r) i.report_is told.0) draws,
          rest.kept journal told.1,
        );
        stored = λ journal told none.
            let both = or-none (fault_of {F = F} {G = G} {J = J} (File file')) (fault_in (files ++ others)) none in (
              stored-in journal (file_at host name) (source file'.source) i.report file'.drawer imports
                  (subst (λ (r : Option (Report J)). HasReport journal r) i.report_is told.0) (sym fault ∙ both.0),
              rest.stored journal told.1 both.1,
            );
        full = λ journal told. (
          full-in journal (file_at host name) (source file'.source) i.report file'.drawer imports
              (subst (λ (r : Option (Report J)). HasReport journal r) i.report_is told.0),
          rest.full journal told.1,
        );
        parts = omega (arith, part, rest.parts);
        places = ap (λ (places : List ℕ). file'.drawer.drawn ++ places) rest.places;
      }

  pub file-runs : (front names : List (List ℕ)) (at : ℕ) (files files' others : List (Worker F G J))
      → all ≡ front ++ names → at ≡ length front
      → AllZip (IsFileOf source host) names files → AllZip (Works book source door) files files'
      → FileRuns names at files' others
  file-runs front [] at [] [] others is place are works = no-files at others
  file-runs front [] at [] (w ∷ ws) others is place are works = absurd works
  file-runs front [] at (w ∷ ws) files' others is place are works = absurd are
  file-runs front (n ∷ ns) at [] files' others is place are works = absurd are
  file-runs front (n ∷ ns) at (w ∷ ws) [] others is place are works = absurd works
  file-runs front (n ∷ ns) at (File f ∷ ws) (File f' ∷ ws') others is place are works =
      let name = ap (λ (l : List (List ℕ)). name_at l at) is ∙ name-at-front front n ns at place in
      let next : at + 1 ≡ length (front ++ n ∷ []) = omega (arith, place, length-append front (n ∷ [])) in
      one-file n ns at f f' ws' others name are.0 works.0
      (file-runs (front ++ n ∷ []) ns (at + 1) ws ws' others (is ∙ sym (append_assoc front (n ∷ []) ns)) next are.1 works.1)
  file-runs front (n ∷ ns) at (File f ∷ ws) (Reader r ∷ ws') others is place are works = absurd works.0
  file-runs front (n ∷ ns) at (File f ∷ ws) (Merger ∷ ws') others is place are works = absurd works.0
  file-runs front (n ∷ ns) at (Reader r ∷ ws) (w' ∷ ws') others is place are works = absurd are.0
  file-runs front (n ∷ ns) at (Merger ∷ ws) (w' ∷ ws') others is place are works = absurd are.0

-- ---- the doors

-- what a pass has seen once connections were served begins with what it had seen before
pub served-grows : (offer : Offer) (before : Backend) (came went : List Stream) (after : Backend) → AreServed offer before came went after
    → IsPrefix before.pass.seen after.pass.seen
served-grows offer before [] [] after are = subst (λ (b : Backend). IsPrefix before.pass.seen b.pass.seen) (sym are) (prefix-self before.pass.seen)
served-grows offer before (x ∷ xs) (y ∷ ys) after are =
    prefix-trans before.pass.seen are.1.pass.seen after.pass.seen are.2.grew (served-grows offer are.1 xs ys after are.3)
served-grows offer before [] (y ∷ ys) after are = absurd are
served-grows offer before (x ∷ xs) [] after are = absurd are

whole-door : (end : DoorEnd) → fault_of_door end ≡ None → end ≡ door_ends.Whole
whole-door door_ends.Whole none = refl
whole-door door_ends.AcceptFault none = absurd (cc)

module _ {F G J : Type 0} (book : List NamedPosition) (source : F → Stream) (door : G → Connections) (all : List (List ℕ)) (opening : List Batch) where
  -- what doors came to, whose readers stand from this place on before the one that merges
  pub record DoorRuns (handed : List Connections) (at : ℕ) (readers : List (Worker F G J)) : Type 0 where
    pub runs : List DoorRun
    pub served : AllZip (IsServedFrom book opening) handed runs
    pub calls : calls_of source door all at (readers ++ Merger ∷ []) ≡ map (λ run. DoorBack run.connections) runs
    pub first : fault_in (readers ++ Merger ∷ []) ≡ fault_of_doors runs
    pub served_in : (journal : List Batch) → AllByRecursion (IsTold journal) readers
        → fault_in (readers ++ Merger ∷ []) ≡ None → AllZip (IsServedIn book opening journal) handed runs
    pub seen : (journal : List Batch) → AllByRecursion (IsTold journal) readers → AllZip (IsSeenIn book opening journal) handed runs
    pub parts : parts_of (drawings_in readers) ≡ length handed
    pub places : places_of (drawings_in readers) ≡ flat_map (λ run. run.drawing.drawn) runs

  one-door : (handed : Connections) (others : List Connections) (at : ℕ) (reader reader' : ReaderWork G J) (readers : List (Worker F G J))
      → IsReaderOf {F = F} {J = J} door opening handed (Reader reader) → ServesDoor book door reader reader'
      → DoorRuns others (at + 1) readers → DoorRuns (handed ∷ others) at (Reader reader' ∷ readers)
  one-door handed others at reader reader' readers is s rest =
      let run : DoorRun = record { connections = door reader'.door; end = reader'.end; drawing = s.importer.drawing } in
      let lent : s.lent ≡ new_drawing = same_Some s.lent new_drawing (sym s.lent_is ∙ is.2) in
      let before = λ (p : Watching). λ (d : Drawing). backend p (importer_with d) in
      let last = backend reader'.pass s.importer in
      let served = subst (λ (d : Drawing). DoorServed (with_players book) handed (before (watching opening) d) (door reader'.door) last) lent
      (subst (λ (p : Watching). DoorServed (with_players book) handed (before p s.lent) (door reader'.door) last) is.1
      (subst (λ (d : Connections). DoorServed (with_players book) d (before reader.pass s.lent) (door reader'.door) last) is.0 s.served)) in
      let ended = subst (λ (d : Connections). EndsDoor reader'.end d (door reader'.door)) is.0 s.ends in
      let mine : drawings_of {F = F} {G = G} {J = J} (Reader reader') ≡ s.importer.drawing ∷ [] =
      ap drawings_by s.drawer in
      let part : s.importer.drawing.parts ≡ 1 =
      parts-stay (with_players book) (backend (watching opening) new_importer) served.came served.went last served.served in
      let from : IsServedFrom book opening handed run = record {
        last = last;
        served = served;
        ends = ended;
        drawn = refl;
        begins = served-grows (with_players book) (backend (watching opening) new_importer) served.came served.went last served.served;
      } in
      record {
        runs = run ∷ rest.runs;
        served = (from, rest.served);
        calls = ap (λ (cs : List HostCall). DoorBack (door reader'.door) ∷ cs) rest.calls;
        first = ap (λ (o : Option Fault). option_or (fault_of_door reader'.end) o) rest.first;
        served_in = λ journal told none.
            let both = or-none (fault_of_door reader'.end) (fault_in (readers ++ Merger ∷ [])) none in
            let whole = whole-door reader'.end both.0 in (
              record {
                from = from;
                whole = whole;
                none_left = (subst (λ (end : DoorEnd). EndsDoor end handed (door reader'.door)) whole ended).0;
                front = told.0;
              },
              rest.served_in journal told.1 both.1,
            );
        seen = λ journal told. (record { from = from; front = told.0 }, rest.seen journal told.1);
        parts = ap (λ (ds : List Drawing). parts_of (ds ++ drawings_in readers)) mine ∙ omega (arith, part, rest.parts);
        places = ap (λ (ds : List Drawing). places_of (ds ++ drawings_in readers)) mine
            ∙ ap (λ (places : List ℕ). s.importer.drawing.drawn ++ places) rest.places;
      }

  pub door-runs : (handed : List Connections) (at : ℕ) (readers readers' : List (Worker F G J))
      → AllZip (IsReaderOf door opening) handed readers → AllZip (Works book source door) readers readers'
      → DoorRuns handed at readers'
  door-runs [] at [] [] are works = record { runs = []; served = tt; calls = refl; first = refl; served_in = λ journal told none. tt; seen = λ journal told. tt; parts = refl; places = refl }
  door-runs [] at [] (w ∷ ws) are works = absurd works
  door-runs [] at (w ∷ ws) readers' are works = absurd are
  door-runs (d ∷ ds) at [] readers' are works = absurd are
  door-runs (d ∷ ds) at (w ∷ ws) [] are works = absurd works
  door-runs (d ∷ ds) at (Reader r ∷ ws) (Reader r' ∷ ws') are works =
      one-door d ds at r r' ws' are.0 works.0 (door-runs ds (at + 1) ws ws' are.1 works.1)
  door-runs (d ∷ ds) at (Reader r ∷ ws) (File f ∷ ws') are works = absurd works.0
  door-runs (d ∷ ds) at (Reader r ∷ ws) (Merger ∷ ws') are works = absurd works.0
  door-runs (d ∷ ds) at (File f ∷ ws) (w' ∷ ws') are works = absurd are.0
  door-runs (d ∷ ds) at (Merger ∷ ws) (w' ∷ ws') are works = absurd are.0

-- ---- counts of the host

counts-never : (faults before after : ℕ) → Counts faults before after → NeverFalls before after
counts-never zero before after c = never_falls-same before after (c.same refl)
counts-never (suc n) before after c = (c.rises (omega arith)).never_falls

-- a read of a file failed that comes back
abbrev pub ReadFailed : {F G J : Type 0} → (F → Stream) → List (Worker F G J) → Type 0
ReadFailed source [] = ⊥
ReadFailed source (File file ∷ workers) = (0 < (source file.source).read_faults) ⊎ ReadFailed source workers
ReadFailed source (Reader reader ∷ workers) = ReadFailed source workers
ReadFailed source (Merger ∷ workers) = ReadFailed source workers

-- a door failed to accept that comes back
abbrev pub AcceptFailed : {F G J : Type 0} → (G → Connections) → List (Worker F G J) → Type 0
AcceptFailed door [] = ⊥
AcceptFailed door (File file ∷ workers) = AcceptFailed door workers
AcceptFailed door (Reader reader ∷ workers) = (0 < (door reader.door).faults) ⊎ AcceptFailed door workers
AcceptFailed door (Merger ∷ workers) = AcceptFailed door workers

module _ {F G J : Type 0} (source : F → Stream) (door : G → Connections) (names : List (List ℕ)) where
  one-files-never : (name : List ℕ) (worker : Worker F G J) (before after : HostState) → TakesWorker source door name worker before after
      → NeverFalls before.file_faults after.file_faults
  one-files-never name (File f) before after takes =
      counts-never (source f.source).read_faults before.file_faults after.file_faults takes.counts
  one-files-never name (Reader r) before after takes =
      never_falls-same before.file_faults after.file_faults (ap (λ (h : HostState). h.file_faults) takes.rest)
  one-files-never name Merger before after takes =
      never_falls-same before.file_faults after.file_faults (ap (λ (h : HostState). h.file_faults) takes)

  one-doors-never : (name : List ℕ) (worker : Worker F G J) (before after : HostState) → TakesWorker source door name worker before after
      → NeverFalls before.door_faults after.door_faults
  one-doors-never name (File f) before after takes =
      never_falls-same before.door_faults after.door_faults (ap (λ (h : HostState). h.door_faults) takes.rest)
  one-doors-never name (Reader r) before after takes =
      counts-never (door r.door).faults before.door_faults after.door_faults takes.counts
  one-doors-never name Merger before after takes =
      never_falls-same before.door_faults after.door_faults (ap (λ (h : HostState). h.door_faults) takes)

  files-never : (at : ℕ) (workers : List (Worker F G J)) (before after : HostState) → GivenBack source door names at workers before after
      → NeverFalls before.file_faults after.file_faults
  files-never at [] before after back = never_falls-same before.file_faults after.file_faults (ap (λ (h : HostState). h.file_faults) back)
  files-never at (w ∷ ws) before after back =
      never_falls-trans before.file_faults back.0.file_faults after.file_faults (files-never (at + 1) ws before back.0 back.1)
      (one-files-never (name_at names at) w back.0 after back.2)

  doors-never : (at : ℕ) (workers : List (Worker F G J)) (before after : HostState) → GivenBack source door names at workers before after
      → NeverFalls before.door_faults after.door_faults
  doors-never at [] before after back = never_falls-same before.door_faults after.door_faults (ap (λ (h : HostState). h.door_faults) back)
  doors-never at (w ∷ ws) before after back =
      never_falls-trans before.door_faults back.0.door_faults after.door_faults (doors-never (at + 1) ws before back.0 back.1)
      (one-doors-never (name_at names at) w back.0 after back.2)

  files-rise : (at : ℕ) (workers : List (Worker F G J)) (before after : HostState) → GivenBack source door names at workers before after
      → ReadFailed source workers → Rises before.file_faults after.file_faults
  files-rise at [] before after back failed = absurd failed
  files-rise at (File f ∷ ws) before after back (inl some) =
      rises-later before.file_faults back.0.file_faults after.file_faults (files-never (at + 1) ws before back.0 back.1) (back.2.counts.rises some)
  files-rise at (File f ∷ ws) before after back (inr failed) =
      rises-stays before.file_faults back.0.file_faults after.file_faults (files-rise (at + 1) ws before back.0 back.1 failed)
      (one-files-never (name_at names at) (File f) back.0 after back.2)
  files-rise at (Reader r ∷ ws) before after back failed =
      rises-stays before.file_faults back.0.file_faults after.file_faults (files-rise (at + 1) ws before back.0 back.1 failed)
      (one-files-never (name_at names at) (Reader r) back.0 after back.2)
  files-rise at (Merger ∷ ws) before after back failed =
      rises-stays before.file_faults back.0.file_faults after.file_faults (files-rise (at + 1) ws before back.0 back.1 failed)
      (one-files-never (name_at names at) Merger back.0 after back.2)

  doors-rise : (at : ℕ) (workers : List (Worker F G J)) (before after : HostState) → GivenBack source door names at workers before after
      → AcceptFailed door workers → Rises before.door_faults after.door_faults
  doors-rise at [] before after back failed = absurd failed
  doors-rise at (Reader r ∷ ws) before after back (inl some) =
      rises-later before.door_faults back.0.door_faults after.door_faults (doors-never (at + 1) ws before back.0 back.1) (back.2.counts.rises some)
  doors-rise at (Reader r ∷ ws) before after back (inr failed) =
      rises-stays before.door_faults back.0.door_faults after.door_faults (doors-rise (at + 1) ws before back.0 back.1 failed)
      (one-doors-never (name_at names at) (Reader r) back.0 after back.2)
  doors-rise at (File f ∷ ws) before after back failed =
      rises-stays before.door_faults back.0.door_faults after.door_faults (doors-rise (at + 1) ws before back.0 back.1 failed)
      (one-doors-never (name_at names at) (File f) back.0 after back.2)
  doors-rise at (Merger ∷ ws) before after back failed =
      rises-stays before.door_faults back.0.door_faults after.door_faults (doors-rise (at + 1) ws before back.0 back.1 failed)
      (one-doors-never (name_at names at) Merger back.0 after back.2)

-- the first fault that there is, is one of the two
or-either : {A : Type 0} (o p : Option A) (x : A) → option_or o p ≡ Some x → (o ≡ Some x) ⊎ (p ≡ Some x)
or-either None p x is = inr is
or-either (Some y) p x is = inl is

either-map : {A B C D : Type 0} → A ⊎ B → (A → C) → (B → D) → C ⊎ D
either-map (inl a) f g = inl (f a)
either-map (inr b) f g = inr (g b)

either-last : {A B : Type 0} → A ⊎ B → (A → ⊥) → B
either-last (inl a) never = absurd (never a)
either-last (inr b) never = b

import-read : {J : Type 0} (end : End J) (old new : Stream) → ReadFaultsAre end old new → fault_of_import (ending_of end) ≡ Some faults.ReadFault
    → 0 < new.read_faults
import-read ends.Whole old new f is = absurd (cc)
import-read (ends.ReadFault from to) old new f is = omega (arith, f.1, f.2.rose)
import-read (ends.DiskFault from to mark) old new f is = absurd (cc)
import-read (ends.Closed from to mark) old new f is = absurd (cc)
import-read (ends.Full games bytes note) old new f is = absurd (cc)
import-read (ends.TooMuch bytes) old new f is = absurd (cc)
import-read ends.OutOfMemory old new f is = absurd (cc)

import-accepts : (ending : ImportEnding) → fault_of_import ending ≡ Some faults.CannotAccept → ⊥
import-accepts endings.Whole is = absurd (cc)
import-accepts (endings.ReadFault from to) is = absurd (cc)
import-accepts (endings.DiskFault from to) is = absurd (cc)
import-accepts (endings.Closed from to) is = absurd (cc)
import-accepts (endings.Full games bytes) is = absurd (cc)
import-accepts (endings.TooMuch bytes) is = absurd (cc)
import-accepts endings.OutOfMemory is = absurd (cc)

door-reads : (end : DoorEnd) → fault_of_door end ≡ Some faults.ReadFault → ⊥
door-reads door_ends.Whole is = absurd (cc)
door-reads door_ends.AcceptFault is = absurd (cc)

door-accepts : (end : DoorEnd) (old new : Connections) → EndsDoor end old new → fault_of_door end ≡ Some faults.CannotAccept → 0 < new.faults
door-accepts door_ends.Whole old new e is = absurd (cc)
door-accepts door_ends.AcceptFault old new e is = omega (arith, e.1.rose)

module _ {F G J : Type 0} (book : List NamedPosition) (source : F → Stream) (door : G → Connections) where
  fault-is : (file file' : FileWork F J) (i : ImportsFile source file file')
      → fault_of {F = F} {G = G} {J = J} (File file') ≡ fault_of_import (ending_of i.report.end)
  fault-is file file' i = ap (λ (r : Option (Report J)). fault_of {F = F} {G = G} {J = J} (File (record { source = file'.source; drawer = file'.drawer; report = r }))) i.report_is

  read-failed : (workers returned : List (Worker F G J)) → AllZip (Works book source door) workers returned
      → fault_in returned ≡ Some faults.ReadFault → ReadFailed source returned
  read-failed [] [] works is = absurd (cc)
  read-failed [] (w ∷ ws) works is = absurd works
  read-failed (w ∷ ws) [] works is = absurd works
  read-failed (File f ∷ ws) (File f' ∷ ws') works is =
      either-map (or-either (fault_of {F = F} {G = G} {J = J} (File f')) (fault_in ws') faults.ReadFault is)
      (λ o. import-read works.0.report.end (source f.source) (source f'.source) works.0.imports.faults (sym (fault-is f f' works.0) ∙ o))
      (read-failed ws ws' works.1)
  read-failed (Reader r ∷ ws) (Reader r' ∷ ws') works is =
      read-failed ws ws' works.1 (either-last (or-either (fault_of_door r'.end) (fault_in ws') faults.ReadFault is) (door-reads r'.end))
  read-failed (Merger ∷ ws) (Merger ∷ ws') works is = read-failed ws ws' works.1 is
  read-failed (File f ∷ ws) (Reader r ∷ ws') works is = absurd works.0
  read-failed (File f ∷ ws) (Merger ∷ ws') works is = absurd works.0
  read-failed (Reader r ∷ ws) (File f ∷ ws') works is = absurd works.0
  read-failed (Reader r ∷ ws) (Merger ∷ ws') works is = absurd works.0
  read-failed (Merger ∷ ws) (File f ∷ ws') works is = absurd works.0
  read-failed (Merger ∷ ws) (Reader r ∷ ws') works is = absurd works.0

  accept-failed : (workers returned : List (Worker F G J)) → AllZip (Works book source door) workers returned
      → fault_in returned ≡ Some faults.CannotAccept → AcceptFailed door returned
  accept-failed [] [] works is = absurd (cc)
  accept-failed [] (w ∷ ws) works is = absurd works
  accept-failed (w ∷ ws) [] works is = absurd works
  accept-failed (File f ∷ ws) (File f' ∷ ws') works is =
      accept-failed ws ws' works.1 (either-last (or-either (fault_of {F = F} {G = G} {J = J} (File f')) (fault_in ws') faults.CannotAccept is)
      (λ o. import-accepts (ending_of works.0.report.end) (sym (fault-is f f' works.0) ∙ o)))
  accept-failed (Reader r ∷ ws) (Reader r' ∷ ws') works is =
      either-map (or-either (fault_of_door r'.end) (fault_in ws') faults.CannotAccept is)
      (λ o. door-accepts r'.end (door r.door) (door r'.door) works.0.ends o)
      (accept-failed ws ws' works.1)
  accept-failed (Merger ∷ ws) (Merger ∷ ws') works is = accept-failed ws ws' works.1 is
  accept-failed (File f ∷ ws) (Reader r ∷ ws') works is = absurd works.0
  accept-failed (File f ∷ ws) (Merger ∷ ws') works is = absurd works.0
  accept-failed (Reader r ∷ ws) (File f ∷ ws') works is = absurd works.0
  accept-failed (Reader r ∷ ws) (Merger ∷ ws') works is = absurd works.0
  accept-failed (Merger ∷ ws) (File f ∷ ws') works is = absurd works.0
  accept-failed (Merger ∷ ws) (Reader r ∷ ws') works is = absurd works.0

-- ---- all workers

record Splits {A : Type 0} (R : A → A → Type 0) (xs ys all : List A) : Type 0 where
  front : List A
  back : List A
  is : all ≡ front ++ back
  fronts : AllZip R xs front
  backs : AllZip R ys back

splits : {A : Type 0} (R : A → A → Type 0) (xs ys all : List A) → AllZip R (xs ++ ys) all → Splits R xs ys all
splits R [] ys all zip = record { front = []; back = all; is = refl; fronts = tt; backs = zip }
splits R (x ∷ xs) ys [] zip = absurd zip
splits R (x ∷ xs) ys (z ∷ zs) zip =
    let rest = splits R xs ys zs zip.1 in
    record { front = z ∷ rest.front; back = rest.back; is = ap (λ l. z ∷ l) rest.is; fronts = (zip.0, rest.fronts); backs = rest.backs }

all-both : {A : Type 0} (P : A → Type 0) (xs ys : List A) → AllByRecursion P (xs ++ ys) → AllByRecursion P xs × AllByRecursion P ys
all-both P [] ys all = (tt, all)
all-both P (x ∷ xs) ys all = let rest = all-both P xs ys all.1 in ((all.0, rest.0), rest.1)

merger-alone : {F G J : Type 0} (book : List NamedPosition) (source : F → Stream) (door : G → Connections) (workers : List (Worker F G J))
    → AllZip (Works book source door) (Merger ∷ []) workers → workers ≡ Merger ∷ []
merger-alone book source door [] works = absurd works
merger-alone book source door (Merger ∷ []) works = refl
merger-alone book source door (Merger ∷ w ∷ ws) works = absurd works.1
merger-alone book source door (File f ∷ ws) works = absurd works.0
merger-alone book source door (Reader r ∷ ws) works = absurd works.0

reader-behind : {F G J : Type 0} (workers others : List (Worker F G J)) → HasReader others → HasReader (workers ++ others)
reader-behind [] others has = has
reader-behind (File f ∷ ws) others has = reader-behind ws others has
reader-behind (Reader r ∷ ws) others has = tt
reader-behind (Merger ∷ ws) others has = reader-behind ws others has

-- where a reader stands behind each file of the others, one stands behind each file before them
have-readers : {F G J : Type 0} (workers others : List (Worker F G J)) → HasReader others → HaveReaders others → HaveReaders (workers ++ others)
have-readers [] others has have = have
have-readers (File f ∷ ws) others has have = (reader-behind ws others has, have-readers ws others has have)
have-readers (Reader r ∷ ws) others has have = have-readers ws others has have
have-readers (Merger ∷ ws) others has have = have-readers ws others has have

module _ {F G J : Type 0} (book : List NamedPosition) (source : F → Stream) (door : G → Connections) (names : List (List ℕ)) (host : HostState)
    (opening : List Batch) (handed : List Connections) where
  -- the workers when they have returned: those with the files, those with the doors, and the one that merges
  pub record Returned (workers : List (Worker F G J)) : Type 0 where
    pub files : List (Worker F G J)
    pub readers : List (Worker F G J)
    pub are : workers ≡ files ++ (readers ++ Merger ∷ [])
    pub file_runs : FileRuns book source door names host names 0 files (readers ++ Merger ∷ [])
    pub door_runs : DoorRuns book source door names opening handed (0 + length names) readers
    pub named : AreNamed names 0 workers
    pub have : 1 ≤ length handed → HaveReaders workers
    pub long : length names ≤ length workers
    pub read_failed : fault_in workers ≡ Some faults.ReadFault → ReadFailed source workers
    pub accept_failed : fault_in workers ≡ Some faults.CannotAccept → AcceptFailed door workers

  named-others : (at : ℕ) (readers readers' : List (Worker F G J)) (ds : List Connections) → AllZip (IsReaderOf door opening) ds readers
      → AllZip (Works book source door) readers readers' → AreNamed names at (readers' ++ Merger ∷ [])
  named-others at [] [] ds are works = tt
  named-others at [] (w ∷ ws) ds are works = absurd works
  named-others at (w ∷ ws) [] ds are works = absurd works
  named-others at (w ∷ ws) (w' ∷ ws') [] are works = absurd are
  named-others at (Reader r ∷ ws) (Reader r' ∷ ws') (d ∷ ds) are works = named-others (at + 1) ws ws' ds are.1 works.1
  named-others at (Reader r ∷ ws) (File f ∷ ws') (d ∷ ds) are works = absurd works.0
  named-others at (Reader r ∷ ws) (Merger ∷ ws') (d ∷ ds) are works = absurd works.0
  named-others at (File f ∷ ws) (w' ∷ ws') (d ∷ ds) are works = absurd are.0
  named-others at (Merger ∷ ws) (w' ∷ ws') (d ∷ ds) are works = absurd are.0

  named-files : (at : ℕ) (rest : List (List ℕ)) (files files' others : List (Worker F G J)) → at + length rest ≡ length names
      → AllZip (IsFileOf source host) rest files → AllZip (Works book source door) files files'
      → ((n : ℕ) → AreNamed names n others) → AreNamed names at (files' ++ others)
  named-files at [] [] [] others is are works named = named at
  named-files at [] [] (w ∷ ws) others is are works named = absurd works
  named-files at [] (w ∷ ws) files' others is are works named = absurd are
  named-files at (n ∷ ns) [] files' others is are works named = absurd are
  named-files at (n ∷ ns) (w ∷ ws) [] others is are works named = absurd works
  named-files at (n ∷ ns) (File f ∷ ws) (File f' ∷ ws') others is are works named =
      (omega (arith, is), named-files (at + 1) ns ws ws' others (omega (arith, is)) are.1 works.1 named)
  named-files at (n ∷ ns) (File f ∷ ws) (Reader r ∷ ws') others is are works named = absurd works.0
  named-files at (n ∷ ns) (File f ∷ ws) (Merger ∷ ws') others is are works named = absurd works.0
  named-files at (n ∷ ns) (Reader r ∷ ws) (w' ∷ ws') others is are works named = absurd are.0
  named-files at (n ∷ ns) (Merger ∷ ws) (w' ∷ ws') others is are works named = absurd are.0

  reader-among : (readers readers' : List (Worker F G J)) (ds : List Connections) → AllZip (IsReaderOf door opening) ds readers
      → AllZip (Works book source door) readers readers' → 1 ≤ length ds → HasReader (readers' ++ Merger ∷ [])
  reader-among readers readers' [] are works some = absurd (omega (arith, some))
  reader-among [] readers' (d ∷ ds) are works some = absurd are
  reader-among (w ∷ ws) [] (d ∷ ds) are works some = absurd works
  reader-among (Reader r ∷ ws) (Reader r' ∷ ws') (d ∷ ds) are works some = tt
  reader-among (Reader r ∷ ws) (File f ∷ ws') (d ∷ ds) are works some = absurd works.0
  reader-among (Reader r ∷ ws) (Merger ∷ ws') (d ∷ ds) are works some = absurd works.0
  reader-among (File f ∷ ws) (w' ∷ ws') (d ∷ ds) are works some = absurd are.0
  reader-among (Merger ∷ ws) (w' ∷ ws') (d ∷ ds) are works some = absurd are.0

  have-others : (readers readers' : List (Worker F G J)) (ds : List Connections) → AllZip (IsReaderOf door opening) ds readers
      → AllZip (Works book source door) readers readers' → HaveReaders (readers' ++ Merger ∷ [])
  have-others [] [] ds are works = tt
  have-others [] (w ∷ ws) ds are works = absurd works
  have-others (w ∷ ws) [] ds are works = absurd works
  have-others (w ∷ ws) (w' ∷ ws') [] are works = absurd are
  have-others (Reader r ∷ ws) (Reader r' ∷ ws') (d ∷ ds) are works = have-others ws ws' ds are.1 works.1
  have-others (Reader r ∷ ws) (File f ∷ ws') (d ∷ ds) are works = absurd works.0
  have-others (Reader r ∷ ws) (Merger ∷ ws') (d ∷ ds) are works = absurd works.0
  have-others (File f ∷ ws) (w' ∷ ws') (d ∷ ds) are works = absurd are.0
  have-others (Merger ∷ ws) (w' ∷ ws') (d ∷ ds) are works = absurd are.0

  pub returned-workers : (files all all' : List (Worker F G J)) → AllZip (IsFileOf source host) names files
      → HasReaders door opening handed files all → AllZip (Works book source door) all all' → Returned all'
  returned-workers files all all' are h works =
      let R : Worker F G J → Worker F G J → Type 0 = Works book source door in
      let s = splits R files (h.readers ++ Merger ∷ []) all' (subst (λ (ws : List (Worker F G J)). AllZip R ws all') h.are works) in
      let t = splits R h.readers (Merger ∷ []) s.back s.backs in
      let one = merger-alone book source door t.back t.backs in
      let is : all' ≡ s.front ++ (t.front ++ Merger ∷ []) = s.is ∙ ap (λ (ws : List (Worker F G J)). s.front ++ ws) (t.is ∙ ap (λ (ws : List (Worker F G J)). t.front ++ ws) one) in
      let count : length s.front ≡ length names = AllZip-long R files s.front s.fronts ∙ AllZip-long (IsFileOf source host) names files are in
      record {
        files = s.front;
        readers = t.front;
        are = is;
        file_runs = file-runs book source door names host [] names 0 files s.front (t.front ++ Merger ∷ []) refl refl are s.fronts;
        door_runs = door-runs book source door names opening handed (0 + length names) h.readers t.front h.are_readers t.fronts;
        named = rw is (named-files 0 names files s.front (t.front ++ Merger ∷ []) (omega arith) are s.fronts
            (λ n. named-others n h.readers t.front handed h.are_readers t.fronts));
        have = λ some. rw is (have-readers s.front (t.front ++ Merger ∷ [])
            (reader-among h.readers t.front handed h.are_readers t.fronts some) (have-others h.readers t.front handed h.are_readers t.fronts));
        long = rw is (omega (arith, count, length-append s.front (t.front ++ Merger ∷ [])));
        read_failed = read-failed book source door all all' works;
        accept_failed = accept-failed book source door all all' works;
      }

-- ---- what comes back

pub same-file : (thing : Thing) (name : List ℕ) (file : Stream) → returned thing (FileBack name file) ≡ handed thing (FileOut name)
same-file (ADisk n) name file = refl
same-file (AFile n) name file = refl
same-file ADoor name file = refl
same-file (APort n) name file = refl

pub returned-files : (thing : Thing) (names : List (List ℕ)) (files : List Stream) → length files ≡ length names
    → sum_by (returned thing) (files_back names files) ≡ sum_by (λ name. handed thing (FileOut name)) names
returned-files thing [] [] even = refl
returned-files thing [] (f ∷ fs) even = absurd (omega arith)
returned-files thing (n ∷ ns) [] even = absurd (omega arith)
returned-files thing (n ∷ ns) (f ∷ fs) even =
    sum_by-cons (returned thing) (FileBack n f) (files_back ns fs)
    ∙ (ap (λ (k : ℕ). returned thing (FileBack n f) + k) (returned-files thing ns fs (omega (arith, even)))
    ∙ (ap (λ (k : ℕ). k + sum_by (λ name. handed thing (FileOut name)) ns) (same-file thing n f)
    ∙ sym (sum_by-cons (λ name. handed thing (FileOut name)) n ns)))

pub returned-doors : (thing : Thing) (runs : List DoorRun) (n : ℕ) → length runs ≡ n
    → sum_by (returned thing) (map (λ run. DoorBack run.connections) runs) ≡ handed thing (DoorsOut [] n 0)
returned-doors (ADisk name) [] n is = refl
returned-doors (AFile name) [] n is = refl
returned-doors ADoor [] n is = is
returned-doors (APort name) [] n is = refl
returned-doors (ADisk name) (r ∷ rs) n is =
    omega (arith, sum_by-cons (returned (ADisk name)) (DoorBack r.connections) (map (λ run. DoorBack run.connections) rs), returned-doors (ADisk name) rs (length rs) refl)
returned-doors (AFile name) (r ∷ rs) n is =
    omega (arith, sum_by-cons (returned (AFile name)) (DoorBack r.connections) (map (λ run. DoorBack run.connections) rs), returned-doors (AFile name) rs (length rs) refl)
returned-doors ADoor (r ∷ rs) n is =
    sum_by-cons (returned ADoor) (DoorBack r.connections) (map (λ run. DoorBack run.connections) rs)
    ∙ (ap (λ (k : ℕ). 1 + k) (returned-doors ADoor rs (length rs) refl) ∙ omega (arith, is))
returned-doors (APort name) (r ∷ rs) n is =
    omega (arith, sum_by-cons (returned (APort name)) (DoorBack r.connections) (map (λ run. DoorBack run.connections) rs), returned-doors (APort name) rs (length rs) refl)

-- as much is out as the calls give back
pub due-is : (thing : Thing) (names : List (List ℕ)) (files : List Stream) (runs : List DoorRun) (readers : ℕ)
    → length files ≡ length names → length runs ≡ readers
    → sum_by (returned thing) (files_back names files ++ map (λ run. DoorBack run.connections) runs) ≡ due thing names readers
due-is thing names files runs readers even count =
    sum_by-append (returned thing) (files_back names files) (map (λ run. DoorBack run.connections) runs)
    ∙ (ap (λ (k : ℕ). k + sum_by (returned thing) (map (λ run. DoorBack run.connections) runs)) (returned-files thing names files even)
    ∙ ap (λ (k : ℕ). sum_by (λ name. handed thing (FileOut name)) names + k) (returned-doors thing runs readers count))

pub ok-lines : {E : Type 0} (made : Result (Vec ℕ Global) E) (lines : List ℕ) → IfOk made (λ l. l.items ≡ lines)
    → IfSome (lines_told made) (λ l. l ≡ lines)
ok-lines (Ok v) lines is = is
ok-lines (Err e) lines is = tt

-- what workers that are given back leave of a host
pub record GivenRest (backs : List HostCall) (before after : HostState) : Type 0 where
  pub calls : after.calls ≡ added backs before.calls
  pub disks : after.disks ≡ before.disks
  pub disk_faults : after.disk_faults ≡ before.disk_faults

one-given : {F G J : Type 0} (source : F → Stream) (door : G → Connections) (name : List ℕ) (worker : Worker F G J) (rest : List HostCall)
    (before middle after : HostState) → GivenRest rest before middle → TakesWorker source door name worker middle after
    → GivenRest (call_of source door name worker ++ rest) before after
one-given source door name (File f) rest before middle after g takes = record {
  calls = ap (λ (h : HostState). h.calls) takes.rest ∙ ap (λ (c : Option (List HostCall)). noted (FileBack name (source f.source)) c) g.calls;
  disks = ap (λ (h : HostState). h.disks) takes.rest ∙ g.disks;
  disk_faults = ap (λ (h : HostState). h.disk_faults) takes.rest ∙ g.disk_faults;
}
one-given source door name (Reader r) rest before middle after g takes = record {
  calls = ap (λ (h : HostState). h.calls) takes.rest ∙ ap (λ (c : Option (List HostCall)). noted (DoorBack (door r.door)) c) g.calls;
  disks = ap (λ (h : HostState). h.disks) takes.rest ∙ g.disks;
  disk_faults = ap (λ (h : HostState). h.disk_faults) takes.rest ∙ g.disk_faults;
}
one-given source door name Merger rest before middle after g takes = record {
  calls = ap (λ (h : HostState). h.calls) takes ∙ g.calls;
  disks = ap (λ (h : HostState). h.disks) takes ∙ g.disks;
  disk_faults = ap (λ (h : HostState). h.disk_faults) takes ∙ g.disk_faults;
}

pub given-rest : {F G J : Type 0} (source : F → Stream) (door : G → Connections) (names : List (List ℕ)) (at : ℕ) (workers : List (Worker F G J))
    (before after : HostState) → GivenBack source door names at workers before after
    → GivenRest (calls_of source door names at workers) before after
given-rest source door names at [] before after back = record {
  calls = ap (λ (h : HostState). h.calls) back;
  disks = ap (λ (h : HostState). h.disks) back;
  disk_faults = ap (λ (h : HostState). h.disk_faults) back;
}
given-rest source door names at (w ∷ ws) before after back =
    one-given source door (name_at names at) w (calls_of source door names (at + 1) ws) before back.0 after
    (given-rest source door names (at + 1) ws before back.0 back.1) back.2

or-all : {F G J : Type 0} (xs ys : List (Worker F G J)) → fault_in (xs ++ ys) ≡ None → fault_in ys ≡ None
or-all [] ys none = none
or-all (x ∷ xs) ys none = or-all xs ys (or-none (fault_of x) (fault_in (xs ++ ys)) none).1

module _ {F G J : Type 0} (book : List NamedPosition) (source : F → Stream) (door : G → Connections) (names : List (List ℕ)) (host : HostState)
    (opening : List Batch) (handed_doors : List Connections) (workers : List (Worker F G J))
    (r : Returned book source door names host opening handed_doors workers) where
  pub returned-calls : calls_of source door names 0 workers
      ≡ files_back names (map (λ run. run.file) r.file_runs.runs) ++ map (λ run. DoorBack run.connections) r.door_runs.runs
  returned-calls =
      ap (λ (ws : List (Worker F G J)). calls_of source door names 0 ws) r.are
      ∙ (r.file_runs.calls ∙ ap (λ (cs : List HostCall). files_back names (map (λ run. run.file) r.file_runs.runs) ++ cs) r.door_runs.calls)

  pub can-return : (now : HostState) → AreOut names (length handed_doors) now → CanReturn (calls_of source door names 0 workers) now
  can-return now out = rw returned-calls (λ thing.
      let even : length (map (λ (run : FileRun). run.file) r.file_runs.runs) ≡ length names =
      length-map r.file_runs.runs (λ (run : FileRun). run.file) ∙ (AllZip-long IsImported (map (file_at host) names) r.file_runs.runs r.file_runs.imported ∙ length-map names (file_at host)) in
      let count : length r.door_runs.runs ≡ length handed_doors = AllZip-long (IsServedFrom book opening) handed_doors r.door_runs.runs r.door_runs.served in
      rw (due-is thing names (map (λ (run : FileRun). run.file) r.file_runs.runs) r.door_runs.runs (length handed_doors) even count) (out thing))

  pub works-over : (journal : List Batch) (after : HostState) (first : Option Fault) (lines : Option (List ℕ))
      → first ≡ fault_in workers → IfSome lines (λ l. l ≡ lines_in names workers)
      → AllByRecursion (IsTold journal) workers
      → DrewFrom (length opening) (length journal) (drawn_in r.file_runs.runs r.door_runs.runs)
      → GivenBack source door names 0 workers host after
      → WorksOver book names opening journal handed_doors first lines host after
  works-over journal after first lines first_is lines_are told drew back =
      let given = given-rest source door names 0 workers host after back in
      let fault : fault_in workers ≡ fault_in (r.files ++ (r.readers ++ Merger ∷ [])) = ap (λ (ws : List (Worker F G J)). fault_in ws) r.are in
      let known = all-both (IsTold journal) r.files (r.readers ++ Merger ∷ [])
      (subst (λ (ws : List (Worker F G J)). AllByRecursion (IsTold journal) ws) r.are told) in
      let saw = (all-both (IsTold journal) r.readers (Merger ∷ []) known.1).0 in
      let none = λ (n : first ≡ None). sym fault ∙ (sym first_is ∙ n) in
      record {
        files = r.file_runs.runs;
        imported = r.file_runs.imported;
        doors = r.door_runs.runs;
        served = r.door_runs.served;
        calls = given.calls ∙ ap (λ (cs : List HostCall). added cs host.calls) returned-calls;
        disks = given.disks;
        disk_faults = given.disk_faults;
        first_is = first_is ∙ (fault ∙ r.file_runs.first r.door_runs.runs r.door_runs.first);
        counted = record {
          files = λ is. files-rise source door names 0 workers host after back (r.read_failed (sym first_is ∙ is));
          doors = λ is. doors-rise source door names 0 workers host after back (r.accept_failed (sym first_is ∙ is));
        };
        lines_are = IfSome_then lines {P = _} {Q = _} lines_are (λ l is. is ∙ (ap (λ (ws : List (Worker F G J)). lines_in names ws) r.are ∙ r.file_runs.lines));
        kept = r.file_runs.kept journal known.0;
        stored = λ n. r.file_runs.stored journal known.0 (none n);
        served_in = λ n. r.door_runs.served_in journal saw (or-all r.files (r.readers ++ Merger ∷ []) (none n));
        seen = r.door_runs.seen journal saw;
        full = r.file_runs.full journal known.0;
        drawn = drew;
      }
