-- Lists of workers.
use Rattle.std.proofs.Common.{◌≡◌, ℕ, zero, suc, ◌+◌, ◌<◌, ◌≤◌, List, [], ◌∷◌, ◌++◌, Option, None, Some, IfSome, length, map, take, drop, slice_index_or, refl, sym, ap, subst, ◌∙◌, append_assoc, append-nil, arith}
use Rattle.std.proofs.lemmas.Grind.{common_steps}
use Rattle.std.specs.Prelude.{IsSome, sum_by}
use Rattle.std.specs.List.{AllByRecursion, AllZip}
use Rattle.std.specs.Option.{option_map}
use Rattle.std.proofs.lemmas.List.Sums.{sum_by-append}
use Rattle.std.proofs.lemmas.Option.{IfSome_then}
use Rattle.outside.specs.Doors.{Connections}
use Rattle.outside.specs.Stream.{Stream}
use Rattle.host.specs.Hosts.{ADisk, ADoor, AFile, APort, DoorBack, FileBack, HostCall, HostState, Thing, handed, out, returned}
use Rattle.explorer_model.specs.declared.archive.Batch.{Batch}
use Rattle.explorer_model.specs.Timeline.{IsPrefix}
use Rattle.explorer_model.proofs.Timelines.{prefix-trans}
use Rattle.published_index.specs.States.{Watching}
use Rattle.ingest_desk.specs.declared.receipt.Receipt.{Receipt}
use Rattle.ingest_desk.specs.declared.report.End.{End}
use Rattle.ingest_desk.specs.declared.report.End.TheVariants as ends
use Rattle.ingest_desk.specs.declared.report.Report.{Report}
use Rattle.session.specs.Steps.{KnowsEnd, KnowsNotes, KnowsReceipts}
use Rattle.explorer.specs.declared.serve.workers.Worker.{Worker}
use Rattle.explorer.specs.declared.serve.workers.Worker.TheVariants.{File, Reader, Merger}
use Rattle.explorer.specs.Serve.Workers.{AreNamed, CanReturn, GivenBack, HasReader, HasReport, HaveReaders, IsHeard, IsTold, TakesWorker, call_of, calls_of, lines_in, lines_of, name_at}

-- facts at each place of two lists
pub zip_each : {A : Type 0} (R : A → A → Type 0) (xs ys : List A) → length ys ≡ length xs
    → ((i : ℕ) (d : A) → i < length xs → R (slice_index_or xs i d) (slice_index_or ys i d))
    → AllZip R xs ys
zip_each R [] [] same each = tt
zip_each R [] (y ∷ ys) same each = absurd (omega arith)
zip_each R (x ∷ xs) [] same each = absurd (omega arith)
zip_each R (x ∷ xs) (y ∷ ys) same each =
    (each 0 x (omega arith), zip_each R xs ys (omega arith) (λ i d below. each (suc i) d (omega arith)))

pub take-whole : {A : Type 0} (n : ℕ) (xs ys : List A) → n ≡ length xs → take n (xs ++ ys) ≡ xs
take-whole n xs ys is = grind (arith, common_steps)

-- ---- what was told

pub notes-grow : (notes : List (List Batch)) (old new : List Batch) → IsPrefix old new → KnowsNotes notes old
    → KnowsNotes notes new
notes-grow [] old new p k = tt
notes-grow (n ∷ ns) old new p k = (prefix-trans n old new k.0 p, notes-grow ns old new p k.1)

pub receipts-grow : {J : Type 0} (receipts : List (Receipt J)) (old new : List Batch) → IsPrefix old new
    → KnowsReceipts receipts old → KnowsReceipts receipts new
receipts-grow [] old new p k = tt
receipts-grow (r ∷ rs) old new p k = (prefix-trans r.note old new k.0 p, receipts-grow rs old new p k.1)

pub end-grows : {J : Type 0} (end : End J) (old new : List Batch) → IsPrefix old new → KnowsEnd end old → KnowsEnd end new
end-grows ends.Whole old new p h = tt
end-grows (ends.ReadFault before after) old new p h = tt
end-grows (ends.DiskFault before after mark) old new p h = tt
end-grows (ends.Closed before after mark) old new p h = tt
end-grows (ends.Full games bytes note) old new p h = prefix-trans note old new h p
end-grows (ends.TooMuch bytes) old new p h = tt
end-grows ends.OutOfMemory old new p h = tt

pub report-grows : {J : Type 0} (report : Option (Report J)) (old new : List Batch) → IsPrefix old new
    → HasReport old report → HasReport new report
report-grows None old new p h = tt
report-grows (Some report) old new p h =
    (receipts-grow report.receipts.items old new p h.0, notes-grow report.clashes.items old new p h.1, end-grows report.end old new p h.2)

-- what is not on the list any more was told, and a reader of it has left its pass
pub record HasKnown {F G J : Type 0} (all rest : List (Worker F G J)) (last : Option Watching) (journal : List Batch)
    : Type 0 where
  pub done : List (Worker F G J)
  pub all_are : all ≡ rest ++ done
  pub found : HasReader done → IsSome last
  pub known : HaveReaders done → AllByRecursion (IsTold journal) done

pub known-none : {F G J : Type 0} (all : List (Worker F G J)) (last : Option Watching) (journal : List Batch)
    → HasKnown all all last journal
known-none all last journal = record {
  done = [];
  all_are = sym (append-nil all);
  found = λ has. absurd has;
  known = λ have. tt;
}

found-more : {F G J : Type 0} (worker : Worker F G J) (done : List (Worker F G J)) (old new : Option Watching)
    → (IsSome old → IsSome new) → (HasReader (worker ∷ []) → IsSome new) → (HasReader done → IsSome old)
    → HasReader (worker ∷ done) → IsSome new
found-more (File file) done old new kept found earlier has = kept (earlier has)
found-more (Reader reader) done old new kept found earlier has = found tt
found-more Merger done old new kept found earlier has = kept (earlier has)

told-more : {F G J : Type 0} (worker : Worker F G J) (done : List (Worker F G J)) (old : Option Watching) (journal : List Batch)
    → (IsHeard old worker → IsTold journal worker) → (HasReader done → IsSome old)
    → (HaveReaders done → AllByRecursion (IsTold journal) done)
    → HaveReaders (worker ∷ done) → AllByRecursion (IsTold journal) (worker ∷ done)
told-more (File file) done old journal told earlier known have = (told (earlier have.0), known have.1)
told-more (Reader reader) done old journal told earlier known have = (told tt, known have)
told-more Merger done old journal told earlier known have = (told tt, known have)

pub known-more : {F G J : Type 0} (all rest less : List (Worker F G J)) (worker : Worker F G J) (old new : Option Watching)
    (journal : List Batch) → rest ≡ less ++ worker ∷ [] → (IsSome old → IsSome new) → (HasReader (worker ∷ []) → IsSome new)
    → (IsHeard old worker → IsTold journal worker) → HasKnown all rest old journal → HasKnown all less new journal
known-more all rest less worker old new journal e kept found told k = record {
  done = worker ∷ k.done;
  all_are = k.all_are ∙ (ap (λ l. l ++ k.done) e ∙ append_assoc less (worker ∷ []) k.done);
  found = found-more worker k.done old new kept found k.found;
  known = told-more worker k.done old journal told k.found k.known;
}

pub known-all : {F G J : Type 0} (all rest : List (Worker F G J)) (last : Option Watching) (journal : List Batch)
    → rest ≡ [] → HasKnown all rest last journal → HaveReaders all → AllByRecursion (IsTold journal) all
known-all all rest last journal e k have =
    let is : all ≡ k.done = k.all_are ∙ ap (λ l. l ++ k.done) e in
    subst (λ (ws : List (Worker _ _ _)). AllByRecursion (IsTold journal) ws) (sym is)
    (k.known (subst (λ (ws : List (Worker _ _ _)). HaveReaders ws) is have))

-- ---- what goes back

pub named-front : {F G J : Type 0} (names : List (List ℕ)) (at : ℕ) (workers : List (Worker F G J)) (worker : Worker F G J)
    → AreNamed names at (workers ++ worker ∷ []) → AreNamed names at workers
named-front names at [] worker named = tt
named-front names at (File file ∷ ws) worker named = (named.0, named-front names (at + 1) ws worker named.1)
named-front names at (Reader reader ∷ ws) worker named = named-front names (at + 1) ws worker named
named-front names at (Merger ∷ ws) worker named = named-front names (at + 1) ws worker named

pub named-last : {F G J : Type 0} (names : List (List ℕ)) (at n : ℕ) (workers : List (Worker F G J)) (worker : Worker F G J)
    → n ≡ at + length workers → AreNamed names at (workers ++ worker ∷ []) → AreNamed names n (worker ∷ [])
named-last names at n [] worker is named =
    let same : at ≡ n = omega (arith, is) in subst (λ (m : ℕ). AreNamed names m (worker ∷ [])) same named
named-last names at n (File file ∷ ws) worker is named = named-last names (at + 1) n ws worker (omega (arith, is)) named.1
named-last names at n (Reader reader ∷ ws) worker is named = named-last names (at + 1) n ws worker (omega (arith, is)) named
named-last names at n (Merger ∷ ws) worker is named = named-last names (at + 1) n ws worker (omega (arith, is)) named

module _ {F G J : Type 0} (source : F → Stream) (door : G → Connections) (names : List (List ℕ)) where
  pub calls-last : (at n : ℕ) (workers : List (Worker F G J)) (worker : Worker F G J) → n ≡ at + length workers
      → calls_of source door names at (workers ++ worker ∷ [])
      ≡ calls_of source door names at workers ++ call_of source door (name_at names n) worker
  calls-last at n [] worker is =
      let same : at ≡ n = omega (arith, is) in
      append-nil (call_of source door (name_at names at) worker)
      ∙ ap (λ (m : ℕ). call_of source door (name_at names m) worker) same
  calls-last at n (w ∷ ws) worker is =
      ap (λ (calls : List HostCall). call_of source door (name_at names at) w ++ calls)
      (calls-last (at + 1) n ws worker (omega (arith, is)))
      ∙ sym (append_assoc (call_of source door (name_at names at) w) (calls_of source door names (at + 1) ws)
      (call_of source door (name_at names n) worker))

  pub given-last : (at n : ℕ) (workers : List (Worker F G J)) (worker : Worker F G J) (before next after : HostState)
      → n ≡ at + length workers → TakesWorker source door (name_at names n) worker before next
      → GivenBack source door names at workers next after
      → GivenBack source door names at (workers ++ worker ∷ []) before after
  given-last at n [] worker before next after is takes back =
      let same : n ≡ at = omega (arith, is) in (
        before,
        refl,
        subst (λ (m : ℕ). TakesWorker source door (name_at names m) worker before after) same
            (subst (λ (h : HostState). TakesWorker source door (name_at names n) worker before h) (sym back) takes),
      )
  given-last at n (w ∷ ws) worker before next after is takes back =
      (back.0, given-last (at + 1) n ws worker before next back.0 (omega (arith, is)) takes back.1, back.2)

-- ---- what is out

hands-no-file : (thing : Thing) (name : List ℕ) (file : Stream) → handed thing (FileBack name file) ≡ 0
hands-no-file (ADisk n) name file = refl
hands-no-file (AFile n) name file = refl
hands-no-file ADoor name file = refl
hands-no-file (APort n) name file = refl

hands-no-door : (thing : Thing) (door : Connections) → handed thing (DoorBack door) ≡ 0
hands-no-door (ADisk n) door = refl
hands-no-door (AFile n) door = refl
hands-no-door ADoor door = refl
hands-no-door (APort n) door = refl

pub can-last : (calls last : List HostCall) (host : HostState) → CanReturn (calls ++ last) host → CanReturn last host
can-last calls last host can = λ thing. IfSome_then host.calls {P = _} {Q = _} (can thing)
    (λ earlier few. omega (arith, few, sum_by-append (returned thing) calls last))

-- once a call has given something back, as much is out as the calls before it give back
less-out : (calls : List HostCall) (call : HostCall) (thing : Thing) (earlier : Option (List HostCall))
    → handed thing call ≡ 0
    → IfSome earlier (λ e. sum_by (returned thing) (calls ++ call ∷ []) ≤ out thing e)
    → IfSome (option_map (λ e. call ∷ e) earlier) (λ e. sum_by (returned thing) calls ≤ out thing e)
less-out calls call thing None none few = tt
less-out calls call thing (Some earlier) none few =
    omega (arith, few, none, sum_by-append (returned thing) calls (call ∷ []))

module _ {F G J : Type 0} (source : F → Stream) (door : G → Connections) where
  pub can-front : (calls : List HostCall) (name : List ℕ) (worker : Worker F G J) (before after : HostState)
      → CanReturn (calls ++ call_of source door name worker) before → TakesWorker source door name worker before after
      → CanReturn calls after
  can-front calls name (File file) before after can takes = λ thing.
      subst (λ (told : Option (List HostCall)). IfSome told (λ e. sum_by (returned thing) calls ≤ out thing e))
      (sym (ap (λ (h : HostState). h.calls) takes.rest))
      (less-out calls (FileBack name (source file.source)) thing before.calls (hands-no-file thing name (source file.source)) (can thing))
  can-front calls name (Reader reader) before after can takes = λ thing.
      subst (λ (told : Option (List HostCall)). IfSome told (λ e. sum_by (returned thing) calls ≤ out thing e))
      (sym (ap (λ (h : HostState). h.calls) takes.rest))
      (less-out calls (DoorBack (door reader.door)) thing before.calls (hands-no-door thing (door reader.door)) (can thing))
  can-front calls name Merger before after can takes = λ thing.
      subst (λ (h : HostState). IfSome h.calls (λ e. sum_by (returned thing) calls ≤ out thing e)) (sym takes)
      (subst (λ (cs : List HostCall). IfSome before.calls (λ e. sum_by (returned thing) cs ≤ out thing e)) (append-nil calls) (can thing))

-- ---- what is reported

-- the lines from a place on are those of that place, and those from the next on
pub lines-step : {F G J A : Type 0} (text : A → List ℕ) (names : List A) (workers : List (Worker F G J)) (i : ℕ) (d : A) (e : Worker F G J)
    → i < length names → length names ≤ length workers
    → lines_in (drop i (map text names)) (drop i workers)
    ≡ lines_of (text (slice_index_or names i d)) (slice_index_or workers i e)
    ++ lines_in (drop (i + 1) (map text names)) (drop (i + 1) workers)
lines-step text [] workers i d e below few = absurd (omega arith)
lines-step text (n ∷ ns) [] i d e below few = absurd (omega arith)
lines-step text (n ∷ ns) (w ∷ ws) zero d e below few = refl
lines-step text (n ∷ ns) (w ∷ ws) (suc i) d e below few =
    let same : suc (i + 1) ≡ suc i + 1 = omega arith in
    lines-step text ns ws i d e (omega arith) (omega arith)
    ∙ ap (λ (k : ℕ). lines_of (text (slice_index_or ns i d)) (slice_index_or ws i e) ++ lines_in (drop k (map text (n ∷ ns))) (drop k (w ∷ ws))) same

-- the lines of one more place stand behind those of the places before it
pub lines-more : {F G J A : Type 0} (text : A → List ℕ) (names : List A) (workers : List (Worker F G J)) (i : ℕ) (name : A)
    (told : List ℕ) (worker : Worker F G J) (old new : List ℕ) → i < length names → length names ≤ length workers
    → told ≡ text name → name ≡ slice_index_or names i name → worker ≡ slice_index_or workers i worker
    → new ≡ old ++ lines_of told worker
    → old ++ lines_in (drop i (map text names)) (drop i workers) ≡ lines_in (map text names) workers
    → new ++ lines_in (drop (i + 1) (map text names)) (drop (i + 1) workers) ≡ lines_in (map text names) workers
lines-more text names workers i name told worker old new below few told_is name_is worker_is new_is so_far =
    let rest = lines_in (drop (i + 1) (map text names)) (drop (i + 1) workers) in
    let these : lines_of told worker ≡ lines_of (text (slice_index_or names i name)) (slice_index_or workers i worker) =
    ap (λ (n : List ℕ). lines_of n worker) (told_is ∙ ap text name_is)
    ∙ ap (λ (w : Worker _ _ _). lines_of (text (slice_index_or names i name)) w) worker_is in
    ap (λ (l : List ℕ). l ++ rest) new_is
    ∙ (append_assoc old (lines_of told worker) rest
    ∙ (ap (λ (l : List ℕ). old ++ (l ++ rest)) these
    ∙ (ap (λ (l : List ℕ). old ++ l) (sym (lines-step text names workers i name worker below few))
    ∙ so_far)))
