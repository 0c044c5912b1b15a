-- Bridge: a stream on its way into a store, as the code holds it. What was told of the store at the
-- beginning is `start`; where it was known, more is known of each later moment.
use Rattle.std.specs.Prelude.{◌≡◌, ◌⊎◌, ℕ, ◌+◌, ◌<◌, ◌≤◌, List, [], ◌∷◌, ◌++◌, length, vec_capacity, vec_len, Option, Some}
use Rattle.std.specs.List.{All, AllByRecursion, flat_map}
use Rattle.std.specs.Io.KnownBytes.{IsAtEnd}
use Rattle.outside.specs.Stream.{Stream, Reads}
use Rattle.explorer_model.specs.declared.archive.Batch.{Batch}
use Rattle.explorer_model.specs.declared.fault.Refusal.{Refusal}
use Rattle.explorer_model.specs.Cuts.{Cut, cuts, text_limit}
use Rattle.explorer_model.specs.Imports.{AccountedBeside, group_limit}
use Rattle.ingest_desk.specs.Reporting.{AreReceipts}
use Rattle.ingest_desk.specs.declared.receipt.Receipt.{Receipt}
use Rattle.ingest_desk.specs.declared.report.Report.{Report}
use Rattle.import_run.specs.declared.open_import.OpenImport.{OpenImport}
use Rattle.import_run.specs.declared.open_import.Stopped.{Stopped}
use Rattle.import_run.specs.Beside.{AreRepeats}
use Rattle.import_run.specs.Committing.{Known, Store, store_of}
use Rattle.import_run.specs.Ending.{ReadFaultsAre, StandsAt, StoresBy}
use Rattle.import_run.specs.EndingBeside.{ComesBeside}
use Rattle.import_run.specs.Grouping.{IsGroupOf}
use Rattle.import_run.specs.Progress.{AreReceiptsOf, Progress}
use Rattle.import_run.specs.Rounds.{MayHaveMore}
use Rattle.import_run.specs.Settled.{IsSettledSo, IsStoppedBy}
use Rattle.import_run.specs.SoFar.{AreAllGroups, AreInGroups, IsWhole, ended_cuts}

-- the group in hand is not whole, and can be read
pub record IsReady {J : Type 0} (import : OpenImport J) : Type 0 where
  pub few : length import.group.texts.items < group_limit
  pub short : All (λ text. length text.bytes ≤ text_limit) import.group.texts.items

-- ---- groups that are settled, and how the settling of one ended

-- the groups are settled, and the next one ended the import
pub record StopsBehind {J : Type 0} (start : Option Store) (done : List (List Cut))
    (next : List Cut) (import : OpenImport J) (stopped : Stopped J) (told : Option Store)
    : Type 0 where
  pub before : Option Store
  pub settled : IsSettledSo start done import before
  pub stops : IsStoppedBy import.group.label next import.clashes.items before stopped told
  -- the refusals of the group find room behind the others
  pub room : vec_len import.refused + length stopped.refused.items ≤ vec_capacity import.refused

-- The groups are settled, and memory was wanting for what came next. The batch of the first of the
-- other groups may be stored.
pub record LacksBehind {J : Type 0} (start : Option Store) (done others : List (List Cut))
    (import : OpenImport J) (told : Option Store) : Type 0 where
  pub before : Option Store
  pub settled : IsSettledSo start done import before
  pub lacks : (known : Known) → before ≡ Some (store_of known)
      → MayHaveMore import.group.label known others told

-- one of these groups, which follow those that are settled, ended the import
pub record StopsAmong {J : Type 0} (start : Option Store) (closed groups : List (List Cut))
    (import : OpenImport J) (stopped : Stopped J) (told : Option Store) : Type 0 where
  pub done : List (List Cut)
  pub next : List Cut
  pub rest : List (List Cut)
  pub groups_are : groups ≡ done ++ next ∷ rest
  pub behind : StopsBehind start (closed ++ done) next import stopped told

-- some of these groups are settled too, and memory was wanting
pub record LacksAmong {J : Type 0} (start : Option Store) (closed groups : List (List Cut))
    (import : OpenImport J) (told : Option Store) : Type 0 where
  pub done : List (List Cut)
  pub rest : List (List Cut)
  pub groups_are : groups ≡ done ++ rest
  pub behind : LacksBehind start (closed ++ done) rest import told

-- ---- cuts that were taken

-- Cuts were taken: whole groups, which are settled, and the cuts in hand.
pub record TakenSoFar {J : Type 0} (start : Option Store) (taken : List Cut) (import : OpenImport J)
    (told : Option Store) : Type 0 where
  pub closed : List (List Cut)
  pub hand : List Cut
  pub all : taken ≡ flat_map (λ group. group) closed ++ hand
  pub each : AllByRecursion IsWhole closed
  pub group : IsGroupOf hand import.group
  pub settled : IsSettledSo start closed import told

-- Cuts were taken up to one that makes its group whole, which ended the import.
pub record StopsSoFar {J : Type 0} (start : Option Store) (taken : List Cut) (import : OpenImport J)
    (stopped : Stopped J) (told : Option Store) : Type 0 where
  pub closed : List (List Cut)
  pub next : List Cut
  pub all : taken ≡ flat_map (λ group. group) closed ++ next
  pub each : AllByRecursion IsWhole closed
  pub whole : IsWhole next
  pub behind : StopsBehind start closed next import stopped told

-- Cuts were taken up to one for which memory was wanting, maybe behind groups that are whole too.
pub record LacksSoFar {J : Type 0} (start : Option Store) (taken : List Cut) (import : OpenImport J)
    (told : Option Store) : Type 0 where
  pub closed : List (List Cut)
  pub others : List (List Cut)
  pub hand : List Cut
  pub all :
      taken ≡ flat_map (λ group. group) closed ++ (flat_map (λ group. group) others ++ hand)
  pub each : AllByRecursion IsWhole closed
  pub each_other : AllByRecursion IsWhole others
  pub behind : LacksBehind start closed others import told

-- ---- bytes that were cut

-- the bytes were cut, and the cuts that ended in them were taken
pub record CutSoFar {J : Type 0} (start : Option Store) (bytes : List ℕ)
    (rest_cuts : List ℕ → List Cut) (import : OpenImport J) (told : Option Store)
    : Type 0 where
  pub taken : List Cut
  pub cut : (rest : List ℕ) → taken ++ rest_cuts rest ≡ cuts (bytes ++ rest)
  pub begun : 0 < length taken → (rest : List ℕ) → 0 < length (rest_cuts rest)
  pub so_far : TakenSoFar start taken import told

-- some front of the bytes was cut, and a group that is whole in it ended the import
pub record StopsWithin {J : Type 0} (start : Option Store) (bytes : List ℕ) (import : OpenImport J)
    (stopped : Stopped J) (told : Option Store) : Type 0 where
  pub taken : List Cut
  pub more : List Cut
  pub cut : taken ++ more ≡ cuts bytes
  pub some : 0 < length more
  pub stops : StopsSoFar start taken import stopped told

-- some front of the bytes was cut, and then memory was wanting
pub record LacksWithin {J : Type 0} (start : Option Store) (bytes : List ℕ) (import : OpenImport J)
    (told : Option Store) : Type 0 where
  pub taken : List Cut
  pub more : List Cut
  pub cut : taken ++ more ≡ cuts bytes
  pub begun : 0 < length taken → 0 < length more
  pub lacks : LacksSoFar start taken import told

-- ---- the end of a stream

-- all cuts of a stream were taken and settled
pub record TakenAll {J : Type 0} (start : Option Store) (taken : List Cut) (import : OpenImport J)
    (told : Option Store) : Type 0 where
  pub closed : List (List Cut)
  pub hand : List Cut
  pub in_groups : AreInGroups taken closed hand
  pub settled : IsSettledSo start (closed ++ hand ∷ []) import told

-- one of all groups of cuts ended the import
pub record StopsAtEnd {J : Type 0} (start : Option Store) (taken : List Cut) (import : OpenImport J)
    (stopped : Stopped J) (told : Option Store) : Type 0 where
  pub done : List (List Cut)
  pub next : List Cut
  pub rest : List (List Cut)
  pub all : AreAllGroups taken (done ++ next ∷ rest)
  pub behind : StopsBehind start done next import stopped told

-- a group that is whole in the bytes ended the import, or any group of a stream that has ended
abbrev pub StopsIn : {J : Type 0} → Option Store → List ℕ → Option (List ℕ) → OpenImport J
    → Stopped J → Option Store → Type 0
StopsIn start stream left import stopped told = StopsWithin start stream import stopped told
    ⊎ (IsAtEnd left × StopsAtEnd start (cuts stream) import stopped told)

-- some of all groups of cuts are settled, and memory was wanting for the others
pub record LacksAtEnd {J : Type 0} (start : Option Store) (taken : List Cut) (import : OpenImport J)
    (told : Option Store) : Type 0 where
  pub done : List (List Cut)
  pub rest : List (List Cut)
  pub all : AreAllGroups taken (done ++ rest)
  pub behind : LacksBehind start done rest import told

-- ---- what an import comes to

-- the whole groups of a stream that was cut off are settled
pub record IsWholeSettled {J : Type 0} (label : List ℕ) (start : Known) (stream : List ℕ)
    (receipts : List (Receipt J)) (refused : List Refusal) (told : Option Store) : Type 0 where
  pub whole : List (List Cut)
  pub hand : List Cut
  pub in_groups : AreInGroups (ended_cuts stream) whole hand
  pub progress : Progress label start whole receipts refused told

-- the report of an import that took these bytes, and the store after it
pub record ComesTo {J : Type 0} (label : List ℕ) (start : Known) (stream : List ℕ)
    (left_over : Option (List ℕ)) (report : Report J) (told : Option Store) : Type 0 where
  pub batches : List Batch
  pub receipts : AreReceiptsOf start.journal report.receipts.items batches
  pub new : Store
  pub still : told ≡ Some new
  pub stands : StandsAt label report.end start stream left_over batches report.refused.items new
  pub stores : StoresBy report.end (start.journal ++ batches) start.fault new

-- the same, where no read failed
pub record ComesQuietly {J : Type 0} (label : List ℕ) (start : Known) (stream : List ℕ)
    (left_over : Option (List ℕ)) (report : Report J) (told : Option Store) : Type 0 where
  pub comes : ComesTo label start stream left_over report told
  pub quiet : (old new : Stream) → new.read_faults ≡ old.read_faults
      → ReadFaultsAre report.end old new

-- an import of a source into a store that is known
pub record Imports {J : Type 0} (label : List ℕ) (start : Known) (before after : Stream)
    (report : Report J) (told : Option Store) : Type 0 where
  pub stream : List ℕ
  pub reads : Reads stream before after
  pub faults : ReadFaultsAre report.end before after
  pub comes : ComesTo label start stream after.left report told
  pub repeats : AreRepeats (cuts stream) report.clashes.items report.refused.items

-- ---- what an import comes to, whoever else stores beside it

-- the whole groups of a stream that was cut off are accounted
pub record IsWholeBeside {J : Type 0} (label : List ℕ) (stream : List ℕ) (report : Report J)
    : Type 0 where
  pub whole : List (List Cut)
  pub hand : List Cut
  pub in_groups : AreInGroups (ended_cuts stream) whole hand
  pub follows : (rest : List ℕ)
      → (more : List Cut) × (cuts (stream ++ rest) ≡ flat_map (λ group. group) whole ++ more)
  pub batches : List Batch
  pub are_receipts : AreReceipts 0 report.receipts.items batches
  pub accounted : AccountedBeside label whole batches report.refused.items
  pub repeats :
      AreRepeats (flat_map (λ group. group) whole) report.clashes.items report.refused.items

-- the report of an import that took these bytes without a fault of a read
pub record ComesQuietlyBeside {J : Type 0} (label : List ℕ) (stream : List ℕ)
    (left_over : Option (List ℕ)) (report : Report J) : Type 0 where
  pub comes : ComesBeside label stream left_over report
  pub quiet : (old new : Stream) → new.read_faults ≡ old.read_faults
      → ReadFaultsAre report.end old new
