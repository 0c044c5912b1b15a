-- Statement: what passes see of a journal that grows, while neighbouring spans of its cover become
-- one.
use Rattle.std.specs.Prelude.{◌≡◌, ⊤, ℕ, ◌+◌, ◌<◌, ◌≤◌, zero, suc, List, [], ◌∷◌, ◌++◌, length, take, nat_lt, if◌then◌else◌, slice_index_or, slice_set, All}
use Rattle.explorer_model.specs.declared.archive.Batch.{Batch}
use Rattle.explorer_model.specs.Spans.{Span, Covers}

-- the whole begins with the front
pub record IsPrefix {A : Type 0} (front whole : List A) : Type 0 where
  pub rest : List A
  pub is : whole ≡ front ++ rest

-- ---- timelines

-- the journal, the spans that cover it, and the batches that each pass has seen
pub record Timeline : Type 0 where
  pub journal : List Batch
  pub cover : List Span
  pub passes : List (List Batch)

-- what the pass of a number has seen
abbrev pub seen_by : ℕ → Timeline → List Batch
seen_by pass timeline = slice_index_or timeline.passes pass []

-- at the start there are 1 to 64 passes, and each has seen the opening journal
pub record IsStart (timeline : Timeline) : Type 0 where
  pub covered : Covers timeline.cover timeline.journal
  pub seen : All (λ seen. seen ≡ timeline.journal) timeline.passes
  pub some : 1 ≤ length timeline.passes
  pub few : length timeline.passes ≤ 64

-- the cover covers the journal, and each pass has seen a prefix of the journal
pub record IsSound (timeline : Timeline) : Type 0 where
  pub covered : Covers timeline.cover timeline.journal
  pub prefixes : (pass : ℕ) → IsPrefix (seen_by pass timeline) timeline.journal

-- ---- events

pub data Event : Type 0 where
  -- the journal gets a batch
  Put : Batch → Event
  -- the span of a number and the next one become one
  Join : ℕ → Event
  -- the pass of a number sees the journal
  Enter : ℕ → Event
  -- the pass of a number hears of the first so many batches
  Learn : ℕ → ℕ → Event

abbrev pub IsAllowed : Timeline → Event → Type 0
IsAllowed timeline (Put batch) = ⊤
IsAllowed timeline (Join span) = span + 1 < length timeline.cover
IsAllowed timeline (Enter pass) = pass < length timeline.passes
IsAllowed timeline (Learn pass count) =
    (pass < length timeline.passes) × (count ≤ length timeline.journal)

-- a span, and the one that begins where it ends
abbrev pub both : Span → Span → Span
both left right = record { first = left.first; batches = left.batches ++ right.batches }

-- a span becomes one with the next
abbrev pub joined_onto : Span → List Span → List Span
joined_onto span [] = span ∷ []
joined_onto span (next ∷ spans) = both span next ∷ spans

abbrev pub joined_at : List Span → ℕ → List Span
joined_at [] number = []
joined_at (span ∷ spans) zero = joined_onto span spans
joined_at (span ∷ spans) (suc number) = span ∷ joined_at spans number

abbrev pub longer : List Batch → List Batch → List Batch
longer seen told = if nat_lt (length seen) (length told) then told else seen

-- the span of the batch behind a journal
abbrev pub span_behind : List Batch → Batch → Span
span_behind journal batch = record { first = length journal; batches = batch ∷ [] }

abbrev pub with_seen : ℕ → List Batch → Timeline → Timeline
with_seen pass seen timeline =
    record timeline { passes = slice_set timeline.passes pass seen }

-- what an event does
abbrev pub after : Timeline → Event → Timeline
after timeline (Put batch) = record timeline {
  journal = timeline.journal ++ (batch ∷ []);
  cover = timeline.cover ++ (span_behind timeline.journal batch ∷ []);
}
after timeline (Join span) = record timeline { cover = joined_at timeline.cover span }
after timeline (Enter pass) = with_seen pass timeline.journal timeline
after timeline (Learn pass count) =
    with_seen pass (longer (seen_by pass timeline) (take count timeline.journal)) timeline

-- ---- runs

-- the timeline after events, one after another
abbrev pub run : Timeline → List Event → Timeline
run timeline [] = timeline
run timeline (event ∷ events) = run (after timeline event) events

-- each event is allowed where its turn comes
abbrev pub AreAllowed : Timeline → List Event → Type 0
AreAllowed timeline [] = ⊤
AreAllowed timeline (event ∷ events) =
    IsAllowed timeline event × AreAllowed (after timeline event) events

-- allowed events from a start
pub record IsRun (start : Timeline) (events : List Event) : Type 0 where
  pub starts : IsStart start
  pub allowed : AreAllowed start events
