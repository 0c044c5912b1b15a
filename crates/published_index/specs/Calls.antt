-- Statement: what the calls of a publisher and of a pass do.
use Rattle.std.specs.Prelude.{◌≡◌, ℕ, ◌+◌, ◌<◌, List, Option, None, Some, Result, Ok, Err}
use Rattle.explorer_model.specs.declared.archive.Batch.{Batch}
use Rattle.explorer_model.specs.Timeline.{IsPrefix, longer}
use Rattle.segment_blocks.specs.Segment.{CountedSpan}
use Rattle.published_index.specs.declared.fault.EnterFault.{EnterFault}
use Rattle.published_index.specs.declared.fault.EnterFault.TheVariants.{Unread, OutOfMemory}
use Rattle.published_index.specs.Cover.{journal_of}
use Rattle.published_index.specs.Changes.{Change, with_change, with_put}
use Rattle.published_index.specs.States.{Publishing, Watching}

-- ---- the publisher

-- a change is published, nothing is held then, and the note has the whole journal
pub record Publishes (old new : Publishing) (change : Change) (note : List Batch) : Type 0 where
  pub list : new.list ≡ with_change old.list change
  pub journal : journal_of new.list ≡ with_put (journal_of old.list) change
  pub none_held : new.held ≡ None
  pub told : note ≡ journal_of new.list

-- a change could not be published: the list is as before, and the change is held
abbrev pub Holds : Publishing → Publishing → Change → Type 0
Holds old new change = new ≡ record old { held = Some change }

-- a change is published or held
abbrev pub Makes : {E : Type 0} → Publishing → Publishing → Change → Result (List Batch) E → Type 0
Makes old new change (Ok note) = Publishes old new change note
Makes old new change (Err refused) = Holds old new change

-- what is done for a change that may be held: without one there is no note, and all is as before
abbrev pub Retries : {E : Type 0} → Publishing → Publishing → Option Change
    → Result (Option (List Batch)) E → Type 0
Retries old new None answer = (answer ≡ Ok None) × (new ≡ old)
Retries old new (Some change) (Ok None) = ⊥
Retries old new (Some change) (Ok (Some note)) = Publishes old new change note
Retries old new (Some change) (Err refused) = new ≡ old

-- ---- a pass

-- the pass sees the journal of the list, which begins with all that it saw
pub record Sees (old new : Watching) (list : List CountedSpan) : Type 0 where
  pub journal : new.seen ≡ journal_of list
  pub before : IsPrefix old.seen new.seen
  pub entered : new.entered ≡ old.entered + 1
  pub unread : new.unread ≡ old.unread

-- no reading was given, which the pass counts
pub record IsUnread (old new : Watching) (before after : ℕ) : Type 0 where
  pub count_before : before ≡ old.unread
  pub rose : before < after
  pub rest : new ≡ record old { unread = after }

abbrev pub Enters : Watching → Watching → Result (List CountedSpan) EnterFault → Type 0
Enters old new (Ok list) = Sees old new list
Enters old new (Err (Unread before after)) = IsUnread old new before after
Enters old new (Err OutOfMemory) = new ≡ old

-- the pass has seen the longer of its own list and the note's, and the shorter is a prefix of it
pub record Learns (old new : Watching) (note : List Batch) : Type 0 where
  pub seen : new.seen ≡ longer old.seen note
  pub before : IsPrefix old.seen new.seen
  pub told : IsPrefix note new.seen
  pub entered : new.entered ≡ old.entered
  pub unread : new.unread ≡ old.unread
