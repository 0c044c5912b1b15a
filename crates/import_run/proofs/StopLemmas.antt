-- A commit ended an import into a store that is known.
use Rattle.std.proofs.Common.{◌≡◌, inl, ℕ, ◌+◌, ◌<◌, Bool, true, false, ◌||◌, nat_lt, if◌then◌else◌, List, [], ◌∷◌, ◌++◌, Option, None, Some, Err, length, map, sum_by, refl, sym, ap, subst, ◌∙◌, length-append, arith}
use Rattle.std.specs.List.{All, AllByRecursion}
use Rattle.std.proofs.lemmas.Bool.{ltb-false, ltb-true}
use Rattle.std.proofs.lemmas.List.{length-map}
use Rattle.std.proofs.lemmas.List.Elements.{All-from_recursion}
use Rattle.std.proofs.lemmas.List.Sums.{sum_by-append, sum_by-cons}
use Rattle.plain_laws.specs.Options.{some-none}
use Rattle.outside.specs.Stream.{Stream}
use Rattle.explorer_model.specs.declared.archive.Batch.{Batch}
use Rattle.explorer_model.specs.declared.archive.Game.{Game}
use Rattle.explorer_model.specs.declared.fault.Refusal.{Refusal}
use Rattle.explorer_model.specs.Cuts.{Cut}
use Rattle.explorer_model.specs.Imports.{Candidate, batch_of, numbers_of, verdicts}
use Rattle.explorer_model.specs.Journal.{AreWithin, byte_count, byte_limit, game_count, game_limit, input_limit}
use Rattle.explorer_model.specs.Visits.{texts_of}
use Rattle.tally_rows.specs.Tally.{Counted}
use Rattle.ingest_desk.specs.Causes.{HasNoRoom, IsClosed, cause, cause_by, cause_of_new, has_no_room, is_over}
use Rattle.ingest_desk.specs.Clashes.{clashes_from, clashes_of}
use Rattle.ingest_desk.specs.Marked.{IsMark}
use Rattle.ingest_desk.specs.Reporting.{FindsNoRoom}
use Rattle.ingest_desk.specs.declared.clashing.Clashing.{Clashing}
use Rattle.ingest_desk.specs.declared.fault.CommitFault.{CommitFault}
use Rattle.ingest_desk.specs.declared.fault.CommitFault.TheVariants as faults
use Rattle.ingest_desk.specs.declared.mark.MarkKind.TheVariants as kinds
use Rattle.ingest_desk.specs.declared.receipt.Receipt.{Receipt}
use Rattle.ingest_desk.specs.declared.report.End.{End}
use Rattle.ingest_desk.proofs.RegisterLemmas.{texts_more}
use Rattle.import_run.specs.declared.open_import.Stopped.{Stopped}
use Rattle.import_run.specs.Committing.{Known, Store}
use Rattle.import_run.specs.Ending.{EndsAt, HasRoomFor, ReadFaultsAre, StandsAt, StoresBy}
use Rattle.import_run.specs.Importing.{IsEndOf, StopsAt}
use Rattle.import_run.specs.Progress.{Progress}
use Rattle.import_run.specs.Rounds.{IsDecided, Settles, stored_by}
use Rattle.import_run.specs.Settling.{id_of, kept}
use Rattle.import_run.specs.SoFar.{AreGroupsSoFar}
use Rattle.import_run.proofs.HandLemmas.{batch_texts, counted_ids, kept_none}

-- ---- causes

pub open_cause : (fault : Option (ℕ × ℕ)) (games : List Game) (journal : List Batch) (tally : Counted) → cause fault games journal tally ≡ None → fault ≡ None
open_cause None games journal tally is = refl
open_cause (Some counts) games journal tally is = absurd (some-none _ is)

pub closed_cause : (fault : Option (ℕ × ℕ)) (games : List Game) (journal : List Batch) (tally : Counted) (before after : ℕ) → cause fault games journal tally ≡ Some (IsClosed before after) → fault ≡ Some (before, after)
closed_cause None games journal tally before after is = absurd (by_pairs (clashes_of (numbers_of games) tally.classes) (has_no_room journal tally.batch) is)
  where
    by_pairs : (pairs : List Clashing) (over : Bool) → cause_by pairs journal tally.batch ≡ Some (IsClosed before after) → ⊥
    by_pairs (pair ∷ pairs) over e = cc
    by_pairs [] over e = by_over (has_no_room journal tally.batch) e
      where
        by_over : (b : Bool) → (if b then Some (HasNoRoom (game_count journal) (byte_count journal)) else None) ≡ Some (IsClosed before after) → ⊥
        by_over true e = cc
        by_over false e = cc
closed_cause (Some counts) games journal tally before after is = let e : IsClosed counts.0 counts.1 ≡ IsClosed before after = cc in by_counts counts e
  where
    by_counts : (counts : ℕ × ℕ) → IsClosed counts.0 counts.1 ≡ IsClosed before after → Some counts ≡ Some (before, after)
    by_counts counts e = let a : counts.0 ≡ before = cc in let b : counts.1 ≡ after = cc in λ i. Some (a i, b i)

-- a cause by room, or none: no id is stored
pub record HasRoomBy (games : List Game) (journal : List Batch) (tally : Counted) (over : Bool) : Type 0 where
  pub new : clashes_of (numbers_of games) tally.classes ≡ []
  pub room : has_no_room journal tally.batch ≡ over

room_cause : (games : List Game) (journal : List Batch) (tally : Counted) → cause_of_new games journal tally ≡ None → HasRoomBy games journal tally false
room_cause games journal tally is = by_pairs (clashes_of (numbers_of games) tally.classes) refl is
  where
    by_over : (b : Bool) → (if b then Some (HasNoRoom (game_count journal) (byte_count journal)) else None) ≡ None → b ≡ false
    by_over true e = absurd (some-none _ e)
    by_over false e = refl

    by_pairs : (pairs : List Clashing) → clashes_of (numbers_of games) tally.classes ≡ pairs → cause_by pairs journal tally.batch ≡ None → HasRoomBy games journal tally false
    by_pairs (pair ∷ pairs) are e = absurd (some-none _ e)
    by_pairs [] are e = record { new = are; room = by_over (has_no_room journal tally.batch) e }

pub record IsFullBy (games : List Game) (journal : List Batch) (tally : Counted) (g b : ℕ) : Type 0 where
  pub by : HasRoomBy games journal tally true
  pub games_are : g ≡ game_count journal
  pub bytes_are : b ≡ byte_count journal

full_cause : (fault : Option (ℕ × ℕ)) (games : List Game) (journal : List Batch) (tally : Counted) (g b : ℕ) → cause fault games journal tally ≡ Some (HasNoRoom g b) → (fault ≡ None) × IsFullBy games journal tally g b
full_cause (Some counts) games journal tally g b is = cc
full_cause None games journal tally g b is = (refl, by_pairs (clashes_of (numbers_of games) tally.classes) refl is)
  where
    by_over : (o : Bool) → has_no_room journal tally.batch ≡ o → clashes_of (numbers_of games) tally.classes ≡ [] → (if o then Some (HasNoRoom (game_count journal) (byte_count journal)) else None) ≡ Some (HasNoRoom g b)
        → IsFullBy games journal tally g b
    by_over true over are e = let p : game_count journal ≡ g = cc in let q : byte_count journal ≡ b = cc in record { by = record { new = are; room = over }; games_are = sym p; bytes_are = sym q }
    by_over false over are e = cc

    by_pairs : (pairs : List Clashing) → clashes_of (numbers_of games) tally.classes ≡ pairs → cause_by pairs journal tally.batch ≡ Some (HasNoRoom g b) → IsFullBy games journal tally g b
    by_pairs (pair ∷ pairs) are e = cc
    by_pairs [] are e = by_over (has_no_room journal tally.batch) refl are e

-- ---- room

texts_bytes : (cs : List Candidate) → sum_by (λ text. length text) (map (λ c. c.text) cs) ≡ sum_by (λ candidate. length candidate.text) cs
texts_bytes [] = refl
texts_bytes (first ∷ rest) =
    sum_by-cons (λ (text : List ℕ). length text) first.text (map (λ (candidate : Candidate). candidate.text) rest)
    ∙ ap (λ (n : ℕ). length first.text + n) (texts_bytes rest)
    ∙ sym (sum_by-cons (λ (candidate : Candidate). length candidate.text) first rest)

games_with : (label : List ℕ) (journal : List Batch) (cs : List Candidate) (batch : Batch) → batch_of label cs ≡ Some batch → game_count (journal ++ batch ∷ []) ≡ game_count journal + length cs
games_with label journal cs batch is =
    ap length (texts_more journal batch) ∙ length-append (texts_of journal) batch.texts
    ∙ ap (λ (n : ℕ). game_count journal + n) (ap length (batch_texts label cs batch is) ∙ length-map cs (λ (c : Candidate). c.text))

bytes_with : (label : List ℕ) (journal : List Batch) (cs : List Candidate) (batch : Batch) → batch_of label cs ≡ Some batch → byte_count (journal ++ batch ∷ []) ≡ byte_count journal + sum_by (λ candidate. length candidate.text) cs
bytes_with label journal cs batch is =
    ap (sum_by (λ (text : List ℕ). length text)) (texts_more journal batch) ∙ sum_by-append (λ (text : List ℕ). length text) (texts_of journal) batch.texts
    ∙ ap (λ (n : ℕ). byte_count journal + n) (ap (sum_by (λ (text : List ℕ). length text)) (batch_texts label cs batch is) ∙ texts_bytes cs)

over_false : (games bytes : ℕ) → is_over games bytes ≡ false → AreWithin games bytes
over_false games bytes is = by_tests (nat_lt game_limit games) (nat_lt byte_limit bytes) refl refl is
  where
    by_tests : (p q : Bool) → nat_lt game_limit games ≡ p → nat_lt byte_limit bytes ≡ q → (p || q) ≡ false → AreWithin games bytes
    by_tests true q a b e = cc
    by_tests false true a b e = cc
    by_tests false false a b e = (ltb-false game_limit games a, ltb-false byte_limit bytes b)

pub over_true : (games bytes : ℕ) → is_over games bytes ≡ true → AreWithin games bytes → ⊥
over_true games bytes is within = by_tests (nat_lt game_limit games) (nat_lt byte_limit bytes) refl refl is
  where
    by_tests : (p q : Bool) → nat_lt game_limit games ≡ p → nat_lt byte_limit bytes ≡ q → (p || q) ≡ true → ⊥
    by_tests true q a b e = let more : game_limit < games = ltb-true game_limit games a in omega (arith, more, within.0)
    by_tests false true a b e = let more : byte_limit < bytes = ltb-true byte_limit bytes b in omega (arith, more, within.1)
    by_tests false false a b e = cc

over_with : (label : List ℕ) (journal : List Batch) (cs : List Candidate) (batch : Batch) → batch_of label cs ≡ Some batch
    → has_no_room journal batch ≡ is_over (game_count journal + length cs) (byte_count journal + sum_by (λ candidate. length candidate.text) cs)
over_with label journal cs batch is =
    let g = games_with label journal cs batch is in
    let b = bytes_with label journal cs batch is in
    λ i. is_over (g i) (b i)

some_left : (label : List ℕ) (cs : List Candidate) (batch : Batch) → batch_of label cs ≡ Some batch → cs ≡ [] → ⊥
some_left label [] batch is none = cc
some_left label (c ∷ cs) batch is none = cc

new_ids : (games : List Game) (cs : List Candidate) → AllByRecursion (λ c. numbers_of games (id_of c) ≡ None) cs → All (λ candidate. numbers_of games candidate.game.classes.id.bytes ≡ None) cs
new_ids games cs each = All-from_recursion (λ (c : Candidate). numbers_of games (id_of c) ≡ None) cs each

-- ---- the end

pub record EndsSo {J : Type 0} (label : List ℕ) (start : Known) (stream : List ℕ) (left_over : Option (List ℕ)) (batches : List Batch) (refused : List Refusal) (told : Option Store) (end : End J) : Type 0 where
  pub new : Store
  pub still : told ≡ Some new
  pub stands : StandsAt label end start stream left_over batches refused new
  pub quiet : (old new : Stream) → new.read_faults ≡ old.read_faults → ReadFaultsAre end old new
  pub stores : StoresBy end (start.journal ++ batches) start.fault new

module _ {J : Type 0} {label : List ℕ} (start : Known) (stream : List ℕ) (left_over : Option (List ℕ)) (done rest : List (List Cut)) (next : List Cut) (receipts : List (Receipt J)) (refused : List Refusal) (before : Option Store)
    (p : Progress label start done receipts refused before) (stopped : Stopped J) (told : Option Store) (so_far : List (List Cut)) (below : length stream < input_limit)
    (are : AreGroupsSoFar stream left_over so_far) (so_far_is : so_far ≡ done ++ next ∷ rest) where
  ends_at : (fault : CommitFault J) → Settles label p.known next stopped.refused.items (Some (Err fault)) told → EndsAt label start stream left_over p.batches (refused ++ stopped.refused.items)
  ends_at fault s = record {
    below = below;
    so_far = so_far;
    are_so_far = are;
    left = kept (stored_by p.known.fault p.known.games) (verdicts s.examinations);
    ends = record {
      done = done;
      next = next;
      rest = rest;
      so_far_is = so_far_is;
      earlier = refused;
      settled = record { accounted = p.accounted; closed = p.closed };
      known = p.known;
      journal_is = p.journal;
      fault_is = p.fault;
      examinations = s.examinations;
      are_examinations = s.are_examinations;
      left_are = refl;
      some_left = some_left label (kept (stored_by p.known.fault p.known.games) (verdicts s.examinations)) s.answered.0.batch s.answered.1.batch;
      refused_are = ap (λ (l : List Refusal). refused ++ l) s.refused_are;
    };
  }

  same_store : (new : Store) → new.journal ≡ p.known.journal → new.fault ≡ p.known.fault → (new.journal ≡ start.journal ++ p.batches) × (new.fault ≡ start.fault)
  same_store new journal fault = (journal ∙ p.journal, fault ∙ p.fault)

  ends_by : (fault : CommitFault J) → IsEndOf fault stopped.end → IsDecided {J = J} (Err fault) → Settles label p.known next stopped.refused.items (Some (Err fault)) told
      → EndsSo label start stream left_over p.batches (refused ++ stopped.refused.items) told stopped.end
  unfolding ends_at
  ends_by (faults.Clash handed pairs note) is decided s = absurd decided
  ends_by (faults.OutOfMemory stored) is decided s = absurd decided
  ends_by (faults.Closed before' after mark) is decided s =
      let commits = s.answered.2 in
      let P : End J → Type 0 = λ e. EndsSo label start stream left_over p.batches (refused ++ stopped.refused.items) told e in
      subst P (sym is) (record {
        stands = (commits.by.1, sym p.fault ∙ closed_cause p.known.fault p.known.games p.known.journal s.answered.0 before' after commits.by.0.refused, ends_at (faults.Closed before' after mark) s);
        quiet = λ old new same. inl same;
        new = commits.new;
        still = commits.still;
        stores = same_store commits.new commits.by.0.stores commits.by.0.fault;
      })
  ends_by (faults.DiskFault before' after mark) is decided s =
      let commits = s.answered.2 in
      let opens = open_cause p.known.fault p.known.games p.known.journal s.answered.0 commits.by.0.refused in
      let K : Option (ℕ × ℕ) → Type 0 = λ f. cause f p.known.games p.known.journal s.answered.0 ≡ None in
      let room = room_cause p.known.games p.known.journal s.answered.0 (subst K opens commits.by.0.refused) in
      let left = kept (stored_by p.known.fault p.known.games) (verdicts s.examinations) in
      let within = over_false (game_count p.known.journal + length left) (byte_count p.known.journal + sum_by (λ (candidate : Candidate). length candidate.text) left)
      (sym (over_with label p.known.journal left s.answered.0.batch s.answered.1.batch) ∙ room.room) in
      let P : End J → Type 0 = λ e. EndsSo label start stream left_over p.batches (refused ++ stopped.refused.items) told e in
      let H : List Batch → Type 0 = λ j. HasRoomFor j left in
      let M : Option Batch → Type 0 = λ failed. IsMark kinds.DiskFault before' after failed mark in
      subst P (sym is) (record {
        stands = (
          subst M (sym commits.by.0.fails) commits.by.1,
          sym p.fault ∙ opens,
          (ends_at (faults.DiskFault before' after mark) s, subst H p.journal within, commits.by.0.fails ∙ sym s.answered.1.batch),
        );
        quiet = λ old new same. inl same;
        new = commits.new;
        still = commits.still;
        stores = (commits.by.0.stores ∙ p.journal, commits.by.0.fault);
      })
  ends_by (faults.Full games bytes note) is decided s =
      let commits = s.answered.2 in
      let full = full_cause p.known.fault p.known.games p.known.journal s.answered.0 games bytes commits.by.0.refused in
      let left = kept (stored_by p.known.fault p.known.games) (verdicts s.examinations) in
      let ids = counted_ids left s.answered.0 s.answered.1 in
      let new = kept_none (numbers_of p.known.games) 0 left (ap (clashes_from 0 (numbers_of p.known.games)) (sym ids) ∙ full.1.by.new) in
      let over = sym (over_with label p.known.journal left s.answered.0.batch s.answered.1.batch) ∙ full.1.by.room in
      let passes = over_true (game_count p.known.journal + length left) (byte_count p.known.journal + sum_by (λ (candidate : Candidate). length candidate.text) left) over in
      let told_is : note ≡ p.known.journal = commits.by.1 ∙ commits.by.0.stores in
      let P : End J → Type 0 = λ e. EndsSo label start stream left_over p.batches (refused ++ stopped.refused.items) told e in
      let F : List Batch → Type 0 = λ j. FindsNoRoom j games bytes left in
      let G : ℕ → Type 0 = λ g. AreWithin (g + length left) (bytes + sum_by (λ candidate. length candidate.text) left) → ⊥ in
      let B : ℕ → Type 0 = λ b. AreWithin (game_count p.known.journal + length left) (b + sum_by (λ candidate. length candidate.text) left) → ⊥ in
      let no_room : FindsNoRoom p.known.journal games bytes left = record {
        games_are = full.1.games_are;
        bytes_are = full.1.bytes_are;
        stored = p.known.games;
        are_stored = p.known.are_games;
        new = new_ids p.known.games left new;
        passes = subst G (sym full.1.games_are) (subst B (sym full.1.bytes_are) passes);
      } in
      subst P (sym is) (record {
        stands = (sym p.fault ∙ full.0, told_is ∙ p.journal, (ends_at (faults.Full games bytes note) s, subst F (sym told_is) no_room));
        quiet = λ old new same. inl same;
        new = commits.new;
        still = commits.still;
        stores = same_store commits.new commits.by.0.stores commits.by.0.fault;
      })

  pub ends_so : StopsAt label p.known next stopped told → EndsSo label start stream left_over p.batches (refused ++ stopped.refused.items) told stopped.end
  ends_so stops = ends_by stops.fault stops.is_end stops.decided stops.settled
