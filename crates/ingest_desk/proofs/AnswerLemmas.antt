-- A commit has one answer.
use Rattle.std.proofs.Common.{◌≡◌, ℕ, List, Option, Some, None, Result, Ok, Err, true, false, sym, ap, ◌∙◌}
use Rattle.std.proofs.lemmas.Option.{some_pair_parts}
use Rattle.arrayvec.specs.ArrayVec.{ArrayVec}
use Rattle.disk_model.specs.Disk.{DiskState}
use Rattle.explorer_model.specs.declared.archive.Batch.{Batch}
use Rattle.explorer_model.specs.declared.archive.Game.{Game}
use Rattle.record_log.specs.Log.{Log, Adds, Breaks}
use Rattle.tally_rows.specs.Tally.{Counted}
use Rattle.published_index.specs.Changes.{Change}
use Rattle.published_index.specs.Places.{Drawing}
use Rattle.ingest_desk.specs.Answers.{Draws, HadMemory, IsAnswer}
use Rattle.ingest_desk.specs.Causes.{Cause, HasIds, HasNoRoom, IsClosed}
use Rattle.ingest_desk.specs.declared.clashing.Clashing.{Clashing}
use Rattle.ingest_desk.specs.declared.fault.CommitFault.{CommitFault}
use Rattle.ingest_desk.specs.declared.fault.CommitFault.TheVariants as faults
use Rattle.ingest_desk.specs.declared.mark.MarkKind.{MarkKind}
use Rattle.ingest_desk.specs.declared.mark.MarkKind.TheVariants as kinds
use Rattle.ingest_desk.specs.Marked.{IsMark, Marked}
use Rattle.ingest_desk.specs.declared.receipt.Receipt.{Receipt}

-- ---- one cause

clash : {why a b : Option Cause} → why ≡ a → why ≡ b → a ≡ b
clash first second = sym first ∙ second

module _ {D : Type 0} (disk : D → DiskState) (old log : Log D) where
  stored-open : (count : ℕ) → Adds disk count old log → log.fault ≡ None
  stored-open count adds = ap (λ (l : Log D). l.fault) adds.rest ∙ adds.sound

  broken : (b a : ℕ) → Breaks disk b a old log → ◌≡◌ {A = Option (ℕ × ℕ)} log.fault (Some (b, a))
  broken b a breaks = ap (λ (l : Log D). l.fault) breaks.rest

closed-counts : (b a b' a' : ℕ) → Some (IsClosed b a) ≡ Some (IsClosed b' a') → (b ≡ b') × (a ≡ a')
closed-counts b a b' a' is = (cc, cc)

room-counts : (g b g' b' : ℕ) → Some (HasNoRoom g b) ≡ Some (HasNoRoom g' b') → (g ≡ g') × (b ≡ b')
room-counts g b g' b' is = (cc, cc)

same-ids : (pairs others : List Clashing) → Some (HasIds pairs) ≡ Some (HasIds others) → pairs ≡ others
same-ids pairs others is = cc

one-mark : (kind : MarkKind) (b a b' a' : ℕ) (failed : Option Batch) (mark other : Marked)
    → (b ≡ b') × (a ≡ a') → IsMark kind b a failed mark → IsMark kind b' a' failed other
    → mark ≡ other
one-mark kind b a b' a' failed mark other counts one second =
    let kinds = one.kind_is ∙ sym second.kind_is in
    let before = one.before_is ∙ counts.0 ∙ sym second.before_is in
    let after = one.after_is ∙ counts.1 ∙ sym second.after_is in
    let batch = one.failed_is ∙ sym second.failed_is in
    λ i. record { kind = kinds i; before = before i; after = after i; failed = batch i }

module _ {D J : Type 0} (disk : D → DiskState) (tally : Counted) (games : List Game) (journal : List Batch) (held : Option Change)
    (old new after : Log D) (same : new.fault ≡ after.fault) where
  abbrev First : Result (Receipt J) (CommitFault J) → Type 0
  First answer = IsAnswer disk tally games journal held old new answer

  abbrev Second : Result (Receipt J) (CommitFault J) → Type 0
  Second answer = IsAnswer disk tally games journal held old after answer

  one-ok : (receipt : Receipt J) (other : Result (Receipt J) (CommitFault J)) → First (Ok receipt) → Second other
      → HadMemory other → Ok receipt ≡ other
  one-ok receipt (Ok r) a b had =
      let batches = a.2.batches ∙ sym b.2.batches in
      let first = a.2.first ∙ sym b.2.first in
      let count = a.2.games ∙ sym b.2.games in
      let note = a.3 ∙ sym b.3 in
      λ i. Ok (record { batches = batches i; first = first i; games = count i; note = note i })
  one-ok receipt (Err (faults.Closed before later mark)) a b had = absurd (cc (clash a.0 b.0))
  one-ok receipt (Err (faults.Clash handed pairs note)) a b had = absurd (cc (clash a.0 b.0))
  one-ok receipt (Err (faults.Full g bytes note)) a b had = absurd (cc (clash a.0 b.0))
  one-ok receipt (Err (faults.DiskFault before later mark)) a b had =
      let never : ◌≡◌ {A = Option (ℕ × ℕ)} None (Some (before, later)) = sym (stored-open disk old new _ a.1) ∙ same ∙ broken disk old after before later b.1 in
      absurd (cc (never))
  one-ok receipt (Err (faults.OutOfMemory stored)) a b had = absurd had

  one-closed : (before later : ℕ) (mark : Marked) (other : Result (Receipt J) (CommitFault J))
      → First (Err (faults.Closed before later mark)) → Second other → HadMemory other → Err (faults.Closed before later mark) ≡ other
  one-closed before later mark (Ok r) a b had = absurd (cc (clash a.0 b.0))
  one-closed before later mark (Err (faults.Closed before' later' mark')) a b had =
      let counts = closed-counts before later before' later' (clash a.0 b.0) in
      let marks = one-mark kinds.Closed before later before' later' None mark mark' counts a.2 b.2 in
      λ i. Err (faults.Closed (counts.0 i) (counts.1 i) (marks i))
  one-closed before later mark (Err (faults.Clash handed pairs note)) a b had = absurd (cc (clash a.0 b.0))
  one-closed before later mark (Err (faults.Full g bytes note)) a b had = absurd (cc (clash a.0 b.0))
  one-closed before later mark (Err (faults.DiskFault before' later' mark')) a b had = absurd (cc (clash a.0 b.0))
  one-closed before later mark (Err (faults.OutOfMemory stored)) a b had = absurd had

  one-clash : (handed : Counted) (pairs : ArrayVec Clashing) (note : List Batch) (other : Result (Receipt J) (CommitFault J))
      → First (Err (faults.Clash handed pairs note)) → Second other → HadMemory other → Err (faults.Clash handed pairs note) ≡ other
  one-clash handed pairs note (Ok r) a b had = absurd (cc (clash a.0 b.0))
  one-clash handed pairs note (Err (faults.Closed before later mark)) a b had = absurd (cc (clash a.0 b.0))
  one-clash handed pairs note (Err (faults.Clash handed' pairs' note')) a b had =
      let tallies = a.2 ∙ sym b.2 in
      let ids = same-ids pairs.items pairs'.items (clash a.0 b.0) in
      let notes = a.3 ∙ sym b.3 in
      λ i. Err (faults.Clash (tallies i) (record { items = ids i }) (notes i))
  one-clash handed pairs note (Err (faults.Full g bytes note')) a b had = absurd (cc (clash a.0 b.0))
  one-clash handed pairs note (Err (faults.DiskFault before later mark)) a b had = absurd (cc (clash a.0 b.0))
  one-clash handed pairs note (Err (faults.OutOfMemory stored)) a b had = absurd had

  one-full : (g bytes : ℕ) (note : List Batch) (other : Result (Receipt J) (CommitFault J))
      → First (Err (faults.Full g bytes note)) → Second other → HadMemory other → Err (faults.Full g bytes note) ≡ other
  one-full g bytes note (Ok r) a b had = absurd (cc (clash a.0 b.0))
  one-full g bytes note (Err (faults.Closed before later mark)) a b had = absurd (cc (clash a.0 b.0))
  one-full g bytes note (Err (faults.Clash handed pairs note')) a b had = absurd (cc (clash a.0 b.0))
  one-full g bytes note (Err (faults.Full g' bytes' note')) a b had =
      let counts = room-counts g bytes g' bytes' (clash a.0 b.0) in
      let notes = a.2 ∙ sym b.2 in
      λ i. Err (faults.Full (counts.0 i) (counts.1 i) (notes i))
  one-full g bytes note (Err (faults.DiskFault before later mark)) a b had = absurd (cc (clash a.0 b.0))
  one-full g bytes note (Err (faults.OutOfMemory stored)) a b had = absurd had

  one-fault : (before later : ℕ) (mark : Marked) (other : Result (Receipt J) (CommitFault J))
      → First (Err (faults.DiskFault before later mark)) → Second other → HadMemory other → Err (faults.DiskFault before later mark) ≡ other
  one-fault before later mark (Ok r) a b had =
      let never : ◌≡◌ {A = Option (ℕ × ℕ)} None (Some (before, later)) = sym (stored-open disk old after _ b.1) ∙ sym same ∙ broken disk old new before later a.1 in
      absurd (cc (never))
  one-fault before later mark (Err (faults.Closed before' later' mark')) a b had = absurd (cc (clash a.0 b.0))
  one-fault before later mark (Err (faults.Clash handed pairs note)) a b had = absurd (cc (clash a.0 b.0))
  one-fault before later mark (Err (faults.Full g bytes note)) a b had = absurd (cc (clash a.0 b.0))
  one-fault before later mark (Err (faults.DiskFault before' later' mark')) a b had =
      let counts = some_pair_parts before before' later later'
      (sym (broken disk old new before later a.1) ∙ same ∙ broken disk old after before' later' b.1) in
      let marks = one-mark kinds.DiskFault before later before' later' (Some tally.batch) mark mark' counts a.2 b.2 in
      λ i. Err (faults.DiskFault (counts.0 i) (counts.1 i) (marks i))
  one-fault before later mark (Err (faults.OutOfMemory stored)) a b had = absurd had

  pub one-answer : (answer other : Result (Receipt J) (CommitFault J)) → First answer → Second other
      → HadMemory answer → HadMemory other → answer ≡ other
  one-answer (Ok receipt) other a b has had = one-ok receipt other a b had
  one-answer (Err (faults.Closed before later mark)) other a b has had = one-closed before later mark other a b had
  one-answer (Err (faults.Clash handed pairs note)) other a b has had = one-clash handed pairs note other a b had
  one-answer (Err (faults.Full g bytes note)) other a b has had = one-full g bytes note other a b had
  one-answer (Err (faults.DiskFault before later mark)) other a b has had = one-fault before later mark other a b had
  one-answer (Err (faults.OutOfMemory stored)) other a b has had = absurd has

-- with an answer a drawer draws one thing
pub one-drawing : {J : Type 0} (answer : Result (Receipt J) (CommitFault J)) (place : ℕ) (old mine yours : Drawing)
    → Draws answer place old mine → Draws answer place old yours → mine ≡ yours
one-drawing (Ok receipt) place old mine yours first second = first ∙ sym second
one-drawing (Err (faults.Closed before later mark)) place old mine yours first second = first ∙ sym second
one-drawing (Err (faults.Clash handed pairs note)) place old mine yours first second = first ∙ sym second
one-drawing (Err (faults.Full g bytes note)) place old mine yours first second = first ∙ sym second
one-drawing (Err (faults.DiskFault before later mark)) place old mine yours first second = first ∙ sym second
one-drawing (Err (faults.OutOfMemory true)) place old mine yours first second = first ∙ sym second
one-drawing (Err (faults.OutOfMemory false)) place old mine yours first second = first ∙ sym second
