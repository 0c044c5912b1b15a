-- What a listing of a store's batches comes to.
use Rattle.std.proofs.Common.{◌≡◌, ◌∙◌, ℕ, zero, suc, ◌+◌, ◌<◌, List, [], ◌∷◌, ◌++◌, length, take, map, get_or, slice_get, Some, Result, Ok, Err, refl, sym, ap, subst, arith, append_assoc, append-nil}
use Rattle.std.specs.Prelude.{Vec}
use Rattle.std.specs.Global.{Global}
use Rattle.std.proofs.lemmas.List.{length-take-le, take_more}
use Rattle.std.proofs.lemmas.Option.{get_or_from_slice_get, slice_get_within}
use Rattle.outside.specs.Stream.{Stream}
use Rattle.disk_model.specs.Disk.{DiskState}
use Rattle.explorer_model.specs.declared.archive.Batch.{Batch}
use Rattle.explorer_model.specs.declared.store.LogFault.TheVariants as log
use Rattle.explorer_model.specs.Spans.{Adjoin}
use Rattle.record_log.specs.declared.fault.OpenFault.{OpenFault}
use Rattle.record_log.specs.declared.fault.OpenFault.TheVariants as opening
use Rattle.segment_blocks.specs.Segment.{CountedSpan}
use Rattle.published_index.specs.Cover.{journal_of, spans_of}
use Rattle.published_index.proofs.CoverLemmas.{journal-next, length-batches, read-map}
use Rattle.host.specs.Hosts.{HandsDisk, HostState, TakesDisk}
use Rattle.explorer.specs.Faults.{fault_of_opening}
use Rattle.explorer.specs.Lines.{Stopped}
use Rattle.explorer.specs.ListBatches.{Lists, ListsAt, ListsBy, ListsIn, batch_line, batch_lines}
use Rattle.explorer.specs.Opened.{FailsUnread, IsRefusedBy, IsUnchanged, OpensTo}
use Rattle.explorer.specs.Stores.{IsSized}
use Rattle.explorer.specs.World.{world}
use Rattle.explorer.proofs.StoreLemmas.{rose, unchanged, uses}

-- ---- lines

lines_append : (number : ℕ) (batches more : List Batch)
    → batch_lines number (batches ++ more) ≡ batch_lines number batches ++ batch_lines (number + length batches) more
lines_append number [] more =
    let same : number + 0 ≡ number = omega arith in
    ap (λ (n : ℕ). batch_lines n more) (sym same)
lines_append number (batch ∷ batches) more =
    let on : suc number + length batches ≡ number + length (batch ∷ batches) = omega arith in
    ap (λ (l : List ℕ). batch_line number batch ++ l) (lines_append (suc number) batches more)
    ∙ ap (λ (n : ℕ). batch_line number batch ++ (batch_lines (suc number) batches ++ batch_lines n more)) on
    ∙ sym (append_assoc (batch_line number batch) (batch_lines (suc number) batches) (batch_lines (number + length (batch ∷ batches)) more))

-- one batch more
lines_next : (number n : ℕ) (batches : List Batch) (batch : Batch) → slice_get batches n ≡ Some batch
    → batch_lines number (take (n + 1) batches) ≡ batch_lines number (take n batches) ++ batch_line (number + n) batch
lines_next number n batches batch at =
    let below : n < length batches = slice_get_within batches n batch at in
    let taken : take (n + 1) batches ≡ take n batches ++ batch ∷ [] =
    take_more batches n batch below
    ∙ ap (λ (b : Batch). take n batches ++ b ∷ []) (get_or_from_slice_get batches n batch batch at) in
    let count : length (take n batches) ≡ n = length-take-le n batches (omega (arith, below)) in
    ap (λ (l : List Batch). batch_lines number l) taken ∙ lines_append number (take n batches) (batch ∷ [])
    ∙ ap (λ (k : ℕ). batch_lines number (take n batches) ++ (batch_line (number + k) batch ++ [])) count
    ∙ ap (λ (l : List ℕ). batch_lines number (take n batches) ++ l) (append-nil (batch_line (number + n) batch))

-- its line was put behind those of the batches before it
pub one_behind : (number n own : ℕ) (batches : List Batch) (batch : Batch) (front before after : List ℕ) → slice_get batches n ≡ Some batch → own ≡ number + n
    → before ≡ front ++ batch_lines number (take n batches) → after ≡ before ++ batch_line own batch
    → after ≡ front ++ batch_lines number (take (n + 1) batches)
one_behind number n own batches batch front before after at own_is so_far is =
    is ∙ ap (λ (k : ℕ). before ++ batch_line k batch) own_is ∙ ap (λ (l : List ℕ). l ++ batch_line (number + n) batch) so_far
    ∙ append_assoc front (batch_lines number (take n batches)) (batch_line (number + n) batch)
    ∙ ap (λ (l : List ℕ). front ++ l) (sym (lines_next number n batches batch at))

-- ---- segments

-- a segment of a list begins behind the batches of those before it
begins_at : (list : List CountedSpan) (first i : ℕ) (segment : CountedSpan) → Adjoin first (spans_of list) → slice_get list i ≡ Some segment
    → segment.span.first ≡ first + length (journal_of (take i list))
begins_at [] first i segment adjoin at = absurd cc
begins_at (x ∷ list) first zero segment adjoin at =
    let same : x ≡ segment = cc in
    let starts : x.span.first ≡ segment.span.first = ap (λ (s : CountedSpan). s.span.first) same in
    omega (arith, starts, adjoin.0)
begins_at (x ∷ list) first (suc i) segment adjoin at =
    omega (arith, begins_at list (first + length x.span.batches) i segment adjoin.1 at, length-batches x.span (spans_of (take i list)))

-- the lines of its batches were put behind those of the segments before it
pub segment_behind : {A : Type 0} (value : A → CountedSpan) (xs : List A) (list : List CountedSpan) (i : ℕ) (x : A) (segment : CountedSpan) (before after : List ℕ) → map value xs ≡ list → Adjoin 0 (spans_of list) → i < length xs → x ≡ get_or xs i x
    → segment ≡ value x → before ≡ batch_lines 1 (journal_of (take i list)) → after ≡ before ++ batch_lines (segment.span.first + 1) segment.span.batches
    → after ≡ batch_lines 1 (journal_of (take (i + 1) list))
segment_behind value xs list i x segment before after are adjoin below item segment_is so_far is =
    let at : slice_get list i ≡ Some (value x) =
    subst (λ (l : List CountedSpan). slice_get l i ≡ Some (value x)) are (read-map value xs i x below item) in
    let starts = begins_at list 0 i (value x) adjoin at in
    let number : (value x).span.first + 1 ≡ 1 + length (journal_of (take i list)) = omega (arith, starts) in
    is ∙ ap (λ (s : CountedSpan). before ++ batch_lines (s.span.first + 1) s.span.batches) segment_is
    ∙ ap (λ (l : List ℕ). l ++ batch_lines ((value x).span.first + 1) (value x).span.batches) so_far
    ∙ ap (λ (n : ℕ). batch_lines 1 (journal_of (take i list)) ++ batch_lines n (value x).span.batches) number
    ∙ sym (lines_append 1 (journal_of (take i list)) (value x).span.batches)
    ∙ ap (λ (l : List Batch). batch_lines 1 l) (sym (journal-next value xs list i x are below item))

-- ---- the store

-- it was opened, and its batches were listed or memory was refused
pub opened : {D : Type 0} (disk : D → DiskState) (old : DiskState) (new out : D) (journal : List Batch) → out ≡ new → OpensTo journal old (disk new) → (lines : Result (Vec ℕ Global) OpenFault) → ListsIn journal lines
    → ListsAt old (disk out) lines
opened {D} disk old new out journal is opens (Ok lines) lists =
    let P : D → Type 0 = λ d. OpensTo journal old (disk d) in
    (journal, subst P (sym is) opens, lists)
opened {D} disk old new out journal is opens (Err fault) lists =
    let P : OpenFault → Type 0 = λ f. ListsAt old (disk out) (Err f) in
    subst P (sym lists) (unchanged disk old new out journal is opens)

module _ (store : List ℕ) (input output errors : Stream) (before middle after : HostState) (handed returned : DiskState) (sized : IsSized handed) (hands : HandsDisk store handed before middle)
    (takes : TakesDisk store returned middle after) where
  -- the lines were made, and their writing came to this
  pub listed : (Wrote : List ℕ → Type 0) (written : Stream) (lines : Vec ℕ Global) → ListsAt handed returned (Ok lines) → Wrote lines.items
      → Lists Wrote store (world input output errors before) (world input written errors after)
  listed Wrote written lines lists wrote = record {
    journal = lists.0;
    read = uses store (OpensTo lists.0) handed returned before middle after sized hands lists.1 takes;
    wrote = subst Wrote lists.2 wrote;
    rest = refl;
  }

  -- there are no lines
  pub unlisted : (fault : OpenFault) → ListsAt handed returned (Err fault)
      → ListsBy store (world input output errors before) (world input output errors after) (Stopped (fault_of_opening fault))
  unlisted (opening.Log log.NotALog) lists = (uses store (IsRefusedBy log.NotALog) handed returned before middle after sized hands lists takes, refl)
  unlisted (opening.Log (log.OtherFormat number)) lists =
      (uses store (IsRefusedBy (log.OtherFormat number)) handed returned before middle after sized hands lists takes, refl)
  unlisted (opening.Log (log.Damaged gate)) lists =
      (uses store (IsRefusedBy (log.Damaged gate)) handed returned before middle after sized hands lists takes, refl)
  unlisted (opening.DiskFault first last) lists =
      (uses store FailsUnread handed returned before middle after sized hands lists takes, rose store handed returned before middle after hands takes lists.rises, refl)
  unlisted opening.OutOfMemory lists = (uses store IsUnchanged handed returned before middle after sized hands lists takes, refl)
