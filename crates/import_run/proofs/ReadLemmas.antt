-- A stream that is read chunk by chunk.
use Rattle.std.proofs.Common.{◌≡◌, ℕ, ◌+◌, ◌<◌, ◌≤◌, List, [], ◌∷◌, ◌++◌, Option, length, take, refl, sym, ap, subst, ◌∙◌, length-append, arith}
use Rattle.std.proofs.lemmas.List.{append-nil, length-take-le}
use Rattle.outside.specs.Stream.{Stream, Gives, FailsToGive, Reads, Rises}
use Rattle.outside.proofs.StreamLemmas.{reads-gives, reads-fails, reads-trans}
use Rattle.explorer_model.specs.Cuts.{cuts}
use Rattle.explorer_model.specs.Journal.{input_limit}
use Rattle.ingest_desk.specs.declared.report.End.{End}
use Rattle.ingest_desk.specs.declared.report.End.TheVariants as ends
use Rattle.ingest_desk.specs.declared.report.Report.{Report}
use Rattle.import_run.specs.Beside.{AreRepeats}
use Rattle.import_run.specs.Committing.{Known, Store}
use Rattle.import_run.specs.Ending.{MayRise, ReadFaultsAre}
use Rattle.import_run.specs.Importing.{EndsEarly}
use Rattle.import_run.specs.Taking.{ComesQuietly, ComesTo, Imports, IsWholeSettled}
use Rattle.import_run.proofs.ComeLemmas.{comes_too_much}

pub longer : (taken n : ℕ) (buffer stream : List ℕ) → length stream ≡ taken → n ≤ length buffer → length (stream ++ take n buffer) ≡ taken + n
longer taken n buffer stream long within = omega (arith, length-append stream (take n buffer), length-take-le n buffer within, long)

pub read_more : (stream : List ℕ) (n : ℕ) (buffer : List ℕ) (old mid new : Stream) → Reads stream old mid → Gives n buffer mid new → Reads (stream ++ take n buffer) old new
read_more stream n buffer old mid new reads gives = reads-trans stream (take n buffer) old mid new reads (reads-gives n buffer mid new gives)

pub read_last : (stream : List ℕ) (n : ℕ) (buffer : List ℕ) (old mid new : Stream) → n ≡ 0 → Reads stream old mid → Gives n buffer mid new → Reads stream old new
read_last stream n buffer old mid new none reads gives =
    let same : stream ++ take n buffer ≡ stream = ap (λ (k : ℕ). stream ++ take k buffer) none ∙ append-nil stream in
    subst (λ (l : List ℕ). Reads l old new) same (read_more stream n buffer old mid new reads gives)

pub read_failed : (stream : List ℕ) (old mid new : Stream) → Reads stream old mid → FailsToGive mid new → Reads stream old new
read_failed stream old mid new reads fails =
    subst (λ (l : List ℕ). Reads l old new) (append-nil stream) (reads-trans stream [] old mid new reads (reads-fails mid new fails))

pub no_fault : (n : ℕ) (buffer : List ℕ) (old mid new : Stream) → mid.read_faults ≡ old.read_faults → Gives n buffer mid new → new.read_faults ≡ old.read_faults
no_fault n buffer old mid new before gives = ap (λ (s : Stream). s.read_faults) gives.rest ∙ before

-- the one byte that was read
pub one_byte : (buffer : List ℕ) → 0 < length buffer → (last : ℕ) × (take 1 buffer ≡ last ∷ [])
one_byte [] some = absurd (omega (arith, some))
one_byte (last ∷ rest) some = (last, refl)

module _ {J : Type 0} where
  -- an import without a fault of a read
  pub imports_quietly : {label : List ℕ} (start : Known) (old new : Stream) (report : Report J) (told : Option Store) (stream : List ℕ) → Reads stream old new → new.read_faults ≡ old.read_faults
      → ComesQuietly label start stream new.left report told → AreRepeats (cuts stream) report.clashes.items report.refused.items → Imports label start old new report told
  imports_quietly {label} start old new report told stream reads same c repeats = record { stream = stream; reads = reads; faults = c.quiet old new same; comes = c.comes; repeats = repeats }

  -- a read failed, and what was read before is settled
  pub imports_fault : {label : List ℕ} (start : Known) (old new : Stream) (report : Report J) (told : Option Store) (stream : List ℕ) (before after : ℕ) → report.end ≡ ends.ReadFault before after
      → before ≡ old.read_faults → after ≡ new.read_faults → Rises before after → Reads stream old new → ComesTo label start stream new.left report told
      → AreRepeats (cuts stream) report.clashes.items report.refused.items → Imports label start old new report told
  imports_fault {label} start old new report told stream before after is first last rises reads comes repeats =
      let P : End J → Type 0 = λ e. ReadFaultsAre e old new in
      record { stream = stream; reads = reads; faults = subst P (sym is) (first, last, rises); comes = comes; repeats = repeats }

  -- behind a group at which an import ended a read may have failed
  pub early_faults : (end : End J) (old new : Stream) → EndsEarly end → MayRise old.read_faults new.read_faults → ReadFaultsAre end old new
  early_faults ends.Whole old new early may = absurd early
  early_faults (ends.ReadFault before after) old new early may = absurd early
  early_faults (ends.TooMuch bytes) old new early may = absurd early
  early_faults (ends.DiskFault before after mark) old new early may = may
  early_faults (ends.Closed before after mark) old new early may = may
  early_faults (ends.Full games bytes note) old new early may = may
  early_faults ends.OutOfMemory old new early may = may

  pub imports_early : {label : List ℕ} (start : Known) (old new : Stream) (report : Report J) (told : Option Store) (stream : List ℕ) → Reads stream old new → MayRise old.read_faults new.read_faults → EndsEarly report.end
      → ComesQuietly label start stream new.left report told → AreRepeats (cuts stream) report.clashes.items report.refused.items → Imports label start old new report told
  imports_early {label} start old new report told stream reads may early c repeats =
      record { stream = stream; reads = reads; faults = early_faults report.end old new early may; comes = c.comes; repeats = repeats }

  -- the bound was reached, by one byte that was read alone
  pub imports_bound : {label : List ℕ} (start : Known) (old mid new : Stream) (report : Report J) (told : Option Store) (front : List ℕ) (n bytes : ℕ) (buffer : List ℕ) → report.end ≡ ends.TooMuch bytes
      → Reads front old mid → mid.read_faults ≡ old.read_faults → Gives n buffer mid new → n ≡ 1 → length front + 1 ≡ input_limit → bytes ≡ input_limit
      → IsWholeSettled label start front report.receipts.items report.refused.items told → AreRepeats (cuts (front ++ take n buffer)) report.clashes.items report.refused.items
      → Imports label start old new report told
  imports_bound {label} start old mid new report told front n bytes buffer is reads same gives one long bound whole repeats =
      let some : 0 < length buffer = omega (arith, gives.within, one) in
      let byte = one_byte buffer some in
      let front_is : front ++ take n buffer ≡ front ++ byte.0 ∷ [] = ap (λ (k : ℕ). front ++ take k buffer) one ∙ ap (λ (l : List ℕ). front ++ l) byte.1 in
      let all : length (front ++ take n buffer) ≡ input_limit = ap length front_is ∙ length-append front (byte.0 ∷ []) ∙ long in
      let P : End J → Type 0 = λ e. ReadFaultsAre e old new in
      record {
        stream = front ++ take n buffer;
        reads = read_more front n buffer old mid new reads gives;
        faults = subst P (sym is) (no_fault n buffer old mid new same gives);
        comes = comes_too_much start report (front ++ take n buffer) new.left told bytes is (bound ∙ sym all) all front byte.0 front_is whole;
        repeats = repeats;
      }
