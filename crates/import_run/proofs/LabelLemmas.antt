-- Batches and tallies of candidates under a label.
use Rattle.std.proofs.Common.{◌≡◌, ℕ, List, [], ◌∷◌, Option, None, Some, option_map, sym, ap, subst}
use Rattle.std.proofs.lemmas.Option.{none-some, same_Some}
use Rattle.explorer_model.specs.declared.archive.Batch.{Batch}
use Rattle.explorer_model.specs.Labels.{no_label}
use Rattle.explorer_model.specs.Imports.{Candidate, batch_of}
use Rattle.tally_rows.specs.Tally.{Counted}
use Rattle.batch_tally.specs.Tallying.{Counts, IsTallyMade}
use Rattle.outside.specs.Stream.{Stream}
use Rattle.ingest_desk.specs.declared.report.Report.{Report}
use Rattle.import_run.specs.Committing.{Known, Store}
use Rattle.import_run.specs.EndingBeside.{ImportsBeside}
use Rattle.import_run.specs.Labelling.{CountsUnder, IsTallyUnder, under}
use Rattle.import_run.specs.Taking.{ComesQuietly, ComesQuietlyBeside, Imports}

-- the batch of candidates has the label
pub label_is : (label : List ℕ) (cs : List Candidate) (batch : Batch) → batch_of label cs ≡ Some batch → batch.label ≡ label
label_is label [] batch e = absurd (none-some batch e)
label_is label (c ∷ cs) batch e = ap (λ (b : Batch). b.label) (sym (same_Some _ batch e))

-- under another label it is the same batch, but for the label
relabelled : (label other : List ℕ) (cs : List Candidate) (batch : Batch) → batch_of other cs ≡ Some batch → batch_of label cs ≡ Some (record batch { label = label })
relabelled label other [] batch e = absurd (none-some batch e)
relabelled label other (c ∷ cs) batch e = ap (λ (b : Batch). Some (record b { label = label })) (same_Some _ batch e)

pub counts_under : (label : List ℕ) (cs : List Candidate) (counted : Counted) → Counts cs counted → CountsUnder label cs (under label counted)
counts_under label cs counted counts = record {
  batch = relabelled label no_label cs counted.batch counts.batch;
  counts = record {
    batch = relabelled no_label no_label cs counted.batch counts.batch;
    classes = counts.classes;
    tracks = counts.tracks;
    are_tracks = counts.are_tracks;
    tallied = counts.tallied;
  };
}

-- what was tallied is labelled
pub made_under : (label : List ℕ) (cs : List Candidate) (made tally : Option Counted) → IsTallyMade cs made → tally ≡ option_map (under label) made → IsTallyUnder label cs tally
made_under label cs made tally is same =
    let P : Option Counted → Type 0 = λ t. IsTallyUnder label cs t in
    subst P (sym same) (by made is)
  where
    by : (made : Option Counted) → IsTallyMade cs made → IsTallyUnder label cs (option_map (under label) made)
    by None is = is
    by (Some counted) is = counts_under label cs counted is

-- a tally of candidates under a label is one under its own
pub counts_own : (label : List ℕ) (cs : List Candidate) (counted : Counted) → CountsUnder label cs counted → CountsUnder counted.batch.label cs counted
counts_own label cs counted counts =
    let P : List ℕ → Type 0 = λ l. CountsUnder l cs counted in
    subst P (sym (label_is label cs counted.batch counts.batch)) counts

-- ---- what is said of an import, under a label that is the same

module _ {J : Type 0} {label other : List ℕ} (same : label ≡ other) where
  pub imports_as : {start : Known} {old new : Stream} {report : Report J} {told : Option Store} → Imports label start old new report told → Imports other start old new report told
  imports_as {start} {old} {new} {report} {told} said = subst (λ (l : List ℕ). Imports l start old new report told) same said

  pub imports_beside_as : {old new : Stream} {report : Report J} → ImportsBeside label old new report → ImportsBeside other old new report
  imports_beside_as {old} {new} {report} said = subst (λ (l : List ℕ). ImportsBeside l old new report) same said

  pub quietly_as : {start : Known} {stream : List ℕ} {left_over : Option (List ℕ)} {report : Report J} {told : Option Store} → ComesQuietly label start stream left_over report told
      → ComesQuietly other start stream left_over report told
  quietly_as {start} {stream} {left_over} {report} {told} said = subst (λ (l : List ℕ). ComesQuietly l start stream left_over report told) same said

  pub quietly_beside_as : {stream : List ℕ} {left_over : Option (List ℕ)} {report : Report J} → ComesQuietlyBeside label stream left_over report
      → ComesQuietlyBeside other stream left_over report
  quietly_beside_as {stream} {left_over} {report} said = subst (λ (l : List ℕ). ComesQuietlyBeside l stream left_over report) same said
