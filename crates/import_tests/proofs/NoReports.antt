-- The report of an import that stored and refused nothing.
use Rattle.std.proofs.Common.{◌≡◌, ℕ, List, [], refl, sym, subst, arith}
use Rattle.std.proofs.lemmas.List.Elements.{All-nil}
use Rattle.explorer_model.specs.declared.fault.Refusal.{Refusal}
use Rattle.explorer_model.specs.Cuts.{Cut, cuts, cuts_from, cuts_of, parted, preamble}
use Rattle.explorer_model.specs.Labels.{no_label}
use Rattle.explorer_model.specs.Imports.{AccountedBeside, groups}
use Rattle.ingest_desk.specs.declared.report.End.{End}
use Rattle.ingest_desk.specs.declared.report.End.TheVariants as ends
use Rattle.ingest_desk.specs.declared.report.Report.{Report}
use Rattle.ingest_desk.specs.Reporting.{AccountsTo, RepeatsBy, Reports}
use Rattle.ingest_desk.specs.Drawn.{DrawsFor}
use Rattle.ingest_desk.specs.declared.receipt.Receipt.{Receipt}
use Rattle.published_index.specs.Places.{new_drawing}

none-beside : AccountedBeside no_label [] [] []
none-beside = record {
  examinations = [];
  are_examinations = tt;
  numbers = [];
  one_each = refl;
  yields = record { batches_are = refl; refused_are = refl };
}

no-groups : groups (cuts []) ≡ []
unfolding groups cuts cuts_from cuts_of parted preamble
no-groups = refl

reports : {J : Type 0} (cuts : List Cut) (report : Report J) → report.receipts.items ≡ [] → report.refused.items ≡ []
    → AccountsTo no_label report.end (groups cuts) [] [] → Reports no_label cuts report
reports cuts report receipts refused accounts = record {
  batches = [];
  are_receipts = rw receipts tt;
  accounts = subst (λ (r : List Refusal). AccountsTo no_label report.end (groups cuts) [] r) (sym refused) accounts;
  repeats = rw refused (All-nil (λ r. RepeatsBy cuts report.clashes.items r.place r.why));
}

pub reports-nothing : {J : Type 0} (body : List ℕ) (report : Report J) → report.receipts.items ≡ [] → report.refused.items ≡ []
    → report.end ≡ ends.OutOfMemory → Reports no_label (cuts body) report
reports-nothing {J} body report receipts refused end =
    reports (cuts body) report receipts refused
    (subst (λ (e : End J). AccountsTo no_label e (groups (cuts body)) [] []) (sym end) (0, ([], refl, record { within = omega arith; accounted = none-beside })))

pub reports-empty : {J : Type 0} (body : List ℕ) (report : Report J) → body ≡ [] → report.receipts.items ≡ []
    → report.refused.items ≡ [] → report.end ≡ ends.Whole → Reports no_label (cuts body) report
reports-empty {J} body report empty receipts refused end =
    let whole : AccountedBeside no_label (groups (cuts body)) [] [] = rw (empty, no-groups) none-beside in
    reports (cuts body) report receipts refused (subst (λ (e : End J). AccountsTo no_label e (groups (cuts body)) [] []) (sym end) whole)

-- where nothing is stored nothing is drawn
pub draws-nothing : {J : Type 0} (most : ℕ) (receipts : List (Receipt J)) → receipts ≡ []
    → DrawsFor most receipts new_drawing new_drawing
draws-nothing {J} most receipts none =
    subst (λ (rs : List (Receipt J)). DrawsFor most rs new_drawing new_drawing) (sym none)
    (record { untold = []; few = omega arith; drawn = refl })
