use Rattle.std.proofs.Common.{◌≡◌, ◌∙◌, ap, length, List, refl, subst, true, ℕ}
use Rattle.explorer_model.specs.declared.fault.Refusal.{Refusal}
use Rattle.explorer_model.proofs.Timelines.{prefix-trans}
use Rattle.ingest_desk.specs.declared.receipt.Receipt.{Receipt}
use Rattle.ingest_desk.specs.Importers.{call_of, ending_of}
use Rattle.ingest_desk.specs.Reporting.{games_of}
use Rattle.session.specs.Imports.{TellsEnding}
use Rattle.session.specs.Steps.{AreBehind}
use Rattle.session.proofs.KnownNotes.{known-grows}
use Rattle.session.proofs.StoredLemmas.{replies-to, stand-behind}
use Rattle.session.proofs.importing.import.Goals as goal

pub returns-clause-replied : goal.returns-clause-replied
returns-clause-replied g c =
    let report = c.import-report.result in
    let pass = c.args.pass.now.seen in
    let pass1 = c.learn_receipts.new.pass.seen in
    let pass2 = c.learn_notes.new.pass.seen in
    let journal = c.reply_to_end.new.pass.seen in
    let later = prefix-trans pass1 pass2 journal c.learn_notes.ensures.grew c.reply_to_end.ensures.grew in
    let receipts = known-grows (λ receipt. receipt.note) report.receipts.items pass1 journal later c.learn_receipts.ensures.knows in
    let notes = known-grows (λ note. note) report.clashes.items pass2 journal c.reply_to_end.ensures.grew c.learn_notes.ensures.knows in
    let count : c.count_games.result ≡ games_of report.receipts.items = c.count_games.ensures ∙ ap games_of c.as_slice.ensures.value in
    let by_refused = subst (λ (refused : List Refusal). TellsEnding (ending_of report.end) (length journal) c.count_games.result refused c.reply_to_end.result) c.as_slice-3.ensures.value c.reply_to_end.ensures.reply in
    let by = subst (λ (n : ℕ). TellsEnding (ending_of report.end) (length journal) n report.refused.items c.reply_to_end.result) count by_refused in
    let new = λ (is : c.are_behind.result ≡ true).
    let behind = subst (λ (rs : List (Receipt g.row.J.Denot)). AreBehind (length pass) rs) c.as_slice-2.ensures.value (subst (λ (n : ℕ). AreBehind n c.as_slice-2.result.now) c.front-seen.ensures (c.are_behind.ensures is)) in
    stand-behind (length pass) report.receipts.items c.import-report.ensures.reports.batches journal behind c.import-report.ensures.reports.are_receipts receipts in
    let replied = replies-to c.args.body.now report (length pass) journal c.reply_to_end.result
    (g.I.Importer.importer c.args.importer.now).drawing (g.I.Importer.importer c.import-report.new.self).drawing
    c.import-report.ensures.reports c.import-report.ensures.in_memory receipts notes c.reply_to_end.ensures.knows by
    (c.reply_to_end.ensures.new (length pass) journal c.import-report.ensures.reports.batches new) c.import-report.ensures.drawn in
    record {
      call = call_of c.args.body.now report;
      grew = prefix-trans pass pass1 journal c.learn_receipts.ensures.grew later;
      body_is = refl;
      counts = c.import-report.ensures.counts;
      replies = replied.0;
      drawn = replied.1;
      readings = c.reply_to_end.ensures.readings ∙ (c.learn_notes.ensures.readings ∙ c.learn_receipts.ensures.readings);
      called = c.import-report.ensures.told;
    }

pub returns-clause-learnt : goal.returns-clause-learnt
returns-clause-learnt g c =
    let report = c.import-report.result in
    let pass1 = c.learn_receipts.new.pass.seen in
    let pass2 = c.learn_notes.new.pass.seen in
    let journal = c.reply_to_end.new.pass.seen in
    let later = prefix-trans pass1 pass2 journal c.learn_notes.ensures.grew c.reply_to_end.ensures.grew in
    let receipts = known-grows (λ receipt. receipt.note) report.receipts.items pass1 journal later c.learn_receipts.ensures.knows in
    let notes = known-grows (λ note. note) report.clashes.items pass2 journal c.reply_to_end.ensures.grew c.learn_notes.ensures.knows in
    record {
      report = report;
      reports = c.import-report.ensures.reports;
      told = c.import-report.ensures.told;
      receipts = receipts;
      clashes = notes;
      end = c.reply_to_end.ensures.knows;
    }
