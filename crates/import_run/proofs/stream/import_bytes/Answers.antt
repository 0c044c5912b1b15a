use Rattle.std.proofs.Common.{inl, ◌<◌, [], ◌∙◌, Option, Some, length, refl, sym, subst, arith}
use Rattle.pgn_cut.specs.Cutter.{cuts_of_rest}
use Rattle.explorer_model.specs.Journal.{input_limit}
use Rattle.import_run.specs.Committing.{Store, store_of}
use Rattle.import_run.specs.Taking.{CutSoFar, LacksWithin, StopsWithin}
use Rattle.import_run.proofs.LabelLemmas.{quietly_as, quietly_beside_as}
use Rattle.import_run.proofs.ComeBesideLemmas.{lacking_within_beside}
use Rattle.import_run.proofs.ComeLemmas.{lacking_within}
use Rattle.import_run.proofs.TakingLemmas.{taken_none}
use Rattle.import_run.proofs.DrawLemmas.{draws-none, draws-same, draws-told}
use Rattle.import_run.proofs.stream.import_bytes.Goals as goal

pub returns-in-Ok-clause-beside : goal.returns-in-Ok-clause-beside
returns-in-Ok-clause-beside g c =
    let told = g.C.Committer.told c.args.committer.now in
    let below : length c.args.bytes.now < input_limit = omega (arith, c.requires.few) in
    let start : CutSoFar told [] (cuts_of_rest c.new-cutter.result) c.new-import.result told =
    record { taken = []; cut = c.new-cutter.ensures.cuts; begun = λ some. absurd (omega (arith, some)); so_far = taken_none told c.new-import.result c.new-import.ensures.group c.new-import.ensures.receipts c.new-import.ensures.refused } in
    quietly_beside_as (c.feed.ensures.label ∙ c.new-import.ensures.label ∙ c.none.ensures)
    (c.end.ensures.beside told c.args.bytes.now (Some []) refl below (c.in-Ok.ensures.cut told [] start))

pub returns-in-Err-Fault-clause-beside : goal.returns-in-Err-Fault-clause-beside
returns-in-Err-Fault-clause-beside g c =
    let told = g.C.Committer.told c.args.committer.now in
    let told' = g.C.Committer.told c.feed.new.committer in
    let below : length c.args.bytes.now < input_limit = omega (arith, c.requires.few) in
    let start : CutSoFar told [] (cuts_of_rest c.new-cutter.result) c.new-import.result told =
    record { taken = []; cut = c.new-cutter.ensures.cuts; begun = λ some. absurd (omega (arith, some)); so_far = taken_none told c.new-import.result c.new-import.ensures.group c.new-import.ensures.receipts c.new-import.ensures.refused } in
    let stops : StopsWithin told c.args.bytes.now c.feed.new.self c.in-Err-Fault.stopped told' = (rw c.in-Err-Fault.field-0-is at c.in-Err-Fault.ensures.cut) told [] start in
    quietly_beside_as (c.feed.ensures.label ∙ c.new-import.ensures.label ∙ c.none.ensures)
    (c.report_stop.ensures.beside told c.args.bytes.now (Some []) told' below
    (inl (subst (λ stopped. StopsWithin told c.args.bytes.now c.feed.new.self stopped told') (sym c.in-Err-Fault.stopped-is) stops)))

pub returns-clause-beside : goal.returns-clause-beside
returns-clause-beside g c =
    let told = g.C.Committer.told c.args.committer.now in
    let told' = g.C.Committer.told c.feed.new.committer in
    let below : length c.args.bytes.now < input_limit = omega (arith, c.requires.few) in
    let start : CutSoFar told [] (cuts_of_rest c.new-cutter.result) c.new-import.result told =
    record { taken = []; cut = c.new-cutter.ensures.cuts; begun = λ some. absurd (omega (arith, some)); so_far = taken_none told c.new-import.result c.new-import.ensures.group c.new-import.ensures.receipts c.new-import.ensures.refused } in
    let lacks : LacksWithin told c.args.bytes.now c.feed.new.self told' = (rw c.in-Err-OutOfMemory.field-0-is at c.in-Err-OutOfMemory.ensures.cut) told [] start in
    quietly_beside_as (c.feed.ensures.label ∙ c.new-import.ensures.label ∙ c.none.ensures)
    (lacking_within_beside c.args.bytes.now (Some []) c.report.result c.feed.new.self c.report.ensures.receipts c.report.ensures.clashes below c.report.ensures.refused told told' c.report.ensures.end lacks)

pub returns-in-Ok-clause-told : goal.returns-in-Ok-clause-told
returns-in-Ok-clause-told g c = λ start is.
    let told = g.C.Committer.told c.args.committer.now in
    let told' = g.C.Committer.told c.feed.new.committer in
    let below : length c.args.bytes.now < input_limit = omega (arith, c.requires.few) in
    let begin : CutSoFar told [] (cuts_of_rest c.new-cutter.result) c.new-import.result told =
    record { taken = []; cut = c.new-cutter.ensures.cuts; begun = λ some. absurd (omega (arith, some)); so_far = taken_none told c.new-import.result c.new-import.ensures.group c.new-import.ensures.receipts c.new-import.ensures.refused } in
    let P : Option Store → Type 0 = λ s. CutSoFar s c.args.bytes.now (cuts_of_rest c.feed.new.cutter) c.feed.new.self told' in
    quietly_as (c.feed.ensures.label ∙ c.new-import.ensures.label ∙ c.none.ensures)
    (c.end.ensures.comes start c.args.bytes.now (Some []) refl below (subst P is (c.in-Ok.ensures.cut told [] begin)))

pub returns-in-Err-Fault-clause-told : goal.returns-in-Err-Fault-clause-told
returns-in-Err-Fault-clause-told g c = λ start is.
    let told = g.C.Committer.told c.args.committer.now in
    let told' = g.C.Committer.told c.feed.new.committer in
    let below : length c.args.bytes.now < input_limit = omega (arith, c.requires.few) in
    let begin : CutSoFar told [] (cuts_of_rest c.new-cutter.result) c.new-import.result told =
    record { taken = []; cut = c.new-cutter.ensures.cuts; begun = λ some. absurd (omega (arith, some)); so_far = taken_none told c.new-import.result c.new-import.ensures.group c.new-import.ensures.receipts c.new-import.ensures.refused } in
    let stops : StopsWithin told c.args.bytes.now c.feed.new.self c.in-Err-Fault.stopped told' = (rw c.in-Err-Fault.field-0-is at c.in-Err-Fault.ensures.cut) told [] begin in
    let P : Option Store → Type 0 = λ s. StopsWithin s c.args.bytes.now c.feed.new.self c.in-Err-Fault.stopped told' in
    quietly_as (c.feed.ensures.label ∙ c.new-import.ensures.label ∙ c.none.ensures)
    (c.report_stop.ensures.comes start c.args.bytes.now (Some []) told' below
    (inl (subst (λ stopped. StopsWithin (Some (store_of start)) c.args.bytes.now c.feed.new.self stopped told') (sym c.in-Err-Fault.stopped-is) (subst P is stops))))

pub returns-clause-told : goal.returns-clause-told
returns-clause-told g c = λ start is.
    let told = g.C.Committer.told c.args.committer.now in
    let told' = g.C.Committer.told c.feed.new.committer in
    let below : length c.args.bytes.now < input_limit = omega (arith, c.requires.few) in
    let begin : CutSoFar told [] (cuts_of_rest c.new-cutter.result) c.new-import.result told =
    record { taken = []; cut = c.new-cutter.ensures.cuts; begun = λ some. absurd (omega (arith, some)); so_far = taken_none told c.new-import.result c.new-import.ensures.group c.new-import.ensures.receipts c.new-import.ensures.refused } in
    let lacks : LacksWithin told c.args.bytes.now c.feed.new.self told' = (rw c.in-Err-OutOfMemory.field-0-is at c.in-Err-OutOfMemory.ensures.cut) told [] begin in
    let P : Option Store → Type 0 = λ s. LacksWithin s c.args.bytes.now c.feed.new.self told' in
    quietly_as (c.feed.ensures.label ∙ c.new-import.ensures.label ∙ c.none.ensures)
    (lacking_within start c.report.result c.args.bytes.now (Some []) told' c.feed.new.self c.report.ensures.end c.report.ensures.receipts c.report.ensures.refused below (subst P is lacks))

-- ---- what is drawn

pub returns-in-Ok-clause-drawn : goal.returns-in-Ok-clause-drawn
returns-in-Ok-clause-drawn g c =
    let first = draws-same 0 [] _ _ _ c.new-import.ensures.receipts (draws-none (g.C.Committer.drawing c.args.committer.now)) in
    c.end.ensures.drawn _ (c.in-Ok.ensures.drawn _ first)

pub returns-in-Err-Fault-clause-drawn : goal.returns-in-Err-Fault-clause-drawn
returns-in-Err-Fault-clause-drawn g c =
    let first = draws-same 0 [] _ _ _ c.new-import.ensures.receipts (draws-none (g.C.Committer.drawing c.args.committer.now)) in
    c.report_stop.ensures.drawn _ _ ((rw c.in-Err-Fault.field-0-is at c.in-Err-Fault.ensures.drawn) _ first)

pub returns-clause-drawn : goal.returns-clause-drawn
returns-clause-drawn g c =
    let first = draws-same 0 [] _ _ _ c.new-import.ensures.receipts (draws-none (g.C.Committer.drawing c.args.committer.now)) in
    draws-told c.report.result _ _ _ c.report.ensures.end c.report.ensures.receipts
    ((rw c.in-Err-OutOfMemory.field-0-is at c.in-Err-OutOfMemory.ensures.drawn) _ first)
