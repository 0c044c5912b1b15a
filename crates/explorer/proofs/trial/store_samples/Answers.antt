use Rattle.std.proofs.Common.{List, [], Some, ap, refl, rules, subst, sym}
use Rattle.explorer_model.specs.declared.archive.Batch.{Batch}
use Rattle.explorer_model.specs.declared.archive.Placed.{Placed}
use Rattle.explorer_model.specs.Visits.{AreGamesOf}
use Rattle.ingest_desk.specs.Stored.{journal}
use Rattle.ingest_desk.specs.declared.report.ImportEnding.{ImportEnding}
use Rattle.import_run.specs.Faultless.{FindRoom, StoresAll}
use Rattle.explorer.specs.Trial.Bytes.{BytesLeft}
use Rattle.explorer.proofs.TrialLemmas.NewGame.{below_limit, find_room, new_games}
use Rattle.explorer.proofs.TrialLemmas.{IsWholeOrLacks, ends_so, other_end, stores_texts, zero_fits}
use Rattle.explorer.proofs.trial.store_samples.Goals as goal

pub returns-in-Whole-clause-stored : goal.returns-in-Whole-clause-stored
returns-in-Whole-clause-stored g c = λ texts is.
    let stream = c.args.stream.items in
    let before = c.args.ingest.now in
    let told = ap (λ (b : BytesLeft). Some b.left) c.new-source.ensures in
    let made = new_games c.streams_are_cut_into_samples.ensures c.samples_have_games.ensures c.ids_differ.ensures texts stream is in
    let room = subst (λ (l : List Placed). FindRoom (journal before) l) (sym made.texts_are) (find_room (journal before) texts stream c.requires.empty is) in
    let alone = rw c.none.ensures at c.import_and_tell-told.ensures.alone in
    let all = c.new_games_are_stored.ensures _ _ _ before c.import_and_tell-told.new.ingest c.import_and_tell-told.result.report [] alone
    (record { bytes = stream; told = told; below = below_limit texts stream is; reads = zero_fits; sound = c.requires.sound; calls = zero_fits })
    (record { reads = refl; calls = refl })
    (subst (λ (j : List Batch). AreGamesOf j []) (sym c.requires.empty) tt)
    made.new room in
    let report = c.import_and_tell-told.result.report in
    let of_texts = subst (λ (l : List Placed). StoresAll report.end (journal before) l report.refused.items (journal c.import_and_tell-told.new.ingest)) made.texts_are all in
    stores_texts _ _ _ _ before c.import_and_tell-told.new.ingest report alone stream told c.requires.sound c.requires.empty c.ending_of.result c.ending_of.ensures c.in-Whole.is texts is.joined_is of_texts

pub unreachable-requires : goal.unreachable-requires
unreachable-requires g c =
    let texts = c.requires.samples.0 in
    let is = c.requires.samples.1 in
    let stream = c.args.stream.items in
    let before = c.args.ingest.now in
    let told = ap (λ (b : BytesLeft). Some b.left) c.new-source.ensures in
    let made = new_games c.streams_are_cut_into_samples.ensures c.samples_have_games.ensures c.ids_differ.ensures texts stream is in
    let room = subst (λ (l : List Placed). FindRoom (journal before) l) (sym made.texts_are) (find_room (journal before) texts stream c.requires.empty is) in
    let alone = rw c.none.ensures at c.import_and_tell-told.ensures.alone in
    let all = c.new_games_are_stored.ensures _ _ _ before c.import_and_tell-told.new.ingest c.import_and_tell-told.result.report [] alone
    (record { bytes = stream; told = told; below = below_limit texts stream is; reads = zero_fits; sound = c.requires.sound; calls = zero_fits })
    (record { reads = refl; calls = refl })
    (subst (λ (j : List Batch). AreGamesOf j []) (sym c.requires.empty) tt)
    made.new room in
    let so = subst (λ (e : ImportEnding). IsWholeOrLacks e) (sym c.ending_of.ensures) (ends_so c.import_and_tell-told.result.report.end _ _ _ _ all) in
    search (rules, other_end c.ending_of.result so)
