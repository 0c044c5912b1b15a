use Rattle.std.proofs.Common.{◌≡◌, ◌∙◌, ◌<◌, ◌^◌, length, refl, sym, ap, subst, arith}
use Rattle.ingest_desk.specs.Reporting.{games_of}
use Rattle.explorer.proofs.ImportStoreLemmas.{few_games, imported_in}
use Rattle.explorer.proofs.importing.import_into.Goals as goal

pub count_games-requires : goal.count_games-requires
count_games-requires g c =
    let few = few_games c.args.label g.D.Disk.disk g.D.Disk.left_since g.met.D.Disk.told_left (g.S.Source.source c.args.source.now) (g.S.Source.source c.import_alone-report.new.source) c.args.ingest.now c.import_alone-report.new.ingest c.import_alone-report.result c.import_alone-report.ensures.alone c.requires.sound in
    subst (λ l. games_of l < 2 ^ 32) (sym c.as_slice.ensures.value) few

pub returns : goal.returns
returns g c =
    let batches : c.len.result ≡ length c.import_alone-report.result.receipts.items = omega (arith, c.len.ensures, c.import_alone-report.result.receipts.ok.0) in
    imported_in c.args.label g.D.Disk.disk g.D.Disk.left_since g.met.D.Disk.told_left (g.S.Source.source c.args.source.now) (g.S.Source.source c.import_alone-report.new.source) c.args.ingest.now c.import_alone-report.new.ingest c.import_alone-report.result
    c.import_alone-report.ensures.alone c.requires.sound _ c.ending_of.ensures refl (c.from.ensures ∙ c.count_games.ensures ∙ ap games_of c.as_slice.ensures.value) batches c.batches.ensures.batches
