use Rattle.std.proofs.Common.{ℕ, List, inl, inr, map, option_map, refl, rules, subst, string_bytes}
use Rattle.explorer.specs.Count.{Counts}
use Rattle.explorer.specs.Lines.{ending_of}
use Rattle.explorer.specs.Query.Spilled.{SpillsBy}
use Rattle.explorer.specs.Query.Store.{AsksBy, QueriesBy}
use Rattle.explorer.specs.Serve.{Serves}
use Rattle.explorer.specs.Serve.Served.{Service}
use Rattle.explorer.specs.World.{world}
use Rattle.explorer.proofs.BookLemmas.{stops_by}
use Rattle.explorer.proofs.RunLemmas.{same_service}
use Rattle.explorer.proofs.program.run_command.Goals as goal

pub returns-in-Batches : goal.returns-in-Batches
returns-in-Batches g c = rw c.in-Batches.is (c.list_batches.ensures (g.I.Source.source c.args.input.now) (g.E.Sink.sink c.args.errors.now))

pub returns-in-Create : goal.returns-in-Create
returns-in-Create g c = rw c.in-Create.is (c.create.ensures (g.I.Source.source c.args.input.now) (g.E.Sink.sink c.args.errors.now))

pub returns-in-Import : goal.returns-in-Import
returns-in-Import g c = rw c.in-Import.is (c.import_store.ensures (g.I.Source.source c.args.input.now))

pub returns-in-Migrate : goal.returns-in-Migrate
returns-in-Migrate g c = rw c.in-Migrate.is (c.migrate.ensures (g.I.Source.source c.args.input.now) (g.E.Sink.sink c.args.errors.now))

pub returns-in-Count : goal.returns-in-Count
returns-in-Count g c =
    rw c.in-Count.is (subst (λ (text : List ℕ). Counts text (option_map string_bytes c.in-Count.openings)
    (world (g.I.Source.source c.args.input.now) (g.O.Sink.sink c.args.output.now) (g.E.Sink.sink c.args.errors.now) (g.H.Host.host c.args.host.now))
    (world (g.I.Source.source c.count.new.input) (g.O.Sink.sink c.count.new.output) (g.E.Sink.sink c.count.new.errors) (g.H.Host.host c.count.new.host)) (ending_of c.count.result))
    c.as_bytes.ensures.value c.count.ensures)

pub returns-in-None : goal.returns-in-None
returns-in-None g c =
    rw c.in-Query.is (rw c.in-None.is (subst (λ (text : List ℕ). QueriesBy (AsksBy (string_bytes c.in-Query.store)) text (option_map string_bytes c.in-Query.openings)
    (world (g.I.Source.source c.args.input.now) (g.O.Sink.sink c.args.output.now) (g.E.Sink.sink c.args.errors.now) (g.H.Host.host c.args.host.now))
    (world (g.I.Source.source c.args.input.now) (g.O.Sink.sink c.query_store.new.output) (g.E.Sink.sink c.args.errors.now) (g.H.Host.host c.query_store.new.host)) (ending_of c.query_store.result))
    c.as_bytes-in-None.ensures.value
    (c.query_store.ensures (g.I.Source.source c.args.input.now) (g.E.Sink.sink c.args.errors.now))))

pub returns-in-Query : goal.returns-in-Query
returns-in-Query g c =
    rw c.in-Query.is (rw c.in-Some.is (subst (λ (text : List ℕ). QueriesBy (SpillsBy (string_bytes c.in-Query.store) (string_bytes c.in-Some.spill)) text (option_map string_bytes c.in-Query.openings)
    (world (g.I.Source.source c.args.input.now) (g.O.Sink.sink c.args.output.now) (g.E.Sink.sink c.args.errors.now) (g.H.Host.host c.args.host.now))
    (world (g.I.Source.source c.args.input.now) (g.O.Sink.sink c.query_spilled.new.output) (g.E.Sink.sink c.args.errors.now) (g.H.Host.host c.query_spilled.new.host)) (ending_of c.query_spilled.result))
    c.as_bytes-in-Some.ensures.value
    (c.query_spilled.ensures (g.I.Source.source c.args.input.now) (g.E.Sink.sink c.args.errors.now))))

pub returns-in-Err : goal.returns-in-Err
returns-in-Err g c = rw c.in-Serve.is (inr (stops_by (option_map string_bytes c.in-Serve.openings) _ _ _ _ _ c.in-Err.fault (rw c.in-Err.is at c.book_of.ensures)))

pub returns-in-Serve : goal.returns-in-Serve
returns-in-Serve g c =
    let before = world (g.I.Source.source c.args.input.now) (g.O.Sink.sink c.args.output.now) (g.E.Sink.sink c.args.errors.now) (g.H.Host.host c.book_of.new.host) in
    let after = world (g.I.Source.source c.args.input.now) (g.O.Sink.sink c.serve.new.output) (g.E.Sink.sink c.serve.new.errors) (g.H.Host.host c.serve.new.host) in
    let files = map string_bytes c.in-Serve.files.items in
    let same = same_service (string_bytes c.in-Serve.store) (string_bytes c.in-Serve.store) (string_bytes c.in-Serve.address) (string_bytes c.in-Serve.address) files files
    c.from-in-Serve.result c.in-Serve.workers c.from-in-Serve-2.result c.in-Serve.readers c.in-Serve.connections c.in-Ok.book refl refl refl (search rules) (search rules) in
    let serves = subst (λ (s : Service). Serves s before after (ending_of c.serve.result)) same (c.serve.ensures (g.I.Source.source c.args.input.now)) in
    rw c.in-Serve.is (inl (c.in-Ok.book, g.H.Host.host c.book_of.new.host, (rw c.in-Ok.is at c.book_of.ensures), serves))

pub returns : goal.returns
returns g c = rw c.in-Trial.is (c.trial.ensures (g.I.Source.source c.args.input.now) (g.E.Sink.sink c.args.errors.now) (g.H.Host.host c.args.host.now))
