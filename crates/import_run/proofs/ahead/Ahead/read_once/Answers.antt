use Rattle.std.proofs.Common.{◌<◌, ℕ, length-take, arith}
use Rattle.plain_laws.specs.Results.{OnErr-from}
use Rattle.import_run.proofs.ChunkLemmas.{chunk_fed_on, chunk_lacks}
use Rattle.import_run.proofs.ahead.Ahead.read_once.Goals as goal

pub returns-clause-holds : goal.returns-clause-holds
returns-clause-holds g c = λ before given h.
    let once = c.in_ok-count.ensures in
    let some : 0 < c.in_ok-count.count = omega (arith, c.if-count-eq0.false) in
    chunk_fed_on before (g.S.Source.source c.args.source.now) (g.S.Source.source c.read_chunk.new.source) given c.args.self.now c.requires.reading h c.in_ok-count.count c.read_chunk.new.chunk (once.gives some)
    c.read_chunk.new.self c.feed.new.self (once.still some) c.feed.ensures.end c.feed.ensures.taken c.in_ok-feed.ensures.cut

pub returns-in_err-feed-clause-lacks : goal.returns-in_err-feed-clause-lacks
returns-in_err-feed-clause-lacks g c = OnErr-from c.from_residual-in_err-feed.result _ (λ before given h.
    let once = c.in_ok-count.ensures in
    let some : 0 < c.in_ok-count.count = omega (arith, c.if-count-eq0.false) in
    let gives = once.gives some in
    chunk_lacks before (g.S.Source.source c.args.source.now) (g.S.Source.source c.read_chunk.new.source) given c.args.self.now c.requires.reading h c.in_ok-count.count c.read_chunk.new.chunk gives
    (omega (arith, gives.within, once.long, c.room_behind.ensures.within, length-take {A = ℕ})))
