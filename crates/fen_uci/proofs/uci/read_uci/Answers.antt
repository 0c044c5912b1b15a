use Rattle.std.proofs.Common.{refl}
use Rattle.fen_uci.proofs.Searching.{not_false, none_meant-more, reads_found, reads_none, reads_legal}
use Rattle.fen_uci.proofs.uci.read_uci.Goals as goal

pub returns-then-means-clause-reads : goal.returns-then-means-clause-reads
returns-then-means-clause-reads c =
    reads_found c.args.board.now c.position-position.result c.args.text.now c.in-Some.form c.as_slice-m-items.result.now c.legal-legal.result.items c.loop-m.m-index
    c.m-item.result c.in-Some.ensures c.position-position.ensures.same c.as_slice-m-items.ensures.value c.legal-legal.ensures.each c.loop-m-test.true c.m-item.is
    (c.if-means.ensures.0 refl)

pub returns-then-means-clause-legal : goal.returns-then-means-clause-legal
returns-then-means-clause-legal c = reads_legal c.args.board.now c.args.text.now c.m-item.result (returns-then-means-clause-reads c)

pub loop-m-preserved : goal.loop-m-preserved
loop-m-preserved c =
    none_meant-more c.position-position.result c.in-Some.form c.as_slice-m-items.result.now c.loop-m.m-index c.m-item.result c.loop-m-test.true c.m-item.is
    (λ means. not_false (c.if-means.ensures.1 means)) c.loop-m.invariant

pub returns-clause-reads : goal.returns-clause-reads
returns-clause-reads c =
    reads_none c.args.board.now c.position-position.result c.args.text.now c.in-Some.form c.as_slice-m-items.result.now c.legal-legal.result.items c.loop-m.m-index
    c.in-Some.ensures c.position-position.ensures.same c.as_slice-m-items.ensures.value c.legal-legal.ensures.each c.loop-m-test.false c.loop-m.invariant
