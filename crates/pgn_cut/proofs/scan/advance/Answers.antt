use Rattle.pgn_cut.proofs.Lines.{skips_all, skips_past}
use Rattle.pgn_cut.proofs.scan.advance.Goals as goal

pub returns-in-Some-clause-goes_on : goal.returns-in-Some-clause-goes_on
returns-in-Some-clause-goes_on c =
    skips_past c.args.matched c.if-matched-eq0.true c.args.bytes.now c.memchr.result c.memchr.ensures c.in-Some.end c.in-Some.is

pub returns-in-None-clause-goes_on : goal.returns-in-None-clause-goes_on
returns-in-None-clause-goes_on c =
    skips_all c.args.matched c.if-matched-eq0.true c.args.bytes.now c.memchr.result c.memchr.ensures c.in-None.is
