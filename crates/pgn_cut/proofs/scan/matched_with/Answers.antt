use Rattle.pgn_cut.proofs.Lines.{matches, line_ends, line_goes_on}
use Rattle.pgn_cut.proofs.scan.matched_with.Goals as goal

pub returns-then-byte-matched-clause-goes_on : goal.returns-then-byte-matched-clause-goes_on
returns-then-byte-matched-clause-goes_on c = matches c.args.matched c.args.byte c.requires.begun c.requires.short c.if-byte-matched.true

pub returns-then-byte-eq10-clause-goes_on : goal.returns-then-byte-eq10-clause-goes_on
returns-then-byte-eq10-clause-goes_on c =
    line_ends c.args.matched c.args.byte c.requires.begun c.requires.short c.if-byte-matched.false c.if-byte-eq10.true

pub returns-else-byte-eq10-clause-goes_on : goal.returns-else-byte-eq10-clause-goes_on
returns-else-byte-eq10-clause-goes_on c =
    line_goes_on c.args.matched c.args.byte c.requires.begun c.requires.short c.if-byte-matched.false c.if-byte-eq10.false
