use Rattle.pgn_cut.proofs.Fronts.{end-known, end-open, end-blank}
use Rattle.pgn_cut.proofs.front.Front.end.Goals as goal

pub returns-in-Some : goal.returns-in-Some
returns-in-Some c = end-known c.args.self.came c.args.self.first c.args.self.matched c.in-Some.first c.args.self.short c.in-Some.is

pub returns-then-self-gt1 : goal.returns-then-self-gt1
returns-then-self-gt1 c = end-open c.args.self.came c.args.self.first c.args.self.matched c.args.self.short c.in_default.is c.if-self-gt1.true

pub returns : goal.returns
returns c = end-blank c.args.self.came c.args.self.first c.args.self.matched c.args.self.short c.in_default.is c.if-self-gt1.false
