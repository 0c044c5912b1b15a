use Rattle.pgn_cut.proofs.Marks.{end-none, end-some}
use Rattle.pgn_cut.proofs.mark.MarkPrefix.end.Goals as goal

pub returns-then-self-eq0 : goal.returns-then-self-eq0
returns-then-self-eq0 c = end-none c.args.self.count c.if-self-eq0.true

pub returns-else-self-eq0 : goal.returns-else-self-eq0
returns-else-self-eq0 c = end-some c.args.self.count c.args.self.short c.if-self-eq0.false
