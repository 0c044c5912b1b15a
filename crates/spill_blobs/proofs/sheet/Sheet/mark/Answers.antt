use Rattle.std.proofs.Common.{◌<◌, ◌++◌, sym, ap, ◌∙◌, append-nil, arith}
use Rattle.spill_blobs.proofs.MarkLemmas.{marked-none, skipped-less}
use Rattle.spill_blobs.proofs.sheet.Sheet.mark.Goals as goal

pub returns-then-self-gt0-clause-keys : goal.returns-then-self-gt0-clause-keys
returns-then-self-gt0-clause-keys c =
    let some : 0 < c.args.self.now.skip = omega arith in
    sym (append-nil c.args.self.now.keys.items)
    ∙ ap (λ l. c.args.self.now.keys.items ++ l) (sym (marked-none c.args.self.now.skip c.args.key.now some))

pub returns-then-self-gt0-clause-skip : goal.returns-then-self-gt0-clause-skip
returns-then-self-gt0-clause-skip c =
    let some : 0 < c.args.self.now.skip = omega arith in
    sym (skipped-less c.args.self.now.skip some)
