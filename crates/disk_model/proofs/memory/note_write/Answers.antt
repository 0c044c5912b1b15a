use Rattle.std.proofs.Common.{◌≡◌, length, ap, arith, rules}
use Rattle.std.proofs.lemmas.List.Elements.{All-push}
use Rattle.disk_model.specs.Memory.{FitsIn}
use Rattle.disk_model.specs.declared.call.DiskCall.TheVariants.{Wrote}
use Rattle.disk_model.proofs.MemoryCalls.{pushed}
use Rattle.disk_model.proofs.memory.note_write.Goals as goal

pub returns-clause-noted : goal.returns-clause-noted
returns-clause-noted c =
    let same : c.in_ok-copy.copy.items ≡ c.args.piece.now = search rules in (
      c.in_ok-copy.copy,
      same,
      pushed c.args.calls.now.items c.reserve.new.self.items c.push_reserved.new.self.items
          (Wrote c.args.at c.in_ok-copy.copy c.args.done) c.reserve.ensures.items c.push_reserved.ensures.items,
    )

pub returns-clause-fit : goal.returns-clause-fit
returns-clause-fit c = λ room inside fit.
    let copy = c.in_ok-copy.copy in
    let same : copy.items ≡ c.args.piece.now = search rules in
    rw (c.push_reserved.ensures.items, c.reserve.ensures.items)
    (All-push (FitsIn room) c.args.calls.now.items (Wrote c.args.at copy c.args.done) fit (omega (arith, inside, ap length same)))
