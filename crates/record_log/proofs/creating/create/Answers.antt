use Rattle.std.proofs.Common.{◌<◌, ◌^◌, rules}
use Rattle.record_log.proofs.Creation.{created}
use Rattle.record_log.proofs.creating.create.Goals as goal

pub returns-in-Ok-None-clause-created : goal.returns-in-Ok-None-clause-created
returns-in-Ok-None-clause-created g c =
    let small : c.args.format.number < 2 ^ 32 = search rules in
    let most_small : c.args.format.most < 2 ^ 32 = search rules in
    created c.args.format small most_small g.D.Disk.disk g.D.Disk.left_since c.args.disk c.write_empty.new.disk
    (rw c.in-Ok-None.field-0-is at c.in-Ok-None.ensures.done) c.write_empty.ensures.told
