use Rattle.std.proofs.Common.{subst}
use Rattle.explorer_model.proofs.Timelines.{prefix-trans}
use Rattle.explorer_model.specs.Timeline.{IsPrefix}
use Rattle.name_tests.proofs.tests.players.extend.Goals as goal

pub extend-requires : goal.extend-requires
extend-requires g c =
    let sees = c.in_ok-snapshot.ensures in
    subst (IsPrefix c.args.index.now.batches) sees.journal
    (prefix-trans c.args.index.now.batches c.args.pass.now.seen _ c.requires sees.before)
