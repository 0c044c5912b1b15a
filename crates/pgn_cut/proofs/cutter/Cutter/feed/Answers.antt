use Rattle.std.specs.Prelude.{◌+◌, ◌++◌, take}
use Rattle.std.proofs.Common.{sym, ◌∙◌, ap}
use Rattle.pgn_cut.specs.Cutter.{cuts_from_stage}
use Rattle.pgn_cut.specs.declared.cutter.Stage.{Stage}
use Rattle.pgn_cut.proofs.Cutters.{mark_then_front}
use Rattle.pgn_cut.proofs.cutter.Cutter.feed.Goals as goal

pub returns-in_ok-stage-in-Past-clause-cuts : goal.returns-in_ok-stage-in-Past-clause-cuts
returns-in_ok-stage-in-Past-clause-cuts c = λ rest.
    mark_then_front c.in-Mark.prefix.count c.args.piece.now c.in-Past.front c.in-Past.taken c.in-Past.ensures c.in_ok-stage-in-Past.stage c.in_ok-stage-in-Past.fed
    (c.in_ok-stage-in-Past.ensures) rest
    ∙ ap (λ (s : Stage). cuts_from_stage s (take (c.in-Past.taken + c.in_ok-stage-in-Past.fed.taken) c.args.piece.now ++ rest)) (sym c.in-Mark.is)
