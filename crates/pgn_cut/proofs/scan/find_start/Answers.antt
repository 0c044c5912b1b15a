use Rattle.std.proofs.Common.{arith}
use Rattle.pgn_cut.proofs.Lines.{stays, scanned_on, open_after}
use Rattle.pgn_cut.proofs.scan.find_start.Goals as goal

pub loop-scan-init : goal.loop-scan-init
loop-scan-init c = record { within = omega arith; short = omega arith; goes_on = stays c.args.matched }

pub loop-scan-preserved : goal.loop-scan-preserved
loop-scan-preserved c =
    let step = c.advance-step.ensures in
    scanned_on c.args.matched c.args.piece.now c.loop-scan.scan.taken c.loop-scan.scan.matched
    c.advance-step.result.taken c.advance-step.result.matched c.loop-scan.invariant step.taken step.matched step.goes_on

pub returns-else-scan-lt8-clause-open : goal.returns-else-scan-lt8-clause-open
returns-else-scan-lt8-clause-open c =
    open_after c.args.matched c.loop-scan.scan.matched c.args.piece.now c.loop-scan.scan.taken c.requires c.loop-scan.invariant

pub returns-after-loop-scan-clause-open : goal.returns-after-loop-scan-clause-open
returns-after-loop-scan-clause-open c =
    open_after c.args.matched c.loop-scan.scan.matched c.args.piece.now c.loop-scan.scan.taken c.requires c.loop-scan.invariant
