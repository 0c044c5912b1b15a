use Rattle.std.proofs.Common.{take}
use Rattle.fen_uci.specs.Splits.{IsFreeOf}
use Rattle.fen_uci.proofs.splits.split_before.Given as goal

abbrev pub invariant-loop-place : goal.invariant-loop-place
invariant-loop-place l = IsFreeOf l.byte (take l.place l.text)
