use Rattle.std.proofs.Common.{◌≡◌, ◌++◌, drop, option_map}
use Rattle.explorer_model.specs.Fen.{run_named}
use Rattle.fen_uci.proofs.placement.rank_squares.Given as goal

abbrev pub invariant-loop-byte : goal.invariant-loop-byte
invariant-loop-byte l = run_named l.text ≡ option_map (λ more. l.rank.items ++ more) (run_named (drop l.byte-index l.text))
