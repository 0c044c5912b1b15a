use Rattle.std.proofs.Common.{◌≡◌, ◌*◌, length, drop}
use Rattle.std.specs.Option.{option_copied}
use Rattle.explorer_model.specs.Fen.{placement}
use Rattle.fen_uci.specs.Ranks.{ranks_of}
use Rattle.fen_uci.proofs.Ranks.{SaysSoFar}
use Rattle.fen_uci.proofs.placement.placement.Given as goal

abbrev pub invariant-loop-rank : goal.invariant-loop-rank
invariant-loop-rank l = record {
  read : SaysSoFar (placement l.fn.text) l.rank (drop (8 * l.rank) l.squares) (ranks_of (option_copied l.rest));
  size : length l.squares ≡ 64;
}
