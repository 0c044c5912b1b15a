use Rattle.std.proofs.Common.{map}
use Rattle.pgn_lex.specs.Span.{token_in}
use Rattle.game_replay.specs.Replay.{Playing}
use Rattle.game_replay.proofs.moves.moves_of.Given as goal

abbrev pub invariant-loop-span : goal.invariant-loop-span
invariant-loop-span l = Playing l.root (map (token_in l.text) l.spans) l.board l.moves.items l.ply l.span-index
