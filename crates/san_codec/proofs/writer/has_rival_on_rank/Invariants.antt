use Rattle.std.proofs.Common.{◌≡◌}
use Rattle.explorer_model.specs.declared.chess.Move.{Move}
use Rattle.explorer_model.specs.Board.{rank_of}
use Rattle.explorer_model.specs.San.{MovesLike}
use Rattle.san_codec.proofs.Rivals.{NoneOf}
use Rattle.san_codec.proofs.writer.has_rival_on_rank.Given as goal

abbrev pub invariant-loop-other : goal.invariant-loop-other
invariant-loop-other l =
    NoneOf (λ (o : Move). MovesLike l.position l.m o × (rank_of o.from.index ≡ rank_of l.m.from.index)) l.legal l.other-index
