use Rattle.explorer_model.specs.San.{MovesLike}
use Rattle.san_codec.proofs.Rivals.{NoneOf}
use Rattle.san_codec.proofs.writer.has_rival.Given as goal

abbrev pub invariant-loop-other : goal.invariant-loop-other
invariant-loop-other l = NoneOf (MovesLike l.position l.m) l.legal l.other-index
