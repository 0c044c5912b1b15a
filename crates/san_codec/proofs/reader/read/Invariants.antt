use Rattle.san_codec.proofs.Reading.{Narrows}
use Rattle.san_codec.proofs.reader.read.Given as goal

abbrev pub invariant-loop-m : goal.invariant-loop-m
invariant-loop-m l = Narrows l.position l.form l.legal l.m-index l.found
