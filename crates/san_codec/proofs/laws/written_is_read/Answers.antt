use Rattle.san_codec.proofs.Law.{move_reads, text_reads}
use Rattle.san_codec.proofs.laws.written_is_read.Goals as goal

pub returns-clause-written : goal.returns-clause-written
returns-clause-written c = text_reads

pub returns-clause-any_marks : goal.returns-clause-any_marks
returns-clause-any_marks c = move_reads
