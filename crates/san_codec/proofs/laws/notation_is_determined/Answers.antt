use Rattle.san_codec.proofs.Determined.{one_reading, one_text}
use Rattle.san_codec.proofs.laws.notation_is_determined.Goals as goal

pub returns-clause-reading : goal.returns-clause-reading
returns-clause-reading c = one_reading

pub returns-clause-writing : goal.returns-clause-writing
returns-clause-writing c = one_text
