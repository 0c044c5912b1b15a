use Rattle.fen_uci.proofs.Respelling.{written_reads}
use Rattle.fen_uci.proofs.laws.written_uci_is_read.Goals as goal

pub returns : goal.returns
returns c = written_reads
