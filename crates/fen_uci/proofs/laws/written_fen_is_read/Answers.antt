use Rattle.fen_uci.proofs.Rereading.{written_reads}
use Rattle.fen_uci.proofs.laws.written_fen_is_read.Goals as goal

pub returns : goal.returns
returns c = written_reads
