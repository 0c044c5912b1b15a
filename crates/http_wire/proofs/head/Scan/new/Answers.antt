use Rattle.http_wire.proofs.Ends.{scanned-none}
use Rattle.http_wire.proofs.head.Scan.new.Goals as goal

pub returns-clause-scanned : goal.returns-clause-scanned
returns-clause-scanned c = λ text. scanned-none text
