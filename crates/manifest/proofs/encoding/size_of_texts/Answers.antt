use Rattle.std.proofs.Common.{arith}
use Rattle.manifest.proofs.PayloadLemmas.{length-texts}
use Rattle.manifest.proofs.encoding.size_of_texts.Goals as goal

pub returns : goal.returns
returns c = omega (arith, length-texts c.args.texts.now, c.size_of_all.ensures)
