use Rattle.record_log.proofs.Creation.{few-bytes}
use Rattle.record_log.proofs.laws.creating_leaves_few_bytes.Goals as goal

pub returns : goal.returns
returns g c = λ disk after image empty only left. few-bytes _ _ disk after empty only image left
