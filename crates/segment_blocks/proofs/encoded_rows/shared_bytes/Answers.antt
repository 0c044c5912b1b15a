use Rattle.std.proofs.Common.{arith}
use Rattle.segment_blocks.proofs.SharedLemmas.{same-first, leading-some, other-next}
use Rattle.segment_blocks.proofs.encoded_rows.shared_bytes.Goals as goal

pub returns-clause-within : goal.returns-clause-within
returns-clause-within c = omega (arith, leading-some c.args.first c.args.second (omega arith) (omega arith) c.requires)

pub returns-clause-same : goal.returns-clause-same
returns-clause-same c = same-first c.args.first c.args.second _ (omega arith) (omega arith) (omega arith)

pub returns-clause-whole : goal.returns-clause-whole
returns-clause-whole c e =
    let few = leading-some c.args.first c.args.second (omega arith) (omega arith) c.requires in
    other-next c.args.first c.args.second _ (omega arith) (omega arith) c.requires (omega (arith, few)) e
