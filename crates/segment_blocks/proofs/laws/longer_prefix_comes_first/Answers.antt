use Rattle.segment_blocks.proofs.PrefixLemmas.{longer-first, shorter-stays}
use Rattle.segment_blocks.proofs.laws.longer_prefix_comes_first.Goals as goal

pub returns-clause-first : goal.returns-clause-first
returns-clause-first c last a b = longer-first last a b

pub returns-clause-stays : goal.returns-clause-stays
returns-clause-stays c last a b = shorter-stays last a b
