use Rattle.segment_merge.proofs.RangeLemmas.{ranges-all}
use Rattle.segment_merge.proofs.laws.ranges_are_the_whole.Goals as goal

pub returns : goal.returns
returns c keys lefts rights rising left right = ranges-all lefts rights left right keys rising
