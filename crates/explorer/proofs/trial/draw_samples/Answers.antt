use Rattle.std.proofs.Common.{rules, ◌≡◌, ◌++◌}
use Rattle.explorer.proofs.TrialLemmas.Samples.{goes_on}
use Rattle.explorer.proofs.trial.draw_samples.Goals as goal

pub loop-index-preserved : goal.loop-index-preserved
loop-index-preserved c =
    let more : c.extend_from_slice.new.self.items ≡ c.loop-index.stream.items ++ c.in_ok-last.last = search rules in
    goes_on c.loop-index.index c.args.seed c.loop-index.stream.items c.extend_from_slice.new.self.items c.loop-index.last c.in_ok-last.last c.loop-index.draws c.sample.new.draws
    c.loop-index.invariant c.in_ok-last.ensures.sample c.in_ok-last.ensures.short more
