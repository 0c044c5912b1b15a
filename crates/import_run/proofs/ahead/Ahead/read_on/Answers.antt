use Rattle.std.proofs.Common.{◌≡◌, ◌⊎◌, inl, inr, ◌<◌, ap, refl, arith}
use Rattle.import_run.specs.declared.ahead.Ahead.{Ahead}
use Rattle.import_run.specs.Ahead.{left_of}
use Rattle.import_run.proofs.ChunkLemmas.{go_on_as, go_on_own}
use Rattle.import_run.proofs.ahead.Ahead.read_on.Goals as goal

pub reading-init : goal.reading-init
reading-init g c = record {
  ready = c.requires.ready;
  holds = λ before given h. h;
  less = λ none whole reading below. inl refl;
  few = omega arith;
}

pub read_once-requires-clause-ready : goal.read_once-requires-clause-ready
read_once-requires-clause-ready g c = go_on_own c.args.self.now.group.label c.reading.self c.reading.invariant.ready

pub reading-preserved : goal.reading-preserved
reading-preserved g c =
    let before = c.reading.invariant in
    let once = c.in_ok-read_once.ensures in
    record {
      ready = go_on_as c.args.self.now.group.label c.reading.self c.read_once.new.self before.ready once.ready;
      holds = λ first given h. once.holds first given (before.holds first given h);
      less = λ none whole reading below. inr (further c.args.self.now c.reading.self c.read_once.new.self (before.less none whole reading below) once.less);
      few = omega (arith, before.few, once.few);
    }
  where
    further : (first old new : Ahead) → (old ≡ first) ⊎ (left_of old < left_of first) → left_of new < left_of old → left_of new < left_of first
    further first old new (inl same) less = let is = ap (λ (a : Ahead). left_of a) same in omega (arith, is, less)
    further first old new (inr fewer) less = omega (arith, fewer, less)
