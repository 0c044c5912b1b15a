use Rattle.std.proofs.Common.{◌≡◌, ◌-◌, ◌++◌, ℕ, List, [], take, drop, length, length-drop, refl, ap, sym, ◌∙◌, arith}
use Rattle.std.proofs.lemmas.List.{append-nil, take_all, take_rest}
use Rattle.pgn_cut.specs.Cutter.{came, cuts_of_rest}
use Rattle.import_run.proofs.AheadLemmas.{ahead_bytes, ahead_next, under_on}
use Rattle.import_run.proofs.ShortLemmas.{short_first}
use Rattle.import_run.proofs.ahead.Ahead.feed.Goals as goal

pub feeding-init : goal.feeding-init
feeding-init c = record {
  within = omega arith;
  so_far = omega arith;
  ready = c.requires.ready;
  label = refl;
  under = λ under. under;
  cut = λ given past began. ahead_bytes given _ _ _ _ _ (sym (append-nil past)) began;
  few = omega arith;
  taken = refl;
  end = refl;
}

pub take-requires-clause-short : goal.take-requires-clause-short
take-requires-clause-short c =
    short_first c.in_ok-fed.fed.cut c.feeding.self.cutter (take c.in_ok-fed.fed.taken (take (length c.args.bytes.now - c.feeding.at) (drop c.feeding.at c.args.bytes.now)) ++ []) (cuts_of_rest c.feed.new.self [])
    (c.in_ok-fed.ensures.cuts [])

pub feeding-preserved : goal.feeding-preserved
feeding-preserved c =
    let before = c.feeding.invariant in
    let whole : length (take (length c.args.bytes.now - c.feeding.at) (drop c.feeding.at c.args.bytes.now)) ≡ length c.args.bytes.now - c.feeding.at = ap length (take_rest c.args.bytes.now c.feeding.at) ∙ length-drop c.feeding.at c.args.bytes.now in
    record {
      within = omega (arith, whole, c.in_ok-fed.ensures.taken, before.within);
      so_far = ap came c.take.ensures.cutter ∙ omega (arith, c.in_ok-fed.ensures.came, before.so_far);
      ready = c.in_ok-take.ensures.ready;
      label = c.take.ensures.label ∙ before.label;
      under = λ under. under_on _ _ before.label c.in_ok-take.ensures.under (before.under under);
      cut = λ given past began.
          ahead_next given past c.args.bytes.now c.feeding.at c.in_ok-fed.fed.taken c.in_ok-fed.fed.cut c.feeding.self.cutter c.feed.new.self c.take.new.self.cutter c.feeding.self.whole.items c.take.new.self.whole.items c.feeding.self.group c.take.new.self.group
          c.take.ensures.cutter c.in_ok-fed.ensures.cuts c.in_ok-fed.ensures.stops (c.in_ok-take.ensures.takes given) (before.cut given past began);
      few = omega (arith, before.few, c.in_ok-take.ensures.few, c.in_ok-fed.ensures.some);
      taken = c.take.ensures.taken ∙ before.taken;
      end = c.take.ensures.end ∙ before.end;
    }

pub returns-clause-cut : goal.returns-clause-cut
returns-clause-cut c = λ given past began. ahead_bytes given _ _ _ _ _ (ap (λ (l : List ℕ). past ++ l) (take_all c.feeding.at c.args.bytes.now c.feeding-test.false)) (c.feeding.invariant.cut given past began)
