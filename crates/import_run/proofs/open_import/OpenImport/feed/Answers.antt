use Rattle.std.proofs.Common.{◌≡◌, ◌+◌, ◌-◌, [], ◌++◌, take, drop, length, length-drop, refl, ap, sym, ◌∙◌, arith}
use Rattle.std.proofs.lemmas.List.{append-nil, take_rest}
use Rattle.pgn_cut.specs.Cut.{cuts_in}
use Rattle.pgn_cut.specs.Cutter.{cuts_of_rest}
use Rattle.import_run.proofs.CutLemmas.{cut_ascends, cut_bytes, cut_whole, lacks_within, next_cut, opens_more, some_taken, stops_within}
use Rattle.import_run.proofs.ShortLemmas.{short_first}
use Rattle.import_run.proofs.TakingLemmas.{by_lacking, by_stop, lacks_now}
use Rattle.import_run.proofs.DrawLemmas.{draws-within}
use Rattle.import_run.proofs.open_import.OpenImport.feed.Goals as goal

pub feeding-init : goal.feeding-init
feeding-init g c = record {
  within = omega arith;
  so_far = omega arith;
  ready = c.requires.ready;
  label = refl;
  cut = λ start past so_far. cut_bytes start _ _ _ _ _ (sym (append-nil past)) so_far;
  since = g.met.C.Committer.since_then c.args.committer.now;
  drawn = λ before h. h;
}

pub take-requires-clause-short : goal.take-requires-clause-short
take-requires-clause-short g c = λ κs within.
    short_first c.in_ok-fed.fed.cut c.feeding.cutter (take c.in_ok-fed.fed.taken (take (length c.args.bytes.now - c.feeding.at) (drop c.feeding.at c.args.bytes.now)) ++ []) (cuts_of_rest c.feed.new.self [])
    (c.in_ok-fed.ensures.cuts [])

pub feeding-preserved : goal.feeding-preserved
feeding-preserved g c =
    let before = c.feeding.invariant in
    let whole : length (take (length c.args.bytes.now - c.feeding.at) (drop c.feeding.at c.args.bytes.now)) ≡ length c.args.bytes.now - c.feeding.at = ap length (take_rest c.args.bytes.now c.feeding.at) ∙ length-drop c.feeding.at c.args.bytes.now in
    record {
      within = omega (arith, whole, c.in_ok-fed.ensures.taken, before.within);
      so_far = omega (arith, c.in_ok-fed.ensures.came, before.so_far);
      ready = c.in-Ok.ensures.ready;
      label = c.take.ensures.label ∙ before.label;
      cut = λ start past began.
          let so_far = before.cut start past began in
          let cut = next_cut past c.args.bytes.now c.feeding.at c.in_ok-fed.fed.taken so_far.taken (cuts_in c.in_ok-fed.fed.cut) (cuts_of_rest c.feeding.cutter) (cuts_of_rest c.feed.new.self) so_far.cut c.in_ok-fed.ensures.cuts in
          record {
            taken = so_far.taken ++ cuts_in c.in_ok-fed.fed.cut;
            cut = cut;
            begun = opens_more c.in_ok-fed.fed.cut c.feed.new.self so_far.taken (cuts_of_rest c.feeding.cutter) _ c.in_ok-fed.ensures.cuts c.in_ok-fed.ensures.stops so_far.begun;
            so_far = c.in-Ok.ensures.taken start so_far.taken (cut_ascends _ (cuts_of_rest c.feed.new.self) _ cut) so_far.so_far;
          };
      since = g.met.C.Committer.since_before c.args.committer.now c.feeding.committer c.take.new.committer before.since c.take.ensures.since;
      drawn = λ first h. c.in-Ok.ensures.drawn first (before.drawn first h);
    }

pub returns-clause-cut : goal.returns-clause-cut
returns-clause-cut g c = λ start past began. cut_whole start _ past c.args.bytes.now c.feeding.at (cuts_of_rest c.feeding.cutter) c.feeding.self c.feeding-test.false (c.feeding.invariant.cut start past began)

pub returns-in_err-fed-clause-cut : goal.returns-in_err-fed-clause-cut
returns-in_err-fed-clause-cut g c = λ start past began.
    let told = g.C.Committer.told c.feeding.committer in
    let so_far = c.feeding.invariant.cut start past began in
    by_lacking c.from_residual.result _ _ c.from_residual.ensures.1
    (lacks_within start told past c.args.bytes.now c.feeding.at so_far.taken (cuts_of_rest c.feeding.cutter) c.feeding.self so_far.cut so_far.begun (lacks_now start so_far.taken c.feeding.self told so_far.so_far))

pub returns-in-Err-clause-cut : goal.returns-in-Err-clause-cut
returns-in-Err-clause-cut g c = λ start past began.
    let told = g.C.Committer.told c.take.new.committer in
    let so_far = c.feeding.invariant.cut start past began in
    let cut = next_cut past c.args.bytes.now c.feeding.at c.in_ok-fed.fed.taken so_far.taken (cuts_in c.in_ok-fed.fed.cut) (cuts_of_rest c.feeding.cutter) (cuts_of_rest c.feed.new.self) so_far.cut c.in_ok-fed.ensures.cuts in
    let opens = opens_more c.in_ok-fed.fed.cut c.feed.new.self so_far.taken (cuts_of_rest c.feeding.cutter) _ c.in_ok-fed.ensures.cuts c.in_ok-fed.ensures.stops so_far.begun in
    by_stop c.in-Err.stop
    (λ stopped stops. stops_within start told past c.args.bytes.now (c.feeding.at + c.in_ok-fed.fed.taken) so_far.taken c.in_ok-fed.fed.cut c.feed.new.self c.take.new.self stopped cut
    (opens (some_taken start told _ c.take.new.self stopped stops)) stops)
    (λ lacks. lacks_within start told past c.args.bytes.now (c.feeding.at + c.in_ok-fed.fed.taken) (so_far.taken ++ cuts_in c.in_ok-fed.fed.cut) (cuts_of_rest c.feed.new.self) c.take.new.self cut opens lacks)
    (c.in-Err.ensures.taken start so_far.taken (cut_ascends _ (cuts_of_rest c.feed.new.self) _ cut) so_far.so_far)

pub returns-in_err-fed-clause-label : goal.returns-in_err-fed-clause-label
returns-in_err-fed-clause-label g c = c.feeding.invariant.label

pub returns-in-Err-clause-label : goal.returns-in-Err-clause-label
returns-in-Err-clause-label g c = c.take.ensures.label ∙ c.feeding.invariant.label

pub returns-clause-label : goal.returns-clause-label
returns-clause-label g c = c.feeding.invariant.label

pub returns-in_err-fed-clause-since : goal.returns-in_err-fed-clause-since
returns-in_err-fed-clause-since g c = c.feeding.invariant.since

pub returns-in-Err-clause-since : goal.returns-in-Err-clause-since
returns-in-Err-clause-since g c = g.met.C.Committer.since_before c.args.committer.now c.feeding.committer c.take.new.committer c.feeding.invariant.since c.take.ensures.since

pub returns-clause-drawn : goal.returns-clause-drawn
returns-clause-drawn g c = c.feeding.invariant.drawn

pub returns-in_err-fed-clause-drawn : goal.returns-in_err-fed-clause-drawn
returns-in_err-fed-clause-drawn g c = λ before h. draws-within 0 _ _ before _ (omega arith) (c.feeding.invariant.drawn before h)

pub returns-in-Err-clause-drawn : goal.returns-in-Err-clause-drawn
returns-in-Err-clause-drawn g c = λ before h. c.in-Err.ensures.drawn before (c.feeding.invariant.drawn before h)
