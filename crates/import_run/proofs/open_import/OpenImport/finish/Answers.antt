use Rattle.std.proofs.Common.{◌++◌}
use Rattle.pgn_cut.specs.Cut.{cuts_in}
use Rattle.import_run.proofs.TakingLemmas.{by_stop, lacks_at_last, stops_at_last, taken_all}
use Rattle.import_run.proofs.open_import.OpenImport.finish.Goals as goal

pub returns-in-Ok-clause-taken : goal.returns-in-Ok-clause-taken
returns-in-Ok-clause-taken g c = λ start taken ascend so_far.
    taken_all start (taken ++ cuts_in c.args.cut) c.take.new.self c.close.new.self (g.C.Committer.told c.take.new.committer) (g.C.Committer.told c.close.new.committer)
    c.close.result c.in-Ok.ensures.ready.few c.close.ensures.settles ascend (c.in-Ok.ensures.taken start taken ascend so_far)

pub returns-in-Ok-clause-since : goal.returns-in-Ok-clause-since
returns-in-Ok-clause-since g c = g.met.C.Committer.since_before c.args.committer.now c.take.new.committer c.close.new.committer c.take.ensures.since c.close.ensures.since

pub returns-in-Err-clause-taken : goal.returns-in-Err-clause-taken
returns-in-Err-clause-taken g c = λ start taken ascend so_far.
    let told = g.C.Committer.told c.take.new.committer in
    by_stop c.in-Err.stop (λ stopped. stops_at_last start (taken ++ cuts_in c.args.cut) c.take.new.self stopped told) (lacks_at_last start (taken ++ cuts_in c.args.cut) c.take.new.self told) (c.in-Err.ensures.taken start taken ascend so_far)

pub returns-in-Ok-clause-drawn : goal.returns-in-Ok-clause-drawn
returns-in-Ok-clause-drawn g c = λ before h. c.close.ensures.drawn before (c.in-Ok.ensures.drawn before h)

pub returns-in-Err-clause-drawn : goal.returns-in-Err-clause-drawn
returns-in-Err-clause-drawn g c = λ before h. c.in-Err.ensures.drawn before h
