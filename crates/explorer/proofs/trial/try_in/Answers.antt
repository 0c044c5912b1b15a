use Rattle.std.proofs.lemmas.Result.{IfOk-weaker}
use Rattle.ingest_desk.specs.Stored.{journal}
use Rattle.explorer.proofs.TrialLemmas.{goes_behind}
use Rattle.explorer.proofs.trial.try_in.Goals as goal

pub returns : goal.returns
returns g c =
    IfOk-weaker c.count_stored.result _ _ (λ tried over. λ texts is. (journal c.store_samples.new.ingest, c.in_ok-store_samples.ensures.stored texts is, over)) c.count_stored.ensures

pub count_stored-requires-clause-behind : goal.count_stored-requires-clause-behind
count_stored-requires-clause-behind g c = λ κs l.
    goes_behind c.args.ingest.now c.store_samples.new.ingest c.requires.empty c.requires.unlisted c.in_ok-store_samples.ensures.follows
