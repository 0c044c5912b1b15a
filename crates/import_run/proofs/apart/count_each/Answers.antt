use denote.Param.Send.{sendable}
use denote.Param.SendFields.{as_row_send, declared_send, variants_send}
use Rattle.std.proofs.Common.{rules, IfOk, slice_index_or, sym, subst}
use Rattle.std.proofs.lemmas.Result.{IfOk-weaker}
use Rattle.std.proofs.Crossing.{crosses}
use Rattle.batch_tally.proofs.LeafLemmas.{made-each}
use Rattle.import_run.specs.Apart.{CanTally, IsTalliedGroup}
use Rattle.import_run.specs.declared.text_group.TextGroup.{TextGroup}
use Rattle.import_run.proofs.SendLemmas.{tallied_send}
use Rattle.import_run.proofs.apart.count_each.Goals as goal

pub map_each-requires-send-X : goal.map_each-requires-send-X
map_each-requires-send-X g c κs within = search (tallied_send, sendable, crosses, declared_send, variants_send, as_row_send) depth 40 fits 40000

pub map_each-requires-clause-accepts : goal.map_each-requires-clause-accepts
map_each-requires-clause-accepts g c κs within = λ i x below read. (subst CanTally (sym read) (c.requires.tallies i x below), search rules)

pub returns : goal.returns
returns g c =
    let groups = c.args.groups.items in
    let results = c.in_ok-results.results in
    IfOk-weaker c.all_made.result _ _
    (λ counted made.
    made-each IsTalliedGroup groups results.items counted.items made c.in_ok-results.ensures.len
    (λ n d group below.
    let given = (c.in_ok-results.ensures.each n d below).1 in
    subst (λ (own : TextGroup). IfOk (slice_index_or results.items n d) (IsTalliedGroup own)) (sym (given.job_is group)) given.call.met))
    c.all_made.ensures
