use Rattle.std.proofs.Common.{rules, IfOk, slice_index_or, sym, subst}
use Rattle.std.proofs.lemmas.Result.{IfOk-weaker}
use Rattle.batch_tally.proofs.LeafLemmas.{made-each}
use Rattle.ingest_desk.specs.declared.counting.BatchAt.{BatchAt}
use Rattle.ingest_desk.proofs.CountingLemmas.{CanCount, IsCountedThere, all-counted, can-count}
use Rattle.ingest_desk.proofs.counting.count_each.Goals as goal

pub map_each-requires-clause-accepts : goal.map_each-requires-clause-accepts
map_each-requires-clause-accepts g c κs within = λ i x below read.
    let ats = c.in_ok-batches.batches.items in
    let can = subst CanCount (sym read) (can-count c.args.journal.items ats 0 c.in_ok-batches.ensures c.requires.storable i x below) in
    (can, search rules)

pub returns : goal.returns
returns g c =
    let ats = c.in_ok-batches.batches.items in
    let results = c.in_ok-results.results in
    IfOk-weaker c.all_made.result _ _
    (λ counted made.
    all-counted c.args.journal.items ats counted.items 0 c.in_ok-batches.ensures
    (made-each IsCountedThere ats results.items counted.items made c.in_ok-results.ensures.len
    (λ n d at below.
    let given = (c.in_ok-results.ensures.each n d below).1 in
    subst (λ (own : BatchAt). IfOk (slice_index_or results.items n d) (IsCountedThere own)) (sym (given.job_is at)) given.call.met)))
    c.all_made.ensures
