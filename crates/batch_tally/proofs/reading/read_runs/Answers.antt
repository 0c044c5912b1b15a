use Rattle.std.proofs.Common.{◌<◌, List, length, slice_index_or, ap, subst, arith}
use Rattle.std.specs.List.{AllZip}
use Rattle.std.proofs.lemmas.Result.{IfOk-weaker}
use Rattle.batch_tally.specs.declared.reading.Run.{Run}
use Rattle.batch_tally.specs.Reading.{AreContentsOf, run_of}
use Rattle.batch_tally.proofs.reading.read_runs.Goals as goal

pub returns-clause-results : goal.returns-clause-results
returns-clause-results g c = λ n d r below.
    let texts = c.args.texts.now in
    let lent = c.as_slice-runs.result.now in
    let same = c.as_slice-runs.ensures.value in
    let within : n < length lent = omega (arith, below, ap length same) in
    IfOk-weaker (slice_index_or c.in_ok-results.results.items n d) (λ made. (r : Run) → AllZip AreContentsOf (run_of texts (slice_index_or lent n r)) made.items) (λ made. AllZip AreContentsOf (run_of texts (slice_index_or c.args.runs.items n r)) made.items)
    (λ made are. subst (λ (l : List Run). AllZip AreContentsOf (run_of texts (slice_index_or l n r)) made.items) same (are r))
    (c.in_ok-results.ensures.each n d within).1.met
