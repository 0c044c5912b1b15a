use Rattle.std.proofs.Common.{◌<◌, ℕ, List, length, get_or, IfOk, subst}
use Rattle.explorer_model.specs.declared.archive.Placed.{Placed}
use Rattle.std.specs.List.{AllZip}
use Rattle.std.proofs.lemmas.Result.{IfOk-weaker}
use Rattle.batch_tally.specs.declared.reading.Run.{Run}
use Rattle.batch_tally.specs.Reading.{AreContentsOf, AreRunsFrom, RunMade, run_of}
use Rattle.batch_tally.proofs.RunLemmas.{all-read}
use Rattle.batch_tally.proofs.reading.read_all.Goals as goal

pub returns : goal.returns
returns g c =
    let texts = c.args.texts.items in
    let runs = c.in_ok-runs.runs.items in
    let results = c.in_ok-results in
    let parts = c.in_ok-parts in
    IfOk-weaker c.readings_of.result _ _ (λ readings are.
    all-read (λ part. part.items) texts runs results.results.items parts.parts.items readings.items parts.ensures
    (subst (λ (l : List Placed). AreRunsFrom 0 (length l) runs) c.as_slice-given.ensures.value c.in_ok-runs.ensures) results.ensures.count
    (subst (λ (l : List Placed). (n : ℕ) (d : RunMade) (r : Run) → n < length runs
    → IfOk (get_or results.results.items n d) (λ made. AllZip AreContentsOf (run_of l (get_or runs n r)) made.items))
    c.as_slice-given.ensures.value results.ensures.results) are)
    c.readings_of.ensures
