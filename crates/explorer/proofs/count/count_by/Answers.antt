use Rattle.std.proofs.Common.{inl, inr, ap, ◌∙◌}
use Rattle.outside.proofs.StreamLemmas.{takes-faults}
use Rattle.explorer.specs.Report.{report}
use Rattle.explorer.proofs.CountLemmas.{all_came, answered, below_counted, broken, starved_by, starves_reading, unwritten_by, write_one}
use Rattle.explorer.proofs.count.count_by.Goals as goal

pub returns-in_err-counted : goal.returns-in_err-counted
returns-in_err-counted g c = λ host.
    starved_by c.from_residual.result c.args.query.now c.args.book.now _ _ c.from_residual.ensures.1
    (starves_reading _ _ _ _ host c.in_err-counted.ensures.starves)

pub returns-in_err-lines : goal.returns-in_err-lines
returns-in_err-lines g c = λ host.
    starved_by c.from_residual-in_err-lines.result c.args.query.now c.args.book.now _ _ c.from_residual-in_err-lines.ensures.1
    (starves_reading _ _ _ _ host (below_counted c.args.book.now c.args.query.now 0 0 _ _ c.in_ok-counted.counted.refused.items c.in-Ok.line (rw c.in-Ok.is at c.in_ok-counted.ensures.counted)))

pub returns-in-Err : goal.returns-in-Err
returns-in-Err g c = λ host.
    inr (broken c.args.book.now c.args.query.now _ _ _ _ _ host c.in_ok-counted.counted.refused.items c.in-Err.fault c.report-made.result (rw c.in-Err.is at c.in_ok-counted.ensures.counted)
    (rw c.as_slice.ensures.value at c.report-made.ensures) c.write_made.ensures)

pub returns-in_err-reported : goal.returns-in_err-reported
returns-in_err-reported g c = λ host.
    let counted = rw c.in-Ok.is at c.in_ok-counted.ensures.counted in
    let answers = answered c.args.book.now c.args.query.now _ _ _ _ _ _ host c.in_ok-counted.counted.refused.items c.in-Ok.line _ _ counted
    (c.as_slice-2.ensures.value ∙ c.in_ok-lines.ensures ∙ ap report c.as_slice.ensures.value) (write_one c.write_lines-reported.result _ _ _ c.write_lines-reported.ensures.takes c.write_lines-reported.ensures.fails)
    c.as_slice-3.ensures.value (write_one c.write-answered.result _ _ _ c.write-answered.ensures.takes c.write-answered.ensures.fails) in
    unwritten_by c.from_residual-in_err-reported.result c.args.query.now c.args.book.now _ _ c.from_residual-in_err-reported.ensures.1 answers
    (record { reads = all_came c.args.book.now c.args.query.now _ _ _ c.in-Ok.line counted; rises = inr c.in_err-reported.ensures.fails.rises })

pub returns-in_err-answered : goal.returns-in_err-answered
returns-in_err-answered g c = λ host.
    let counted = rw c.in-Ok.is at c.in_ok-counted.ensures.counted in
    let answers = answered c.args.book.now c.args.query.now _ _ _ _ _ _ host c.in_ok-counted.counted.refused.items c.in-Ok.line _ _ counted
    (c.as_slice-2.ensures.value ∙ c.in_ok-lines.ensures ∙ ap report c.as_slice.ensures.value) (write_one c.write_lines-reported.result _ _ _ c.write_lines-reported.ensures.takes c.write_lines-reported.ensures.fails)
    c.as_slice-3.ensures.value (write_one c.write-answered.result _ _ _ c.write-answered.ensures.takes c.write-answered.ensures.fails) in
    unwritten_by c.from_residual-in_err-answered.result c.args.query.now c.args.book.now _ _ c.from_residual-in_err-answered.ensures.1 answers
    (record { reads = all_came c.args.book.now c.args.query.now _ _ _ c.in-Ok.line counted; rises = inl c.in_err-answered.ensures.fails.rises })

pub returns : goal.returns
returns g c = λ host.
    let counted = rw c.in-Ok.is at c.in_ok-counted.ensures.counted in
    let answers = answered c.args.book.now c.args.query.now _ _ _ _ _ _ host c.in_ok-counted.counted.refused.items c.in-Ok.line _ _ counted
    (c.as_slice-2.ensures.value ∙ c.in_ok-lines.ensures ∙ ap report c.as_slice.ensures.value) (write_one c.write_lines-reported.result _ _ _ c.write_lines-reported.ensures.takes c.write_lines-reported.ensures.fails)
    c.as_slice-3.ensures.value (write_one c.write-answered.result _ _ _ c.write-answered.ensures.takes c.write-answered.ensures.fails) in
    inr (
      answers,
      record {
        reads = all_came c.args.book.now c.args.query.now _ _ _ c.in-Ok.line counted;
        output = takes-faults _ _ _ c.in_ok-answered.ensures.takes;
        errors = takes-faults _ _ _ c.in_ok-reported.ensures.takes;
      },
    )
