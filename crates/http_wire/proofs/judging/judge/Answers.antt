use Rattle.std.proofs.Common.{sym, ap, ◌∙◌}
use Rattle.explorer_model.specs.Wire.{method_of}
use Rattle.http_wire.proofs.Verdicts.{body_len-of, refused-fields, says-head}
use Rattle.http_wire.proofs.judging.judge.Goals as goal

pub returns-in-Err-clause-refuses : goal.returns-in-Err-clause-refuses
returns-in-Err-clause-refuses c =
    let whole = c.in-Some.ensures.whole in
    let text = c.args.text.now in
    refused-fields text whole.0 c.in-Err.fault whole.1
    (body_len-of whole.0 _ whole.2.fields
    ∙ sym c.in-Err.ensures)

pub returns-clause-says : goal.returns-clause-says
returns-clause-says c =
    let whole = c.in-Some.ensures.whole in
    let text = c.args.text.now in
    let target = c.of-target.result.now in
    let mark = c.question_mark-mark.result in (
      whole.0,
      says-head text c.spans_of.new.headers c.in-Some.spans whole.0 _ target mark _ whole.1 whole.2
          whole.2.fields
          c.of-target.ensures c.question_mark-mark.ensures.place
          (c.method_of.ensures ∙ ap method_of c.of.ensures)
          c.path_of.ensures
          (c.from_vec.ensures ∙ c.in-Ok-from_slice.ensures.items ∙ c.after.ensures)
          c.in-Ok.ensures c.is_closing.ensures,
    )
