use Rattle.std.proofs.Common.{List, subst, ◌∙◌}
use Rattle.explorer_model.specs.Openings.{NamedPosition}
use Rattle.session.specs.Replies.{AnswersQuery, readings_of}
use Rattle.session.proofs.answering.answer.Goals as goal

pub returns-clause-answers : goal.returns-clause-answers
returns-clause-answers g c =
    subst (λ (book : List NamedPosition). AnswersQuery book c.args.text.now c.answer_by.new.pass.seen
    (readings_of c.args.pass.now) (readings_of c.answer_by.new.pass) c.answer_by.result)
    (c.none.ensures ∙ c.empty-book.ensures) c.answer_by.ensures.answers
