use Rattle.explorer.proofs.LawLemmas.Question.{one_question}
use Rattle.explorer.proofs.laws.a_question_is_determined.Goals as goal

pub returns : goal.returns
returns c = λ store file text openings before after other ending ending' told opens well read well' read' fed fed' first second.
    let once = c.opening_is_determined.ensures in
    one_question store file openings before after other ending ending' c.answers_are_determined.ensures c.naming_is_determined.ensures
    (record { opened = once.opened; refused = once.refused; either = once.either }) c.book_is_determined.ensures told opens well read well' read' fed fed'
    text c.query_is_determined.ensures first second
