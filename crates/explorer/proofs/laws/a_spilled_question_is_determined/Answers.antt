use Rattle.explorer.proofs.LawLemmas.Spill.{one_spilling}
use Rattle.explorer.proofs.laws.a_spilled_question_is_determined.Goals as goal

pub returns : goal.returns
returns c = λ store name file text openings before after other ending ending' told opens spill well read calm well' read' calm' fed fed' first second.
    let once = c.opening_is_determined.ensures in
    one_spilling store name file openings before after other ending ending' c.answers_are_determined.ensures c.naming_is_determined.ensures
    (record { opened = once.opened; refused = once.refused; either = once.either }) c.book_is_determined.ensures told opens spill well read calm well' read' calm' fed fed'
    text c.query_is_determined.ensures first second
