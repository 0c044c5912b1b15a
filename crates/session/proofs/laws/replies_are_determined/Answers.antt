use Rattle.session.proofs.OneAnswer.{AreDetermined, one-answer, one-player-answer}
use Rattle.session.proofs.laws.replies_are_determined.Goals as goal

pub returns : goal.returns
returns c =
    let once : AreDetermined = record {
      namings = c.naming_is_determined.ensures;
      queries = c.query_is_determined.ensures;
      answers = c.answers_are_determined.ensures;
      player_queries = c.player_query_is_determined.ensures;
      player_answers = c.answers_are_determined-2.ensures;
    } in
    record { queries = one-answer once; players = one-player-answer once }
