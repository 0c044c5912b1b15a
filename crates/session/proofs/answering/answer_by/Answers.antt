use Rattle.session.proofs.answering.answer_by.Goals as goal

pub body_for-requires-clause-played : goal.body_for-requires-clause-played
body_for-requires-clause-played g c = record {
  root = c.in-Ok.ensures.root;
  plays = c.queries_play_legal_moves.ensures.legal c.args.text.now c.in-Ok.query c.in-Ok.ensures.reads;
  at = c.queries_play_legal_moves.ensures.ends c.args.text.now c.in-Ok.query c.in-Ok.ensures.reads;
}
