use Rattle.session.proofs.player_answering.answer_player.Goals as goal

pub body_for-requires-clause-played : goal.body_for-requires-clause-played
body_for-requires-clause-played g c = record {
  root = c.in-Ok.ensures.root;
  plays = c.player_queries_play_legal_moves.ensures.legal c.args.text.now c.in-Ok.query c.in-Ok.ensures.reads;
  at = c.player_queries_play_legal_moves.ensures.ends c.args.text.now c.in-Ok.query c.in-Ok.ensures.reads;
}
