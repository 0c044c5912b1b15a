use Rattle.query_params.proofs.LegalPlays.{player_query-plays}
use Rattle.query_params.proofs.laws.player_queries_play_legal_moves.Goals as goal

pub returns-clause-legal : goal.returns-clause-legal
returns-clause-legal c = λ text query reads. (player_query-plays text query reads).legal

pub returns-clause-ends : goal.returns-clause-ends
returns-clause-ends c = λ text query reads. (player_query-plays text query reads).ends
