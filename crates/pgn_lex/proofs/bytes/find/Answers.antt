use Rattle.std.proofs.Common.{◌==◌}
use Rattle.pgn_lex.proofs.Runs.{first_is_position}
use Rattle.pgn_lex.proofs.bytes.find.Goals as goal

pub returns-clause-place : goal.returns-clause-place
returns-clause-place c = first_is_position (λ byte. byte == c.args.wanted) c.args.bytes.now c.memchr.result c.memchr.ensures
