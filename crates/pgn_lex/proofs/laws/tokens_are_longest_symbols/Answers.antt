use Rattle.pgn_lex.proofs.Words.{tokens-longest}
use Rattle.pgn_lex.proofs.laws.tokens_are_longest_symbols.Goals as goal

pub returns : goal.returns
returns c = tokens-longest
