use Rattle.pgn_lex.proofs.Words.{tokens-words}
use Rattle.pgn_lex.proofs.laws.tokens_are_the_words_outside_variations.Goals as goal

pub returns : goal.returns
returns c = tokens-words
