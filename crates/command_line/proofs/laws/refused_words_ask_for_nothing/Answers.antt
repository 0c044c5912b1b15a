use Rattle.command_line.proofs.WordLemmas.{asks_nothing, is_refused}
use Rattle.command_line.proofs.laws.refused_words_ask_for_nothing.Goals as goal

pub returns : goal.returns
returns c = λ words. (is_refused words, asks_nothing words)
