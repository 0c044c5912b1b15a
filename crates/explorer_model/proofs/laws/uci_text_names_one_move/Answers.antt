use Rattle.explorer_model.proofs.UciText.{uci_text-names}
use Rattle.explorer_model.proofs.laws.uci_text_names_one_move.Goals as goal

pub returns : goal.returns
returns c = uci_text-names
