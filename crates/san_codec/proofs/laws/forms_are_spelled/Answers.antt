use Rattle.san_codec.proofs.SpelledForms.{forms-spelled}
use Rattle.san_codec.proofs.laws.forms_are_spelled.Goals as goal

pub returns : goal.returns
returns c = forms-spelled
