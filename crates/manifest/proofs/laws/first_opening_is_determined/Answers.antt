use Rattle.manifest.proofs.FirstDetermined.{one-fault, one-journal, read-or-wrong}
use Rattle.manifest.proofs.laws.first_opening_is_determined.Goals as goal

pub returns-clause-opened : goal.returns-clause-opened
returns-clause-opened g c = one-journal

pub returns-clause-refused : goal.returns-clause-refused
returns-clause-refused g c = λ disk back after file fault other told one two.
    one-fault _ file told fault other one two

pub returns-clause-either : goal.returns-clause-either
returns-clause-either g c = λ disk back file journal fault told has within wrong.
    read-or-wrong _ file told journal fault has within wrong
