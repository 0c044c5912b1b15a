use Rattle.explorer.proofs.LawLemmas.Door.{one_body, one_player_body, over_journal}
use Rattle.session.specs.Replies.{Answer, PlayerAnswer}
use Rattle.explorer.proofs.laws.answers_at_doors_agree.Goals as goal

pub returns-clause-fronts : goal.returns-clause-fronts
returns-clause-fronts c = λ book text. over_journal book (Answer text)

pub returns-clause-player_fronts : goal.returns-clause-player_fronts
returns-clause-player_fronts c = λ book text. over_journal book (PlayerAnswer text)

pub returns-clause-agree : goal.returns-clause-agree
returns-clause-agree c = λ book text batches body body' opening journal opening' journal' door door' run run' same first second.
    one_body book text batches body body' opening journal opening' journal' door door' run run' c.replies_are_determined.ensures.queries
    same first second

pub returns-clause-player_agree : goal.returns-clause-player_agree
returns-clause-player_agree c = λ book text batches body body' opening journal opening' journal' door door' run run' same first second.
    one_player_body book text batches body body' opening journal opening' journal' door door' run run'
    c.replies_are_determined.ensures.players same first second
