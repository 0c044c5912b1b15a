use Rattle.std.proofs.Common.{List, subst}
use Rattle.explorer_model.specs.declared.archive.Batch.{Batch}
use Rattle.explorer_model.specs.Timeline.{IsPrefix}
use Rattle.explorer_model.proofs.Timelines.{prefix-self}
use Rattle.session.proofs.player_answering.body_for.Goals as goal

pub returns-clause-covered : goal.returns-clause-covered
returns-clause-covered c =
    let all = c.extend.new.self.batches in
    subst (λ (journal : List Batch). IsPrefix all journal) c.in_ok-extend.ensures.ok (prefix-self all)
