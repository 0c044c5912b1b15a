use Rattle.std.proofs.Common.{refl}
use Rattle.ingest_desk.proofs.KeptLemmas.{kept_index, none_held, nothing_held, retried}
use Rattle.ingest_desk.proofs.ingest.Ingest.catch_up.Goals as goal

pub invariant_of-self : goal.invariant_of-self
invariant_of-self g c =
    let s = c.self in
    let d = g.D.Disk in
    let old = s.inside.publisher in
    let new = c.retry-answer.new.self in
    kept_index d.disk d.left_since s.inside.manifest old new s.inside.register s.invariant
    (retried old new old.held c.retry-answer.result refl c.retry-answer.ensures)

pub returns-clause-journal : goal.returns-clause-journal
returns-clause-journal g c =
    let s = c.self in
    let old = s.inside.publisher in
    rw (← s.view_is) (retried old c.retry-answer.new.self old.held c.retry-answer.result refl c.retry-answer.ensures)

pub returns-clause-none_held : goal.returns-clause-none_held
returns-clause-none_held g c =
    none_held c.self.inside.publisher c.retry-answer.new.self c.retry-answer.result c.retry-answer.ensures

pub returns-clause-nothing : goal.returns-clause-nothing
returns-clause-nothing g c =
    let s = c.self in
    rw (← s.view_is) (nothing_held s.inside.publisher c.retry-answer.new.self c.retry-answer.result c.retry-answer.ensures)
