use Rattle.published_index.specs.States.{journal_by}
use Rattle.ingest_desk.proofs.KeptLemmas.{sound_manifest, unmoved}
use Rattle.ingest_desk.proofs.RegisterLemmas.{sound_uncaused}
use Rattle.ingest_desk.proofs.ingest.Ingest.stays_sound.Goals as goal

pub returns-clause-behind : goal.returns-clause-behind
returns-clause-behind g c =
    let s = c.self in
    rw (← s.view_is) (λ games are none.
    sound_uncaused c.game_is_determined.ensures _ c.args.handed.now s.invariant.knows.sound
    c.batch-batch.ensures.counted _ games are none)

pub returns-clause-crash : goal.returns-clause-crash
returns-clause-crash g c =
    let s = c.self in
    let d = g.D.Disk in
    let m = s.inside.manifest in
    let j = journal_by s.inside.publisher in
    rw (← s.view_is) (λ open_is batch. unmoved d.disk d.left_since j batch m
    (sound_manifest d.disk d.left_since _ j m s.invariant.keeps open_is))
