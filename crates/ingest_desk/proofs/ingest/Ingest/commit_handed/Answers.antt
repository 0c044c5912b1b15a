use Rattle.ingest_desk.proofs.ingest.Ingest.commit_handed.Goals as goal

pub returns-then-is_err-clause-crash : goal.returns-then-is_err-clause-crash
returns-then-is_err-clause-crash g c =
    rw c.catch_up.ensures.manifest (λ sound. c.stays_sound.ensures.crash sound c.args.handed.batch)

pub returns-in-Clash-clause-crash : goal.returns-in-Clash-clause-crash
returns-in-Clash-clause-crash g c =
    rw (c.tell-note.ensures.same, c.catch_up.ensures.manifest)
    (λ sound. c.stays_sound.ensures.crash sound c.args.handed.batch)

pub returns-in-Full-clause-crash : goal.returns-in-Full-clause-crash
returns-in-Full-clause-crash g c =
    rw (c.tell-whole.ensures.same, c.catch_up.ensures.manifest)
    (λ sound. c.stays_sound.ensures.crash sound c.args.handed.batch)

pub returns-then-is_err-2-clause-crash : goal.returns-then-is_err-2-clause-crash
returns-then-is_err-2-clause-crash g c =
    rw (c.make_room.ensures.manifest, c.catch_up.ensures.manifest)
    (λ sound. c.stays_sound.ensures.crash sound c.args.handed.batch)
