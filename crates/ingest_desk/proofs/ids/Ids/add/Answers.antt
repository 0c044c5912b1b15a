use Rattle.ingest_desk.specs.IdTable.{number_at}
use Rattle.ingest_desk.proofs.IdLemmas.{put_one, ok_then}
use Rattle.ingest_desk.proofs.ids.Ids.add.Goals as goal

pub returns-clause-added : goal.returns-clause-added
returns-clause-added c =
    put_one (number_at c.args.self.now) (number_at (record { numbers = c.insert.new.self }))
    c.args.id.now.bytes c.args.number
    (ok_then c.insert.result _ (c.insert.ensures.succeeds c.requires.room) c.insert.ensures.updates).0
    c.requires.new
