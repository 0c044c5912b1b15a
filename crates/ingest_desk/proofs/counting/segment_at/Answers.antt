use Rattle.ingest_desk.proofs.RecountLemmas.{short_texts}
use Rattle.ingest_desk.proofs.counting.segment_at.Goals as goal

pub tally-requires-clause-short : goal.tally-requires-clause-short
tally-requires-clause-short g c = λ κs within k d below.
    short_texts c.in_ok-texts.texts.items c.args.at.batch c.in_ok-texts.ensures c.requires.storable k d below
