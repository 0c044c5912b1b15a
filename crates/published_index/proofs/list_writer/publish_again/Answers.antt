use Rattle.published_index.proofs.WriterLemmas.{first-turns}
use Rattle.published_index.proofs.list_writer.publish_again.Goals as goal

pub publish_as-writer-requires : goal.publish_as-writer-requires
publish_as-writer-requires g c next is =
    let writer = c.args.writer in
    first-turns writer.desk.shown.value _ c.requires.none_waits next is _ _
