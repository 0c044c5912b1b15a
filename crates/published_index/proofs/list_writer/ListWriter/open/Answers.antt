use Rattle.published_index.proofs.WriterLemmas.{first-turns}
use Rattle.published_index.proofs.list_writer.ListWriter.open.Goals as goal

pub publish_as-writer-requires : goal.publish_as-writer-requires
publish_as-writer-requires g c next is =
    let writer = c.in_ok-writer.writer in
    first-turns writer.desk.shown.value _ c.in_ok-writer.ensures.1 next is _ _
