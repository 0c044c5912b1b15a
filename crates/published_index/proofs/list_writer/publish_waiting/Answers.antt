use Rattle.published_index.proofs.WriterLemmas.{change-turns}
use Rattle.published_index.proofs.list_writer.publish_waiting.Goals as goal

pub publish_as-writer-requires : goal.publish_as-writer-requires
publish_as-writer-requires g c next is =
    let writer = c.args.writer in
    change-turns writer.desk.shown.value c.args.history _ _ c.requires.written c.requires.some next is _
