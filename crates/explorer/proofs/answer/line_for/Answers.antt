use Rattle.published_index.specs.Cover.{journal_of}
use Rattle.explorer.proofs.QueryLemmas.{answer_of}
use Rattle.explorer.proofs.answer.line_for.Goals as goal

pub returns : goal.returns
returns g c =
    answer_of c.args.book.now c.args.query.now (journal_of c.args.publisher.now.list) c.in_ok-found.found c.in_ok-found.ensures c.line_of.result c.line_of.ensures
