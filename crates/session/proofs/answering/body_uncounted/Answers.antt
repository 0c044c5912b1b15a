use Rattle.std.proofs.Common.{sym, ◌∙◌}
use Rattle.published_index.specs.Cover.{journal_of}
use Rattle.session.proofs.EmptyBook.{body-by-none, ok-weaker}
use Rattle.session.proofs.answering.body_uncounted.Goals as goal

pub returns-then-is_empty : goal.returns-then-is_empty
returns-then-is_empty g c =
    let empty = sym c.is_empty.ensures ∙ c.if-is_empty.true in
    ok-weaker _ _ (λ body is. body-by-none c.args.book.now c.args.query.now (journal_of c.args.snapshot.now)
    c.in_ok-found.found body.items empty c.in_ok-found.ensures.found is) c.body.result c.body.ensures
