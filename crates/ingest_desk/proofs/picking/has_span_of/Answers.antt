use Rattle.std.proofs.Common.{◌≡◌, sym, ◌∙◌}
use Rattle.ingest_desk.proofs.JobLemmas.{where_same_span}
use Rattle.ingest_desk.proofs.picking.has_span_of.Goals as goal

pub returns : goal.returns
returns c =
    let a = c.args.segment.now.span in
    let b = c.args.other.now.span in
    let first : a.first ≡ b.first =
    sym c.span-span.ensures.first ∙ c.if-span-other_span.false ∙ c.span-other_span.ensures.first in
    where_same_span a b c.span-span.result.count c.span-other_span.result.count c.requires first
    c.span-span.ensures.count c.span-other_span.ensures.count
