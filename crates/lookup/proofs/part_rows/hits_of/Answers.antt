use Rattle.std.proofs.Common.{map, sym, ap, ◌∙◌, ◌++◌, arith}
use Rattle.std.proofs.lemmas.List.{take_all}
use Rattle.lookup.specs.Reading.{hits_in, hits_of_part}
use Rattle.lookup.proofs.ReadHits.{parts-more}
use Rattle.row_sums.specs.Hits.{hit_as}
use Rattle.tally_rows.specs.Cover.{passes_row_key}
use Rattle.lookup.proofs.part_rows.hits_of.Goals as goal

pub loop-part-init : goal.loop-part-init
loop-part-init c = ap (map hit_as) c.new-hits.ensures.items

pub loop-part-preserved : goal.loop-part-preserved
loop-part-preserved c =
    let pick = passes_row_key c.args.wanted.now in
    c.in_ok-add_hits.ensures ∙ ap (λ l. l ++ hits_of_part pick c.part-item.result) c.loop-part.invariant
    ∙ sym (parts-more pick c.args.parts.now c.loop-part.part-index c.part-item.result c.loop-part-test.true c.part-item.is)

pub returns : goal.returns
returns c =
    c.loop-part.invariant
    ∙ ap (hits_in (passes_row_key c.args.wanted.now)) (take_all c.loop-part.part-index c.args.parts.now (omega (arith, c.loop-part-test.false)))
